-- What matching one node, a job and the walk begin with, document 01: 1 to 15 and 17 to 21, then 22.
-- Assumes nothing.
use Rattle.std.specs.Prelude.{List, [], ◌∷◌}
use Rattle.errors.specs.Refusals.{Outcome}
use Rattle.fragments.specs.Pairs.{pairs_in}
use Rattle.checks.specs.declared.Rules.{Rules}
use Rattle.checks.specs.Given.{File, given_outcome}
use Rattle.rule_paths.specs.RulePaths.{paths_outcome}

abbrev pub to_resolve : Rules → File → List Outcome
to_resolve q f = given_outcome q f ∷ paths_outcome (pairs_in q.pairs) ∷ []
