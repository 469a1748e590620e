-- `finding::find_all` meets its contract: what matches with the rules passed was found.
use mathlib.Core.Path.{◌≡◌}
use mathlib.Core.List.{◌++◌}
use Rattle.syntax.specs.Trees.{tree}
use Rattle.checks.specs.Given.{file_in}
use Rattle.rule_match.specs.RuleMatch.{attempt_of}
use Rattle.walk_nodes.specs.WalkCandidates.{walk_candidates, accepted}
use Rattle.walk.proofs.finding.find_all.Given as goal

abbrev pub invariant-loop-number : goal.invariant-loop-number
invariant-loop-number g l = l.found ≡ l.fn.found ++ accepted (attempt_of l.rules (file_in l.file) l.range) (walk_candidates (tree l.file.tree.words.now) l.number)
