-- Matching one node in stages: where nothing is refused, the answer is that of the rule's match over trees that are decoded once.
-- Assumes nothing.
use mathlib.Core.Path.{◌≡◌}
use lib.ListN.{replicate}
use Rattle.std.specs.Prelude.{Some}
use Rattle.errors.specs.Refusals.{ok}
use Rattle.words.specs.Buffer.{filled}
use Rattle.fragments.specs.declared.forms.Form.TheVariants.{Expression}
use Rattle.rules.specs.declared.forms.TemplateTree.TheVariants.{Absent}
use Rattle.rules.specs.declared.numbering.Rule.{Rule}
use Rattle.captures.specs.Attempts.{Attempt}
use Rattle.answers.specs.Answers.{answer_of, bytes_of}
use Rattle.checks.specs.Given.{found_rule}
use Rattle.match_node.specs.MatchNode.{match_outcome}
use Rattle.examples.specs.Table.{NodeMatched, answered, Search, rules_in, anywhere, searched}
use Rattle.examples.proofs.Attempts.{match_over, match_is}

-- the one rule of a search, and its match
abbrev pub only_rule : Rule
only_rule = record { pair = 0; form = Expression; template = Absent }

abbrev pub attempted : Search → Attempt
attempted s = match_over (rules_in s) s.file anywhere (Some only_rule) 1

pub searched_by : (s : Search) → match_outcome (rules_in s) s.file 0 anywhere 1 ≡ ok → found_rule (rules_in s) 0 ≡ Some only_rule
    → answered (searched s) ≡ NodeMatched (answer_of 8 (attempted s)) (filled (replicate 8 0) (bytes_of 8 (attempted s)))
searched_by s accepted found = rw (accepted, found, match_is (rules_in s) s.file anywhere (Some only_rule) 1)
