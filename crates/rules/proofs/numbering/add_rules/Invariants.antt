-- `rules::numbering::add_rules` meets its contract: those added and those left are the same in all.
use Rattle.std.proofs.Common.{◌≡◌, ◌++◌, ◌≤◌, length, map, take}
use Rattle.rules.specs.Forms.{forms_left}
use Rattle.rules.specs.Numbering.{rule_of}
use Rattle.rules.proofs.numbering.add_rules.Given as goal

abbrev pub invariant-loop-form : goal.invariant-loop-form
invariant-loop-form l =
    (length l.first.items ≤ 16)
    × (take 16 (l.first.items ++ map (rule_of l.number l.pair) l.form-iterator) ≡ take 16 (l.fn.first.items ++ map (rule_of l.number l.pair) (forms_left l.pair)))
