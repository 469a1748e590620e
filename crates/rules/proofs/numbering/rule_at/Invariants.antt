-- `rules::numbering::rule_at` meets its contract: among the pairs left the rule has the number that is left.
use Rattle.std.proofs.Common.{◌≡◌, length, ◌+◌, ◌<◌, slice_get}
use Prim.Native.Nat.{◌^◌}
use Rattle.fragments.specs.Pairs.{pairs_in}
use Rattle.rules.specs.Numbering.{rules, rules_from}
use Rattle.rules.proofs.numbering.rule_at.Given as goal

abbrev pub invariant-loop-n : goal.invariant-loop-n
invariant-loop-n l =
    (l.n + length l.pair-iterator < 2 ^ 64) × (slice_get (rules_from l.n l.pair-iterator) l.left ≡ slice_get (rules (pairs_in l.pairs)) l.number)
