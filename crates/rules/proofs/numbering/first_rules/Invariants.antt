-- `rules::numbering::first_rules` meets its contract: those added and those of the pairs left are the same in all.
use Rattle.std.proofs.Common.{◌≡◌, ◌++◌, ◌≤◌, ◌<◌, ◌+◌, length, take}
use Prim.Native.Nat.{◌^◌}
use Rattle.fragments.specs.Pairs.{pairs_in}
use Rattle.rules.specs.Numbering.{rules, rules_from}
use Rattle.rules.proofs.numbering.first_rules.Given as goal

abbrev pub invariant-loop-n : goal.invariant-loop-n
invariant-loop-n l =
    (l.n + length l.pair-iterator < 2 ^ 64) × (length l.first.items ≤ 16)
    × (take 16 (l.first.items ++ rules_from l.n l.pair-iterator) ≡ take 16 (rules (pairs_in l.pairs)))
