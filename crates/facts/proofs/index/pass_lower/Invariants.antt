-- `facts::index::pass_lower` meets its contract: the entries passed are lower.
use Prim.Native.Nat.{◌≤◌}
use Rattle.sorting.specs.Sorted.{below}
use Rattle.facts.proofs.index.pass_lower.Given as goal

abbrev pub invariant-loop-place : goal.invariant-loop-place
invariant-loop-place l = l.place ≤ below l.number l.index
