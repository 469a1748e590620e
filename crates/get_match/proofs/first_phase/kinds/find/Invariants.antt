-- What is left begins at the number, and no element passed is a node of the kinds.
use Rattle.std.proofs.Common.{◌≡◌, ℕ, ◌*◌, ◌/◌, ◌<◌, ◌≤◌, false, length, drop}
use Rattle.syntax.specs.Accessors.{element_at, node_in}
use Rattle.syntax.specs.Views.{tree_of}
use Rattle.get_match.proofs.first_phase.kinds.find.Given as goal

abbrev pub invariant-loop-c : goal.invariant-loop-c
invariant-loop-c l = record {
  left : l.c ≡ drop (l.e * 3) l.tree.words.now;
  from : l.from ≤ l.e;
  to : l.e ≤ length l.tree.words.now / 3;
  passed : (i : ℕ) → l.from ≤ i → i < l.e → node_in l.kinds.low l.kinds.high (element_at i (tree_of l.tree)) ≡ false;
}

abbrev pub decreases-loop-c : goal.decreases-loop-c
decreases-loop-c l = length l.c
