-- `syntax::trees::Tree::standing` meets its contract.
use Prim.Native.Nat.{◌+◌, ◌-◌, ◌≤◌}
use Rattle.syntax.proofs.Ancestors.{Reached}
use Rattle.syntax.proofs.trees.Tree.standing.Given as goal

abbrev pub invariant-loop-at : goal.invariant-loop-at
invariant-loop-at l = Reached l.self.words.now l.number l.depth l.parent l.at × (l.depth ≤ l.at + 1)

abbrev pub decreases-loop-at : goal.decreases-loop-at
decreases-loop-at l = l.number - l.at
