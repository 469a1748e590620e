-- `nester::settle` meets its contract. The loop's invariant: over the rows passed, the match has come to where the state says.
use Rattle.syntax.specs.Views.{tree_of}
use Rattle.nester.proofs.Settling.{Coming}
use Rattle.nester.proofs.settle.Given as goal

abbrev pub invariant-loop-i : goal.invariant-loop-i
invariant-loop-i l = Coming (tree_of l.tree) l.rows l.n l.place l.i
