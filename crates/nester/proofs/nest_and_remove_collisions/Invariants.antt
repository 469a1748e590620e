-- `nester::nest_and_remove_collisions` meets its contract. The loop's invariant: the rows passed are nested.
use Rattle.syntax.specs.Views.{tree_of}
use Rattle.nester.proofs.RowSteps.{Passed, Last}
use Rattle.nester.proofs.nest_and_remove_collisions.Given as goal

abbrev pub invariant-loop-i : goal.invariant-loop-i
invariant-loop-i l = record { passed : Passed (tree_of l.tree) l.i l.initial.rows l.rows; last : Last (tree_of l.tree) l.rows l.last l.i }
