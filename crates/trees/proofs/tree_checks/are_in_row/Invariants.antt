-- `trees::tree_checks::are_in_row` meets its contract.
use Rattle.std.proofs.Common.{◌≡◌, length}
use Rattle.syntax.specs.Rows.{in_row}
use Rattle.trees.proofs.tree_checks.are_in_row.Given as goal

abbrev pub invariant-loop-c : goal.invariant-loop-c
invariant-loop-c l = in_row l.part l.from l.to ≡ in_row l.c l.at l.to

abbrev pub decreases-loop-c : goal.decreases-loop-c
decreases-loop-c l = length l.c
