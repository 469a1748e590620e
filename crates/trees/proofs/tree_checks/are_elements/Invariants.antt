-- `trees::tree_checks::are_elements` meets its contract.
use Rattle.std.proofs.Common.{◌≡◌, length}
use Rattle.syntax.specs.Rows.{every}
use Rattle.trees.proofs.tree_checks.are_elements.Given as goal

abbrev pub invariant-loop-c : goal.invariant-loop-c
invariant-loop-c l = every l.words ≡ every l.c

abbrev pub decreases-loop-c : goal.decreases-loop-c
decreases-loop-c l = length l.c
