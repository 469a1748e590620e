-- `trees::tree_checks::is_shallow` meets its contract.
use Rattle.std.proofs.Common.{◌≡◌, leb, length}
use Rattle.syntax.specs.Trees.{depth}
use Rattle.syntax.specs.Views.{elems_of}
use Rattle.trees.proofs.tree_checks.+is_shallow.Given as goal

abbrev pub decreases-is_shallow : goal.decreases-is_shallow
decreases-is_shallow l = l.levels

abbrev pub invariant-loop-c : goal.invariant-loop-c
invariant-loop-c l = leb (depth (elems_of l.c)) l.levels ≡ leb (depth (elems_of l.part)) l.levels

abbrev pub decreases-loop-c : goal.decreases-loop-c
decreases-loop-c l = length l.c.words.now
