-- The run over what is left is the whole run.
use mathlib.Core.Path.{◌≡◌}
use Prim.Native.Nat.{◌+◌, ◌≤◌}
use lib.ListN.{length}
use Rattle.syntax.specs.Views.{elems_of, IsWithin}
use Rattle.token_trees.specs.Runs.{run_from, run}
use Rattle.token_trees.proofs.runs.run_from.Given as goal

abbrev pub invariant-loop-next : goal.invariant-loop-next
invariant-loop-next l = record {
  same : run_from l.x.rule.now l.x.file.now (elems_of l.stop) (elems_of l.last) (elems_of l.p) (elems_of l.next-iterator) ≡ run l.x.rule.now l.x.file.now (elems_of l.fn.p) (elems_of l.c);
  p_within : IsWithin l.p l.fn.p;
  c_within : IsWithin l.next-iterator l.c;
  c_left : length l.next-iterator.words.now + 3 ≤ length l.c.words.now;
  last_within : IsWithin l.last l.c;
  last_is : 3 ≤ length l.last.words.now;
}
