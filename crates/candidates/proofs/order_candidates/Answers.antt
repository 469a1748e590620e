-- `candidates::order_candidates` meets its contract.
use mathlib.Core.Path.{ap, sym, ◌∙◌}
use native.Mathlib.Omega.{arith}
use Rattle.sorting.specs.Sorted.{sort}
use Rattle.candidates.proofs.Loops.{lay-more, lay_end}
use Rattle.candidates.proofs.order_candidates.Goals as goal

pub loop-place-preserved : goal.loop-place-preserved
loop-place-preserved c = let l = c.loop-place in lay-more c.args.candidates.now l.keys l.place _ (omega arith) (rw c.tail.ensures at c.key_of.ensures) (omega arith) l.invariant

pub returns : goal.returns
returns c = let l = c.loop-place in c.sort.ensures ∙ ap sort (sym (l.invariant ∙ lay_end c.args.candidates.now l.keys l.place (omega arith) (omega arith)))
