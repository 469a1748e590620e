-- `words::buffer::put` meets its contract: the first bytes are laid.
use mathlib.Core.Path.{◌≡◌}
use lib.ListN.{length}
use lib.Seq.{paste}
use Rattle.words.proofs.buffer.put.Given as goal

abbrev pub invariant-loop-i : goal.invariant-loop-i
invariant-loop-i l = (length l.out ≡ length l.fn.out) × (l.out ≡ paste l.fn.out l.at l.src l.i)
