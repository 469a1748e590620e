-- `syntax::parts::Part::skip_tokens` meets its contract.
use mathlib.Core.Path.{◌≡◌}
use lib.ListN.{length}
use Rattle.syntax.specs.Views.{elems_of, IsWithin}
use Rattle.syntax.specs.Siblings.{skip_tokens}
use Rattle.syntax.proofs.parts.Part.skip_tokens.Given as goal

abbrev pub invariant-loop-kinds : goal.invariant-loop-kinds
invariant-loop-kinds l = (skip_tokens l.kinds.low l.kinds.high (elems_of l.c) ≡ skip_tokens l.kinds.low l.kinds.high (elems_of l.self)) × IsWithin l.c l.self

abbrev pub decreases-loop-kinds : goal.decreases-loop-kinds
decreases-loop-kinds l = length l.c.words.now
