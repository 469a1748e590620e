-- `syntax::parts::Part::contains` meets its contract.
use mathlib.Core.Path.{◌≡◌}
use Rattle.syntax.specs.Views.{elems_of}
use Prim.Native.Nat.{◌≤◌}
use lib.ListN.{length}
use Rattle.syntax.specs.Accessors.{has_element}
use Rattle.syntax.proofs.parts.Part.+contains.Given as goal

abbrev pub decreases-contains : goal.decreases-contains
decreases-contains l = length l.self.words.now

abbrev pub invariant-loop-c : goal.invariant-loop-c
invariant-loop-c l = (has_element l.element l.kind (elems_of l.c-iterator) ≡ has_element l.element l.kind (elems_of l.self)) × (length l.c-iterator.words.now ≤ length l.self.words.now)
