-- `syntax::parts::Part::find_node` meets its contract.
use mathlib.Core.Path.{◌≡◌}
use Rattle.syntax.specs.Views.{elems_of, IsWithin}
use Rattle.syntax.specs.Accessors.{find_node}
use Rattle.syntax.proofs.parts.Part.find_node.Given as goal

abbrev pub invariant-loop-c : goal.invariant-loop-c
invariant-loop-c l = (find_node l.kinds.low l.kinds.high (elems_of l.c-iterator) ≡ find_node l.kinds.low l.kinds.high (elems_of l.self)) × IsWithin l.c-iterator l.self
