-- `record_fields::ordered_fields::starts_over` meets its contract.
use mathlib.Core.Path.{◌≡◌}
use Rattle.syntax.specs.Views.{elems_of, IsWithin}
use Rattle.matcher.specs.Matcher.{matcher_of}
use Rattle.record_fields.specs.Order.{starts_over}
use Rattle.record_fields.proofs.ordered_fields.starts_over.Given as goal

abbrev pub invariant-loop-q : goal.invariant-loop-q
invariant-loop-q l = (starts_over (matcher_of l.x) (elems_of l.q-iterator) ≡ starts_over (matcher_of l.x) (elems_of l.part)) × IsWithin l.q-iterator l.part
