-- `record_fields::is_taken` meets its contract.
use mathlib.Core.Path.{◌≡◌}
use Rattle.syntax.specs.Views.{elems_of}
use Rattle.matcher.specs.Matcher.{matcher_of}
use Rattle.record_fields.specs.Fields.{is_taken}
use Rattle.record_fields.proofs.is_taken.Given as goal

abbrev pub invariant-loop-q : goal.invariant-loop-q
invariant-loop-q l = let taken = is_taken (matcher_of l.x) l.number l.name.kind l.name.text.now in taken (elems_of l.q-iterator) ≡ taken (elems_of l.part)
