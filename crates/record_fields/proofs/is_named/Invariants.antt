-- `record_fields::is_named` meets its contract.
use mathlib.Core.Path.{◌≡◌}
use Rattle.syntax.specs.Views.{elems_of}
use Rattle.matcher.specs.Matcher.{matcher_of}
use Rattle.record_fields.specs.Fields.{is_named}
use Rattle.record_fields.proofs.is_named.Given as goal

abbrev pub invariant-loop-q : goal.invariant-loop-q
invariant-loop-q l = let named = is_named (matcher_of l.x) l.name.kind l.name.text.now in named (elems_of l.q-iterator) ≡ named (elems_of l.part)
