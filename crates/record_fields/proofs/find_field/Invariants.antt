-- `record_fields::find_field` meets its contract. What was found last is left unless a field of the name follows.
use mathlib.Core.Path.{◌≡◌}
use Rattle.syntax.specs.Accessors.{or_else}
use Rattle.syntax.specs.Views.{elems_of, IsWithin}
use Rattle.matcher.specs.Matcher.{matcher_of}
use Rattle.record_fields.specs.Fields.{last_field}
use Rattle.record_fields.proofs.find_field.Given as goal

abbrev pub invariant-loop-c : goal.invariant-loop-c
invariant-loop-c l =
    let field = last_field (matcher_of l.x) l.name.kind l.name.text.now in
    (or_else (field (elems_of l.c-iterator)) (elems_of l.last) ≡ field (elems_of l.part)) × IsWithin l.last l.part × IsWithin l.c-iterator l.part
