-- `record_fields::are_asked` meets its contract.
use mathlib.Core.Path.{◌≡◌}
use Rattle.syntax.specs.Views.{elems_of}
use Rattle.matcher.specs.Matcher.{matcher_of}
use Rattle.record_fields.specs.Fields.{are_asked}
use Rattle.record_fields.proofs.are_asked.Given as goal

abbrev pub invariant-loop-c : goal.invariant-loop-c
invariant-loop-c l =
    let asked = are_asked (matcher_of l.x) (elems_of l.lists.p) in asked (elems_of l.c-iterator) ≡ asked (elems_of l.lists.c)
