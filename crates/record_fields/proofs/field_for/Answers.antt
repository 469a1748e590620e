-- `record_fields::field_for` meets its contract.
use mathlib.Core.Path.{sym, ◌∙◌}
use Rattle.syntax.specs.Views.{elems_of}
use Rattle.matcher.specs.Matcher.{matcher_of}
use Rattle.record_fields.proofs.FieldLaws.{taken_not_free, free_not_taken}
use Rattle.record_fields.proofs.field_for.Goals as goal

pub returns-then-is_taken : goal.returns-then-is_taken
returns-then-is_taken c = let s = c.args in let n = c.in-Some.ensures in
    (n.0, taken_not_free (matcher_of s.x.now) (elems_of s.lists.p) s.q _ _ n.0 n.1 n.2 (sym c.is_taken.ensures ∙ c.if-is_taken.true))

pub returns : goal.returns
returns c = let s = c.args in let n = c.in-Some.ensures in let f = c.find_field.ensures in
    (n.0, free_not_taken (matcher_of s.x.now) (elems_of s.lists.p) s.q _ _ n.0 n.1 n.2 (sym c.is_taken.ensures ∙ c.if-is_taken.false), rw (← n.1, ← n.2) f.value, f.result_in_bounds)
