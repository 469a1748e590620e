-- `rule_paths::resolved::ResolvedRules::find_rule` meets its contract.
use Rattle.std.proofs.Common.{refl, sym, ◌∙◌}
use Rattle.std.proofs.lemmas.Option.{slice_get_read, slice_get_past}
use borrow.Author.Tests.{ltb-true, ltb-false}
use Rattle.rule_paths.proofs.LeftLaws.{kept_rule}
use Rattle.rule_paths.proofs.resolved.ResolvedRules.find_rule.Goals as goal

pub returns-in_err-kept : goal.returns-in_err-kept
returns-in_err-kept g c =
    let s = c.self in
    let k = c.as_slice.result.now in
    c.from_residual.ensures ∙ sym (slice_get_past k c.args.number (ltb-false _ _ (sym c.in_err-kept.ensures.lookup.0))) ∙ rw (← s.view_is) (kept_rule s.inside.rules k c.args.number (c.as_slice.ensures.value ∙ s.invariant.kept) c.if-number-lt16.true)

pub returns-then-number-lt16 : goal.returns-then-number-lt16
returns-then-number-lt16 g c =
    let s = c.self in
    let k = c.as_slice.result.now in
    let r = c.in_ok-kept.ensures.lookup in
    rw (← s.view_is) (sym (slice_get_read k _ c.args.number c.in_ok-kept.kept.now refl (ltb-true _ _ (sym r.0)) r.1) ∙ kept_rule s.inside.rules k c.args.number (c.as_slice.ensures.value ∙ s.invariant.kept) c.if-number-lt16.true)
