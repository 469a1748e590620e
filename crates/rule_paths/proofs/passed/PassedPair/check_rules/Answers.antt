-- `rule_paths::passed::PassedPair::check_rules` meets its contract.
use Rattle.std.proofs.lemmas.Result.{err_from_is_err_and}
use Rattle.rule_paths.proofs.FailLaws.{all_ahead, next_ahead, next_fails}
use Rattle.rule_paths.proofs.passed.PassedPair.check_rules.Goals as goal

pub loop-form-init : goal.loop-form-init
loop-form-init g c = rw (c.into_iter-form-iterator.ensures.into_iter_gives, c.left_forms-form-items.ensures.forms, c.self.view_is) (all_ahead c.args.self.now)

pub loop-form-preserved : goal.loop-form-preserved
loop-form-preserved g c = next_ahead c.args.self.now _ _ (rw c.in-Some.ensures.steps at c.loop-form.invariant) c.in_ok-check_rule.ensures

pub returns-in_err-check_rule : goal.returns-in_err-check_rule
returns-in_err-check_rule g c =
    let e = err_from_is_err_and c.from_residual.result c.from_residual.ensures.1 in
    rw (e.1, e.2) (next_fails c.args.self.now _ _ (rw c.in-Some.ensures.steps at c.loop-form.invariant) _ c.in_err-check_rule.ensures)
