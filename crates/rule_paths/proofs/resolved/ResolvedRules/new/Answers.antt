-- `rule_paths::resolved::ResolvedRules::new` meets its contract.
use Rattle.std.proofs.Common.{arith}
use Rattle.rule_paths.proofs.PairLaws.{all_ahead, next_passed, next_roomy, next_ahead}
use Rattle.rule_paths.proofs.resolved.ResolvedRules.new.Goals as goal

pub loop-pair-init : goal.loop-pair-init
loop-pair-init g c = rw c.into_iter-pair-iterator.ensures.into_iter_gives.0 (all_ahead c.args.rules c.requires.passed)

pub new-requires : goal.new-requires
new-requires g c =
    let a = (rw c.in-Some.ensures.steps at c.loop-pair.invariant) in
    (omega arith, (next_passed c.args.rules _ _ a, next_roomy c.args.rules _ _ a g.row.N c.requires.room))

pub loop-pair-preserved : goal.loop-pair-preserved
loop-pair-preserved g c =
    let a = (rw c.in-Some.ensures.steps at c.loop-pair.invariant) in
    next_ahead c.args.rules _ _ a (rw c.new.ensures at c.in_ok-check_rules.ensures)
