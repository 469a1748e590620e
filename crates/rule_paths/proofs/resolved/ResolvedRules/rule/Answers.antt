-- `rule_paths::resolved::ResolvedRules::rule` meets its contract.
use Rattle.std.proofs.Common.{sym, arith}
use Rattle.rule_paths.proofs.NeedLaws.{roomy_part}
use Rattle.rule_paths.proofs.LeftLaws.{found_passed, found_left}
use Rattle.rule_paths.proofs.resolved.ResolvedRules.rule.Goals as goal

pub new-requires : goal.new-requires
new-requires g c =
    let s = c.self in
    (omega arith, (rw c.at-pair.ensures.pair (found_passed s.inside.rules c.args.number c.in_ok-rule.rule (rw s.view_is (sym c.in_ok-rule.ensures)) s.invariant.passed), roomy_part g.row.N _ _ s.invariant.room c.at-pair.ensures.within))

pub invariant_of-result : goal.invariant_of-result
invariant_of-result g c =
    let s = c.self in
    rw (c.new.ensures, c.at-pair.ensures.pair) (found_left s.inside.rules c.args.number c.in_ok-rule.rule (rw s.view_is (sym c.in_ok-rule.ensures)) s.invariant.good)
