-- `walk_answers::check_walk` meets its contract.
use Rattle.std.proofs.Common.{rules}
use Rattle.walk_answers.specs.Walk.{walk_in}
use Rattle.walk_answers.proofs.CheckLaws.{resolving_refuses, forms_pass, walkable}
use Rattle.walk_answers.proofs.check_walk.Goals as goal

pub returns-in_err-accepted-clause-value : goal.returns-in_err-accepted-clause-value
returns-in_err-accepted-clause-value g c =
    let k = resolving_refuses (walk_in c.args.given.now) c.rules.result c.rules.ensures _ c.in_err-accepted.ensures.value in search (rules, k)

pub check_rules-requires : goal.check_rules-requires
check_rules-requires g c = forms_pass (walk_in c.args.given.now) c.rules.result c.rules.ensures c.in_ok-accepted.ensures.value

pub returns-clause-walkable : goal.returns-clause-walkable
returns-clause-walkable g c =
    walkable (walk_in c.args.given.now) c.rules.result c.rules.ensures c.in_ok-accepted.ensures.value _ _
    c.in_ok-accepted.ensures.given.0 c.in_ok-accepted.ensures.given.1 c.in_ok-check_rules.ensures
