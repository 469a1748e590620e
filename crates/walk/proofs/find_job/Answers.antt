-- `walk::find_job` meets its contract.
use Rattle.std.proofs.Common.{rules, ◌≡◌, ◌<◌, length, None}
use Rattle.job_checks.specs.Checks.{rule_count}
use Rattle.walk_answers.specs.Walk.{walk_in, walk_matches}
use Rattle.walk_answers.proofs.CheckLaws.{walk_refused, too_many_matches}
use Rattle.walk_answers.proofs.FoundLaws.{finds_matches}
use Rattle.walk.proofs.find_job.Goals as goal

pub returns-in_err-accepted-clause-value : goal.returns-in_err-accepted-clause-value
returns-in_err-accepted-clause-value g c =
    let k = walk_refused (walk_in c.args.given) _ c.in_err-accepted.ensures.value in search (rules, k)

pub returns-in_err-ok_or-clause-value : goal.returns-in_err-ok_or-clause-value
returns-in_err-ok_or-clause-value g c =
    let j = walk_in c.args.given in
    let w = c.in_ok-accepted.ensures.walkable in
    let none : c.find_all.result ≡ None = search rules in
    let f = rw c.requires.none_found at c.find_all.ensures in
    let m = finds_matches c.args.given _ _ _ c.find_all.result c.find_all.new.found w c.count.ensures f in
    let many : 1024 < length (walk_matches j) = rw none at m in
    let k = too_many_matches j c.in_ok-accepted.ensures.value many in search (rules, k)
