-- `job::checking::check_job` meets its contract.
use mathlib.Core.Path.{◌∙◌}
use Rattle.std.proofs.Common.{rules as goal_rules}
use Rattle.job_checks.specs.Checks.{job_in}
use Rattle.job.proofs.CheckingLaws.{checks_refuse, forms_pass, asked_decides, asked_passes}
use Rattle.job.proofs.checking.check_job.Goals as goal

pub returns-in_err-accepted-clause-value : goal.returns-in_err-accepted-clause-value
returns-in_err-accepted-clause-value g c =
    let k = checks_refuse (job_in c.args.given) _ c.rules-rules.ensures _ c.in_err-accepted.ensures.value in search (goal_rules, k)

pub returns-in_err-asked-clause-value : goal.returns-in_err-asked-clause-value
returns-in_err-asked-clause-value g c =
    let k = asked_decides (job_in c.args.given) _ c.rules-rules.ensures c.in_ok-accepted.ensures.value _ c.in_err-asked.ensures.value in search (goal_rules, k)

pub check_asked-requires-clause-passed : goal.check_asked-requires-clause-passed
check_asked-requires-clause-passed g c = forms_pass (job_in c.args.given) _ c.rules-rules.ensures c.in_ok-accepted.ensures.value

pub new-requires : goal.new-requires
new-requires g c = (
  search goal_rules,
  (
    search goal_rules,
    (
      asked_passes (job_in c.args.given) _ c.rules-rules.ensures c.in_ok-accepted.ensures.value c.in_ok-asked.ensures.value,
      (c.in_ok-accepted.ensures.given.0 ∙ c.rules-rules.ensures, (c.in_ok-accepted.ensures.given.1, c.in_ok-asked.ensures.listed)),
    ),
  ),
)

pub returns-clause-value : goal.returns-clause-value
returns-clause-value g c =
    asked_decides (job_in c.args.given) _ c.rules-rules.ensures c.in_ok-accepted.ensures.value _ c.in_ok-asked.ensures.value
