-- `CheckedJob::new` meets its contract.
use Rattle.job_checks.specs.Checks.{job_in}
use Rattle.job_checks.proofs.JobLaws.{job_checked}
use Rattle.job_checks.proofs.CheckedJob.new.Goals as goal

pub invariant_of-result : goal.invariant_of-result
invariant_of-result g c = let a = c.args in let r = c.requires in
    record { checked = job_checked (job_in a.given) a.rules a.file a.asked.parses a.asked.keys.now r.rules_are r.file_is r.passed r.listed }
