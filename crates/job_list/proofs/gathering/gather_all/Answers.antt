-- `gathering::gather_all` meets its contract.
use native.Mathlib.Omega.{arith}
use Rattle.job_list.proofs.GatherLaws.{told_all}
use Rattle.job_list.proofs.gathering.gather_all.Goals as goal

pub returns : goal.returns
returns g c = told_all c.args.job.now.checked _ c.loop-number.number _ (omega (arith, c.loop-number-test.false, c.count-number-end.ensures)) c.loop-number.invariant.1
