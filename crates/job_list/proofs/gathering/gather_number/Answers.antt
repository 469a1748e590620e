-- `gathering::gather_number` meets its contract.
use Rattle.job_list.proofs.GatherLaws.{gathers_unfound}
use Rattle.job_list.proofs.gathering.gather_number.Goals as goal

pub returns-in_default : goal.returns-in_default
returns-in_default g c = gathers_unfound c.args.job.now.checked c.args.number _ _ c.args.rows.now c.in_default.ensures
