-- `gathering::gather_prepared` meets its contract.
use native.Mathlib.Omega.{arith}
use Rattle.job_list.proofs.GatherLaws.{key_node}
use Rattle.job_list.proofs.gathering.gather_prepared.Goals as goal

pub gather_one-requires : goal.gather_one-requires
gather_one-requires g c = (omega arith, (omega arith, (c.requires.ready, (key_node c.args.job.now.checked c.loop-place.place c.loop-place-test.true, c.requires.number_bound))))
