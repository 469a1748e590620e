-- `job_checks::check_and_order` meets its contract.
use Rattle.std.proofs.Common.{sym}
use Rattle.job_checks.specs.Checks.{job_in}
use Rattle.job_checks.proofs.JobLaws.{keys_room}
use Rattle.job_checks.proofs.check_and_order.Goals as goal

pub slice_bounds-own-end : goal.slice_bounds-own-end
slice_bounds-own-end c =
    rw c.count_candidates-count.ensures (sym (keys_room (job_in c.args.job.now) (sym c.in_ok-check_candidates.ensures) c.args.keys.now c.requires.in_bounds))

pub order_candidates-requires : goal.order_candidates-requires
order_candidates-requires c =
    rw c.count_candidates-count.ensures (keys_room (job_in c.args.job.now) (sym c.in_ok-check_candidates.ensures) c.args.keys.now c.requires.in_bounds)
