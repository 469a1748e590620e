-- `job_checks::parse_checks::repeats::is_repeated_by` meets its contract.
use Rattle.std.proofs.Common.{arith}
use Rattle.std.proofs.lemmas.Grind.{common_steps}
use Rattle.parses.specs.Parses.{is_repeated}
use Rattle.job_checks.proofs.MarkLaws.{counted_later}
use Rattle.job_checks.proofs.parse_checks.repeats.is_repeated_by.Goals as goal

pub loop-first-preserved : goal.loop-first-preserved
unfolding is_repeated
loop-first-preserved g c = (
  counted_later g.row.M c.args.counts c.in-Some.first c.next.new.self (rw c.in-Some.ensures.steps at c.loop-first.invariant.0),
  grind (arith, common_steps),
)
