-- `job_checks::parse_checks::repeats::count_marks` meets its contract.
use Rattle.std.proofs.Common.{ap, ◌∙◌, arith, length}
use Rattle.job_checks.proofs.MarkLaws.{CountedSoFar, length_counted, counted_next}
use Rattle.job_checks.proofs.parse_checks.repeats.count_marks.Goals as goal

pub loop-parse-init : goal.loop-parse-init
loop-parse-init g c = (c.told-counts, λ m k. rw (c.into_iter-parse-iterator.ensures.into_iter_gives, c.iter-parse-items.ensures) (omega (arith, c.requires.none m)))

pub loop-parse-preserved : goal.loop-parse-preserved
loop-parse-preserved g c =
    let l = c.loop-parse in
    let inv : CountedSoFar g.row.M l.counts c.args.parses.now l.parse-iterator = l.invariant.1 in
    let m = c.mark_of.result in (
      ap length c.count_mark.ensures ∙ length_counted l.counts m ∙ l.invariant.0,
      rw (c.count_mark.ensures, c.mark_of.ensures.value) (counted_next g.row.M l.counts c.args.parses.now c.in-Some.parse c.next.new.self
          (omega (arith, c.mark_of.ensures.upper_bound, c.mark_of.ensures.value, l.invariant.0))
          (rw c.in-Some.ensures.steps at inv)),
    )
