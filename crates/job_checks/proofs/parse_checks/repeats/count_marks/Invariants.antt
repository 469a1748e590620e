-- `job_checks::parse_checks::repeats::count_marks` meets its contract.
use Rattle.std.proofs.Common.{◌≡◌, length}
use Rattle.job_checks.proofs.MarkLaws.{CountedSoFar}
use Rattle.job_checks.proofs.parse_checks.repeats.count_marks.Given as goal

abbrev pub invariant-loop-parse : goal.invariant-loop-parse
invariant-loop-parse g l = (length l.counts ≡ g.row.M) × CountedSoFar g.row.M l.counts l.parses l.parse-iterator
