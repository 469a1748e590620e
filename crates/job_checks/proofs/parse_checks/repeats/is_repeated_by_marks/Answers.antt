-- `job_checks::parse_checks::repeats::is_repeated_by_marks` meets its contract.
use Rattle.std.proofs.Common.{arith}
use Rattle.job_checks.proofs.MarkLaws.{none_counted}
use Rattle.job_checks.proofs.parse_checks.repeats.is_repeated_by_marks.Goals as goal

pub count_marks-requires : goal.count_marks-requires
count_marks-requires g c = (omega (arith, c.requires), (c.requires, none_counted g.row.M))
