-- `job_checks::parse_checks::repeats::mark_from` meets its contract.
use Rattle.std.proofs.Common.{◌≡◌, ◌<◌, drop}
use Rattle.job_checks.specs.Marks.{mark_from}
use Rattle.job_checks.proofs.parse_checks.repeats.mark_from.Given as goal

abbrev pub invariant-loop-byte : goal.invariant-loop-byte
invariant-loop-byte g l = (l.mark < g.row.M) × (mark_from g.row.M l.first l.text ≡ mark_from g.row.M l.mark (drop l.byte-index l.text))
