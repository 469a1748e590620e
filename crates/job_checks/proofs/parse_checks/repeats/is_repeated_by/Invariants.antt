-- `job_checks::parse_checks::repeats::is_repeated_by` meets its contract.
use Rattle.std.proofs.Common.{◌≡◌, length}
use Rattle.std.specs.Prelude.{IfSome}
use Rattle.parses.specs.Parses.{is_repeated}
use Rattle.job_checks.specs.Marks.{Counted}
use Rattle.job_checks.proofs.parse_checks.repeats.is_repeated_by.Given as goal

abbrev pub invariant-loop-first : goal.invariant-loop-first
invariant-loop-first g l = IfSome l.counts (λ c. Counted g.row.M c.now l.rest) × (is_repeated l.parses ≡ is_repeated l.rest)

abbrev pub decreases-loop-first : goal.decreases-loop-first
decreases-loop-first g l = length l.rest
