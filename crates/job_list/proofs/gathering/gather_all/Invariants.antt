-- `gathering::gather_all` meets its contract.
use mathlib.Core.Path.{◌≡◌}
use Prim.Native.Nat.{ℕ, ◌%◌, ◌<◌}
use lib.ListN.{length, get_or}
use Rattle.matcher.specs.FileFacts.{module_of}
use Rattle.checks.specs.Given.{file_in}
use Rattle.rule_match.specs.RuleMatch.{attempt_of}
use Rattle.job_list.specs.Told.{Told}
use Rattle.job_list.proofs.gathering.gather_all.Given as goal

abbrev pub invariant-loop-number : goal.invariant-loop-number
invariant-loop-number g l = (length l.rows ≡ length l.fn.rows)
    × ((i : ℕ) → i < length l.job.keys.now → get_or l.job.keys.now i 0 % 16 < l.number
    → Told (attempt_of l.job.rules (file_in l.job.file) l.job.given.inputs.range) (module_of l.job.file.facts) l.job.keys.now l.rows i)
