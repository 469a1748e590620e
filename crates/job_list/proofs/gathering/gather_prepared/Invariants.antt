-- `gathering::gather_prepared` meets its contract.
use mathlib.Core.Path.{◌≡◌}
use lib.ListN.{length}
use Rattle.matcher.specs.FileFacts.{module_of}
use Rattle.checks.specs.Given.{file_in}
use Rattle.rule_match.specs.RuleMatch.{attempt_of}
use Rattle.job_list.specs.Gathered.{Gathers}
use Rattle.job_list.proofs.gathering.gather_prepared.Given as goal

abbrev pub invariant-loop-place : goal.invariant-loop-place
invariant-loop-place g l = (length l.rows ≡ length l.fn.rows)
    × Gathers l.number (attempt_of l.job.rules (file_in l.job.file) l.job.given.inputs.range) (module_of l.job.file.facts) l.place l.job.keys.now l.fn.rows l.rows
