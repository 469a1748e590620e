-- Within the limits the walk is the job on its list, as one statement: where that list has no more candidates than a job may have, answer
-- and buffer are the job's.
-- Assumes nothing.
use Rattle.std.specs.Prelude.{◌≡◌, ℕ, ◌≤◌, List, length}
use Rattle.words.specs.Buffer.{used_of}
use Rattle.candidates.specs.Candidates.{candidate_count}
use Rattle.job_checks.specs.Checks.{Job}
use Rattle.job_answers.specs.Answers.{job_answer, buffer_after}
use Rattle.walk_answers.specs.Walk.{walk_answer, walk_buffer}

abbrev pub WalkIsJob : Job → Type 0
WalkIsJob j =
    candidate_count j.candidates ≤ 1024 → (out : List ℕ)
    → (walk_answer j (used_of (length out)) ≡ job_answer j (used_of (length out))) × (walk_buffer j out ≡ buffer_after j out)
