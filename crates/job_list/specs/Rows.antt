-- A job's rows, matched and nested, as rendering is handed them. These are promises of inner functions: no public contract names them.
-- Assumes nothing.
use Rattle.std.specs.Prelude.{ℕ, ◌≡◌, List}
use Rattle.captures.specs.Attempts.{comments_of}
use Rattle.parses.specs.Parses.{parses_of}
use Rattle.nester.specs.declared.Row.{Row}
use Rattle.rendering.specs.Traces.{within}
use Rattle.edits.specs.Traces.{list_trace}
use Rattle.rows.specs.Rows.{World}
use Rattle.collections.specs.Worlds.{world_of, outer_items}
use Rattle.render_replace.specs.Worlds.{Handed, handed_of, Shown}
use Rattle.job_checks.specs.Checks.{Job, rules_in}
use Rattle.job_answers.specs.Collected.{attempt_in, start_in, end_in, setting_of}
use Rattle.job_answers.specs.Answers.{list_in}

-- the world that a job's nested rows show
abbrev pub world_in : Job → List Row → World
world_in j rows = world_of (λ n r. comments_of (attempt_in j n r)) (setting_of j) rows

-- what is handed to rendering
abbrev pub handed_in : Job → List Row → Handed
handed_in j rows = handed_of (rules_in j) j.file j.range j.fact_text (parses_of j.parses j.parse_text) rows

-- the rows show that world, and the list of their edits is the job's, in every room
pub record RowsOf (j : Job) (rows : List Row) : Type 0 where
  pub shown : Shown (world_in j rows) (handed_in j rows)
  pub list : (room : ℕ) → list_in j room ≡ within (list_trace (start_in j) (end_in j) (outer_items (world_in j rows))) room
