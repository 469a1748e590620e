-- Demand 3, of a job, as one statement. Its sentences stand above the fields that say them.
-- Assumes nothing.
use Rattle.std.specs.Prelude.{◌≡◌, ℕ, List, length, Ok}
use Rattle.errors.specs.Refusals.{ok}
use Rattle.words.specs.Buffer.{used_of}
use Rattle.candidates.specs.Candidates.{has, Perm}
use Rattle.nester.specs.Places.{listed}
use Rattle.nester.specs.Collections.{collection, Collections}
use Rattle.rendering.specs.Texts.{rendered}
use Rattle.edits.specs.declared.Edited.TheVariants.{Edits}
use Rattle.edits.specs.Edits.{Edit, encode}
use Rattle.edits.specs.Loaded.{read_list}
use Rattle.edits.specs.Made.{Written, Rise, all_made, bytes_from, woven}
use Rattle.job_checks.specs.Checks.{Job, tree_in, candidates_in, rule_count, job_outcome}
use Rattle.job_answers.specs.Collected.{attempt_in, collection_in, start_in, end_in, setting_of}
use Rattle.job_answers.specs.Answers.{items_in, job_answer, job_bytes, buffer_after}

-- two jobs alike in all but the order of their candidates
pub record Alike (j k : Job) : Type 0 where
  pub pairs : j.pairs ≡ k.pairs
  pub fact_text : j.fact_text ≡ k.fact_text
  pub file : j.file ≡ k.file
  pub parses : j.parses ≡ k.parses
  pub parse_text : j.parse_text ≡ k.parse_text
  pub range : j.range ≡ k.range
  pub candidates : Perm (candidates_in j) (candidates_in k)

-- the edits of a list of so many bytes
pub record EditList (j : Job) (room n : ℕ) : Type 0 where
  pub edits : List Edit
  -- the bytes of the answer are those of the edits, and a loader that reads them has these edits again
  pub bytes : job_bytes j room ≡ encode edits
  pub size : length (encode edits) ≡ n
  pub read : read_list (length edits) (encode edits) ≡ edits
  -- "it has one edit for each kept outer match and no other, each at exactly its match's range and with the text demand 2 defines"
  pub each : Perm (listed (tree_in j) (rendered (setting_of j)) (collection_in j)) (items_in j)
  pub written : Written (start_in j) (end_in j) (items_in j) edits
  -- "Edits rise without overlap, that is, none starts before the one ahead ends"
  pub rise : Rise 0 (length j.file.text) edits
  -- "with all of them made the file is these texts and its bytes outside those ranges, all of them, unchanged and in order"
  pub made : all_made edits j.file.text ≡ woven (λ e. e.text) 0 (length j.file.text) edits j.file.text
  pub was : j.file.text ≡ woven (λ e. bytes_from e.start e.end j.file.text) 0 (length j.file.text) edits j.file.text

pub record Demand3 (j : Job) : Type 0 where
  -- "Whatever order a job's candidates are handed in, two jobs alike in all else, the buffer too, get the same answer, be it a refusal, Asked
  -- or an edit list, and leave the same bytes in the output buffer."
  pub any_order : (k : Job) → Alike j k → (out : List ℕ)
      → (job_answer j (used_of (length out)) ≡ job_answer k (used_of (length out))) × (buffer_after j out ≡ buffer_after k out)
  -- "Where that answer is an edit list"
  pub where_edits : (out : List ℕ) (n : ℕ) → job_answer j (used_of (length out)) ≡ Ok (Edits n) → EditList j (used_of (length out)) n
  -- its collections are those of all its candidates that match. "Whatever the matches, in each collection, outer or nested, no node equals
  -- another or is its ancestor. A match is dropped exactly when it meets a kept match, on its node or an ancestor, that has no captured range
  -- holding it."
  pub matched : collection_in j ≡ collection (tree_in j) (rule_count j) (attempt_in j) (has (candidates_in j))
  pub collections : job_outcome j ≡ ok → Collections (tree_in j) (rule_count j) (attempt_in j) (has (candidates_in j))
