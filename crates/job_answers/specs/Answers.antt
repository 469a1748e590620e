-- The answer of a job and its buffer. Document 01: "A refusal returns its number only"; "Then the list is written from front to back, nested
-- text before what holds it, and the first event ends it"; "An output buffer is used up to its first 1,048,576 bytes; a refusal leaves these
-- all 0, success leaves 0 after the result, and bytes beyond never change"; "Asked gives kind and length, and the buffer holds that text, then
-- 0".
-- Assumes nothing.
use Rattle.std.specs.Prelude.{ℕ, List, [], length, Result, Ok, Err}
use Rattle.errors.specs.declared.Refusal.{Refusal}
use Rattle.errors.specs.Refusals.{Outcome}
use Rattle.words.specs.Buffer.{used_of, filled}
use Rattle.nester.specs.Places.{Item, items}
use Rattle.rendering.specs.Events.{Event, after, Text}
use Rattle.rendering.specs.Texts.{rendered}
use Rattle.edits.specs.declared.Edited.{Edited}
use Rattle.edits.specs.Edits.{Edit, encode, write}
use Rattle.edits.specs.Answers.{answer_of, bytes_of}
use Rattle.job_checks.specs.Checks.{Job, tree_in, job_outcome}
use Rattle.job_answers.specs.Collected.{collection_in, start_in, end_in, setting_of}

-- each outer match with its text, in the order of the file
abbrev pub items_in : Job → List (Item Text)
items_in j = items (tree_in j) (rendered (setting_of j)) (collection_in j)

-- the edits in so much room, or the event that ends them; and the list's bytes
abbrev pub edits_in : Job → ℕ → Result (List Edit) Event
edits_in j room = write (start_in j) (end_in j) room (items_in j)

abbrev pub list_in : Job → ℕ → Result (List ℕ) Event
list_in j room = after (edits_in j room) λ es. Ok (encode es)

-- a check that refuses comes before all that
abbrev pub answer_after : Outcome → Result (List ℕ) Event → Result Edited Refusal
answer_after (Err r) list = Err r
answer_after (Ok tt) list = answer_of list

abbrev pub bytes_after : Outcome → Result (List ℕ) Event → List ℕ
bytes_after (Err r) list = []
bytes_after (Ok tt) list = bytes_of list

-- THE ANSWER in so much room, the bytes that it leaves there, and the whole buffer
abbrev pub job_answer : Job → ℕ → Result Edited Refusal
job_answer j room = answer_after (job_outcome j) (list_in j room)

abbrev pub job_bytes : Job → ℕ → List ℕ
job_bytes j room = bytes_after (job_outcome j) (list_in j room)

abbrev pub buffer_after : Job → List ℕ → List ℕ
buffer_after j out = filled out (job_bytes j (used_of (length out)))
