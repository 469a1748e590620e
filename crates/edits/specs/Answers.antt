-- The answer of a job whose list was begun. Document 01: "the first event ends it: 29 a template placeholder unbound; 30 the next byte ..
-- does not fit; or the answer Asked .. Asked gives kind and length, and the buffer holds that text, then 0"; "A refusal returns its number
-- only"; "success leaves 0 after the result".
-- Assumes nothing.
use Rattle.std.specs.Prelude.{ℕ, List, [], length, Result, Ok, Err}
use Rattle.errors.specs.Refusals.{number_of}
use Rattle.errors.specs.declared.Refusal.{Refusal}
use Rattle.errors.specs.declared.Refusal.TheVariants as refusal
use Rattle.rendering.specs.Events.{Event, Unbound, NoRoom, Asked}
use Rattle.edits.specs.declared.Edited.{Edited}
use Rattle.edits.specs.declared.EditedNumbers.{EditedNumbers}
use Rattle.edits.specs.declared.Edited.TheVariants as edited

-- the answer, by the list's bytes or the event that ended it
abbrev pub answer_of : Result (List ℕ) Event → Result Edited Refusal
answer_of (Ok list) = Ok (edited.Edits (length list))
answer_of (Err Unbound) = Err refusal.UnboundPlaceholder
answer_of (Err NoRoom) = Err refusal.NoRoom
answer_of (Err (Asked kind text)) = Ok (edited.Asked kind (length text))

-- what the buffer holds
abbrev pub bytes_of : Result (List ℕ) Event → List ℕ
bytes_of (Ok list) = list
bytes_of (Err Unbound) = []
bytes_of (Err NoRoom) = []
bytes_of (Err (Asked kind text)) = text

-- 01's number and values of an answer: a refusal's number, 0 where nothing is refused; 1 where a text is asked for, and its kind; and the
-- length of that text or of the edit list
abbrev pub edited_numbers : Result Edited Refusal → EditedNumbers
edited_numbers (Err r) = record { refusal = number_of r; asked = 0; kind = 0; length = 0 }
edited_numbers (Ok (edited.Asked kind n)) = record { refusal = 0; asked = 1; kind = kind; length = n }
edited_numbers (Ok (edited.Edits n)) = record { refusal = 0; asked = 0; kind = 0; length = n }
