-- The edit list, document 01: "Edit list, bytes, words little-endian: for each edit start (kind 5), end (kind 6), length (kind 7),
-- replacement"; "the list is written from front to back .. and the first event ends it", "an edit's three words before its text".
-- Assumes nothing.
use Rattle.std.specs.Prelude.{ℕ, ◌-◌, cond, List, [], ◌∷◌, ◌++◌, ltb, length, Result, Ok, Err}
use Rattle.words.specs.Fields.{edit_start, edit_end, edit_length}
use Rattle.words.specs.Buffer.{word_bytes}
use Rattle.nester.specs.Places.{Item}
use Rattle.rendering.specs.Events.{Event, NoRoom, after, Text}

pub record Edit : Type 0 where
  pub start : ℕ
  pub end : ℕ
  pub text : List ℕ

-- an edit's words, of a text of n bytes, and the bytes of a list
abbrev pub edit_words : ℕ → ℕ → ℕ → List ℕ
edit_words start end n = word_bytes (edit_start start) ++ (word_bytes (edit_end end) ++ word_bytes (edit_length n))

unfoldable pub encode : List Edit → List ℕ
encode [] = []
encode (e ∷ es) = edit_words e.start e.end (length e.text) ++ (e.text ++ encode es)

-- the ranges of nodes in the file
module _ (start_of end_of : ℕ → ℕ) where
  -- an edit at exactly the range of the match's node
  abbrev pub edit_of : ℕ → List ℕ → Edit
  edit_of n text = record { start = start_of n; end = end_of n; text = text }

  -- one edit for each item, in so much room: 30 where its three words do not fit
  unfoldable pub write : ℕ → List (Item Text) → Result (List Edit) Event
  write room [] = Ok []
  write room (x ∷ xs) =
      cond (ltb room 12) (Err NoRoom)
      (after (x.what (room - 12)) λ text. after (write (room - 12 - length text) xs) λ es. Ok (edit_of x.node text ∷ es))
