-- The edit list without a room: all its bytes, or the event that it meets and how many bytes are laid by then. That this is what `Edits` says,
-- in every room, is proved.
-- Assumes nothing.
use Rattle.std.specs.Prelude.{ℕ, ◌+◌, List, [], ◌∷◌, ◌++◌, length, Ok, Err}
use Rattle.nester.specs.Places.{Item}
use Rattle.rendering.specs.Traces.{Trace, stopped, ◌then◌}
use Rattle.edits.specs.Edits.{edit_words}

module _ (start_of end_of : ℕ → ℕ) where
  abbrev pub edit_trace : ℕ → Trace → Trace
  edit_trace n (Ok text) = Ok (edit_words (start_of n) (end_of n) (length text) ++ text)
  edit_trace n (Err s) = stopped (12 + s.at) s.event

  unfoldable pub list_trace : List (Item Trace) → Trace
  list_trace [] = Ok []
  list_trace (x ∷ xs) = edit_trace x.node x.what then list_trace xs
