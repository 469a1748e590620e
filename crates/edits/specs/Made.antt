-- A file with its edits made, demand 3: "one edit for each kept outer match and no other, each at exactly its match's range and with the text
-- demand 2 defines. Edits rise without overlap, that is, none starts before the one ahead ends, and with all of them made the file is these
-- texts and its bytes outside those ranges, all of them, unchanged and in order."
-- Assumes nothing.
use Rattle.std.specs.Prelude.{◌≡◌, ℕ, ◌-◌, ◌≤◌, List, [], ◌∷◌, ◌++◌, take, drop, Ok}
use Rattle.nester.specs.Places.{Item}
use Rattle.rendering.specs.Events.{Text}
use Rattle.edits.specs.Edits.{Edit}

-- the edits are one for each item, in order, each at exactly its node's range and with its text
pub data Written (start_of end_of : ℕ → ℕ) : List (Item Text) → List Edit → Type 0 where
  nil : Written start_of end_of [] []
  more : {x : Item Text} {xs : List (Item Text)} {e : Edit} {es : List Edit} → e.start ≡ start_of x.node → e.end ≡ end_of x.node
      → (room : ℕ) → x.what room ≡ Ok e.text → Written start_of end_of xs es → Written start_of end_of (x ∷ xs) (e ∷ es)

-- edits rise from one byte to another without overlap
abbrev pub Rise : ℕ → ℕ → List Edit → Type 0
Rise from to [] = from ≤ to
Rise from to (e ∷ es) = (from ≤ e.start) × (e.start ≤ e.end) × Rise e.end to es

-- one edit made: its range cut out, its text put in
abbrev pub made : Edit → List ℕ → List ℕ
made e file = take e.start file ++ (e.text ++ drop e.end file)

-- all of them, the last first, so that each finds its range where the file had it
unfoldable pub all_made : List Edit → List ℕ → List ℕ
all_made [] file = file
all_made (e ∷ es) file = made e (all_made es file)

-- the file's bytes from one to another
abbrev pub bytes_from : ℕ → ℕ → List ℕ → List ℕ
bytes_from from to file = take (to - from) (drop from file)

-- the file's bytes from one to another, with `what` in the place of each edit's range, and each byte outside those ranges as it is
unfoldable pub woven : (Edit → List ℕ) → ℕ → ℕ → List Edit → List ℕ → List ℕ
woven what from to [] file = bytes_from from to file
woven what from to (e ∷ es) file = bytes_from from e.start file ++ (what e ++ woven what e.end to es file)
