-- The edit list of traces, as document 01 writes it in a room, is its own trace in that room.
-- Assumes nothing.
use mathlib.Core.Path.{◌≡◌, refl, sym, ap, ◌∙◌}
use mathlib.Core.Bool.{cond}
use mathlib.Core.List.{List, [], ◌∷◌, ◌++◌, map, append_assoc}
use Prim.Native.Nat.{ℕ, ◌+◌, ◌-◌}
use native.Mathlib.Omega.{arith}
use native.Mathlib.Nat.{add_assoc}
use borrow.Author.Tests.{lt-ltb, le-ltb}
use lib.Dec.{ltb}
use lib.ListN.{length, length-append}
use Rattle.words.proofs.TestLaws.{low_or}
use Rattle.nester.specs.Places.{Item}
use Rattle.std.specs.Prelude.{Result, Ok, Err}
use Rattle.rendering.specs.Events.{Event, NoRoom, after}
use Rattle.rendering.specs.Traces.{Trace, within, reach, ◌then◌}
use Rattle.rendering.proofs.RoomLaws.{in_room, in_room-fits, in_room_full, in_room-after, in_room-behind, outcome, within-reach}
use Rattle.rendering.proofs.Theorem.{as_text}
use Rattle.edits.specs.Edits.{Edit, edit_words, encode, edit_of, write}
use Rattle.edits.specs.Traces.{edit_trace, list_trace}

-- 12 bytes and what follows them, by the definition's test of the room
room_for_words : {A : Type 0} (o : Result A Event) (room : ℕ) → cond (ltb room 12) (Err NoRoom) o ≡ in_room 12 o room
room_for_words o room = low_or room 12
    (λ h. rw (lt-ltb room 12 h) (sym (in_room_full 12 o room h)))
    (λ h. rw (le-ltb room 12 h) (sym (in_room-fits 12 o room h)))

-- bytes behind others
in_room_twice : {A : Type 0} (n m : ℕ) (o : Result A Event) (room : ℕ) → in_room n (in_room m o (room - n)) room ≡ in_room (n + m) o room
in_room_twice {A} n m o room =
    let f : ℕ → Result A Event = λ k. in_room m o (room - n) in
    sym (in_room-after n (Ok n) f room) ∙ in_room-behind n m room n f o refl

-- a text behind its words, and another trace behind it
behind-words : (words text : List ℕ) (u : Trace) (room : ℕ)
    → in_room (length words + length text + reach u) (after (outcome u) λ bs. Ok (words ++ (text ++ bs))) room ≡ within (Ok (words ++ text) then u) room
unfolding ◌then◌
behind-words words text (Ok bs) room =
    rw (append_assoc words text bs, length-append words (text ++ bs), length-append text bs, add_assoc (length words) (length text) (length bs))
behind-words words text (Err s) room = rw (length-append words text)

abbrev list_bytes : Result (List Edit) Event → Result (List ℕ) Event
list_bytes o = after o λ es. Ok (encode es)

module _ (start_of end_of : ℕ → ℕ) where
  one_more : (e : Edit) (o : Result (List Edit) Event)
      → list_bytes (after o λ es. Ok (e ∷ es)) ≡ after (list_bytes o) λ bs. Ok (edit_words e.start e.end (length e.text) ++ (e.text ++ bs))
  unfolding encode
  one_more e (Ok es) = refl
  one_more e (Err v) = refl

  -- an edit, and the rest of the list by its trace
  module _ (n room : ℕ) (rest : ℕ → Result (List Edit) Event) (u : Trace) (e : (r : ℕ) → list_bytes (rest r) ≡ within u r) where
    abbrev behind : List ℕ → Result (List Edit) Event
    behind text = after (rest (room - 12 - length text)) λ es. Ok (edit_of start_of end_of n text ∷ es)

    edit_within : (t : Trace)
        → list_bytes (cond (ltb room 12) (Err NoRoom) (after (within t (room - 12)) behind)) ≡ within (edit_trace start_of end_of n t then u) room
    unfolding ◌then◌
    edit_within (Err s) =
        ap list_bytes (room_for_words (after (within (Err s) (room - 12)) behind) room
        ∙ ap (λ o. in_room 12 o room) (in_room-after s.at (Err s.event) behind (room - 12))
        ∙ in_room_twice 12 s.at (Err s.event) room)
        ∙ in_room-after (12 + s.at) (Err s.event) (λ es. Ok (encode es)) room
    edit_within (Ok text) =
        let words = edit_words (start_of n) (end_of n) (length text) in
        let g : List ℕ → Result (List ℕ) Event = λ bs. Ok (words ++ (text ++ bs)) in
        let d : room - 12 - length text ≡ room - (12 + length text) = omega arith in
        ap list_bytes (room_for_words (after (within (Ok text) (room - 12)) behind) room
        ∙ ap (λ o. in_room 12 o room) (in_room-after (length text) (Ok text) behind (room - 12))
        ∙ in_room_twice 12 (length text) (behind text) room)
        ∙ in_room-after (12 + length text) (behind text) (λ es. Ok (encode es)) room
        ∙ ap (λ o. in_room (12 + length text) o room) (one_more (edit_of start_of end_of n text) (rest (room - 12 - length text))
        ∙ ap (λ o. after o g) (e (room - 12 - length text) ∙ within-reach u (room - 12 - length text))
        ∙ in_room-after (reach u) (outcome u) g (room - 12 - length text)
        ∙ ap (λ r. in_room (reach u) (after (outcome u) g) r) d)
        ∙ in_room_twice (12 + length text) (reach u) (after (outcome u) g) room
        ∙ behind-words words text u room

  -- THE THEOREM
  pub write-within : (xs : List (Item Trace)) (room : ℕ)
      → (after (write start_of end_of room (map as_text xs)) λ es. Ok (encode es)) ≡ within (list_trace start_of end_of xs) room
  unfolding write list_trace encode
  write-within [] room = sym (in_room-fits 0 (Ok []) room (omega arith))
  write-within (x ∷ xs) room =
      edit_within x.node room (λ r. write start_of end_of r (map as_text xs)) (list_trace start_of end_of xs) (write-within xs) x.what
