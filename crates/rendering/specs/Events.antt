-- What comes of laying bytes, document 01, "A job": "Then the list is written from front to back, nested text before what holds it, and the
-- first event ends it: 29 a template placeholder unbound; 30 the next byte, laid behind the list so far and the unfinished texts around it,
-- does not fit; or the answer Asked, where a first rendering of expression or item kind has no parse. Asked gives kind and length, and the
-- buffer holds that text".
-- Assumes nothing.
use Rattle.std.specs.Prelude.{ℕ, ◌-◌, cond, List, [], ◌∷◌, ◌++◌, leb, length, Result, Ok, Err}

pub data Event : Type 0 where
  Unbound : Event
  NoRoom : Event
  Asked : (kind : ℕ) (text : List ℕ) → Event

-- an event ends all
abbrev pub after : {A B : Type 0} → Result A Event → (A → Result B Event) → Result B Event
after (Ok a) next = next a
after (Err e) next = Err e

-- what is laid in so much room
abbrev pub Text : Type 0
Text = ℕ → Result (List ℕ) Event

-- bytes: 30 where they do not fit
abbrev pub lay : List ℕ → Text
lay bs room = cond (leb (length bs) room) (Ok bs) (Err NoRoom)

-- one text behind another
infixl 20 ◌and_then◌
unfoldable pub ◌and_then◌ : Text → Text → Text
(a and_then b) room = after (a room) λ x. after (b (room - length x)) λ y. Ok (x ++ y)

-- texts in turn, each by itself
unfoldable pub in_turn : List Text → ℕ → Result (List (List ℕ)) Event
in_turn [] room = Ok []
in_turn (t ∷ ts) room = after (t room) λ x. after (in_turn ts (room - length x)) λ xs. Ok (x ∷ xs)
