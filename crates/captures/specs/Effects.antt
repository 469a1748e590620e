-- What the code keeps while it matches: eight bindings, the place behind the comments noted so far, and the buffer they are laid in, unless
-- they are only measured. Every attempt acts on these as its events say, one after the other.
-- Assumes nothing.
use Rattle.std.specs.Prelude.{ℕ, ◌+◌, ◌≡◌, Bool, true, cond, List, [], ◌∷◌, Option, Some, None, eqb, leb, length, slice_set, replicate}
use Rattle.words.specs.Buffer.{laid_if_room}
use Rattle.syntax.specs.Trees.{Elems}
use Rattle.syntax.specs.Accessors.{range_of}
use Rattle.captures.specs.declared.SelfKind.{SelfKind}
use Rattle.captures.specs.declared.SelfKind.TheVariants.{Owned, Ref, RefMut}
use Rattle.captures.specs.declared.Binding.{Binding}
use Rattle.captures.specs.declared.State.{State}
use Rattle.captures.specs.Attempts.{Event, Bound, Noted, Attempt, failed, matched}

-- "self kind (0 owned, 1 `&`, 2 `&mut`)"
abbrev pub self_kind : ℕ → SelfKind
self_kind n = cond (eqb n 0) Owned (cond (eqb n 1) Ref RefMut)

abbrev pub kind_number : SelfKind → ℕ
kind_number Owned = 0
kind_number Ref = 1
kind_number RefMut = 2

-- a binding from the start of one element to the end of another, with its stars and its self kind
abbrev pub binding : Elems → Elems → ℕ → SelfKind → Binding
binding first last stars kind = record { start = (range_of first).start; end = (range_of last).end; stars = stars; self_kind = kind }

-- no binding and no comment
abbrev pub nothing : State
nothing = record { bindings = replicate 8 None; noted = 0; lays = true }

-- the same bindings, with comments laid, or only measured, from a place on
abbrev pub moved_to : ℕ → Bool → State → State
moved_to at lays s = record { bindings = s.bindings; noted = at; lays = lays }

-- the place behind n bytes more in a room, or one past the room where they do not fit
abbrev pub place_behind : ℕ → ℕ → ℕ → ℕ
place_behind room at n = cond (leb (at + n) room) (at + n) (room + 1)

-- one event, and events in turn, with room for so many bytes of comments
abbrev pub recorded_one : ℕ → Event → State → State
recorded_one room (Bound slot b) s = record { bindings = slice_set s.bindings slot (Some b); noted = s.noted; lays = s.lays }
recorded_one room (Noted t) s = moved_to (place_behind room s.noted (length t)) s.lays s

unfoldable pub recorded : ℕ → List Event → State → State
recorded room [] s = s
recorded room (e ∷ es) s = recorded room es (recorded_one room e s)

-- the buffer then
abbrev pub laid_one : Event → State → List ℕ → List ℕ
laid_one (Bound slot b) s out = out
laid_one (Noted t) s out = cond s.lays (laid_if_room out s.noted t) out

unfoldable pub laid_by : List Event → State → List ℕ → List ℕ
laid_by [] s out = out
laid_by (e ∷ es) s out = laid_by es (recorded_one (length out) e s) (laid_one e s out)

-- The state, or none, that an attempt answers, and the buffer then; after one that failed the buffer is of no use.
abbrev pub AnswerOf : Attempt → State → List ℕ → Option State → Type 0
AnswerOf failed s out r = r ≡ None
AnswerOf (matched es) s out r = r ≡ Some (recorded (length out) es s)

abbrev pub BufferOf : Attempt → State → List ℕ → List ℕ → Type 0
BufferOf failed s out out' = length out' ≡ length out
BufferOf (matched es) s out out' = out' ≡ laid_by es s out

pub record Gives (a : Attempt) (s : State) (out : List ℕ) (r : Option State) (out' : List ℕ) : Type 0 where
  pub answer : AnswerOf a s out r
  pub buffer : BufferOf a s out out'

-- What is right for the attempt that is left, made with what was kept, is right for the whole attempt.
pub record Leads (left whole : Attempt) (s : State) (out : List ℕ) (s' : State) (out' : List ℕ) : Type 0 where
  pub gives : (r : Option State) (end : List ℕ) → Gives left s' out' r end → Gives whole s out r end
