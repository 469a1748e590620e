-- What is answered of a text with those nested in it, document 01, "A job": "nested text before what holds it, and the first
-- event ends it"; "30 the next byte, laid behind the list so far and the unfinished texts around it, does not fit"; "Asked gives kind and
-- length, and the buffer holds that text".
-- Assumes nothing.
use Rattle.std.specs.Prelude.{ℕ, ◌+◌, ◌≤◌, ◌<◌, ◌≡◌, List, length, Result, Ok, Err}
use Rattle.rendering.specs.Events as events
use Rattle.rendering.specs.Traces.{Trace, stopped, reach}
use Rattle.rows.specs.Frames.{between}
use Rattle.replacing.specs.declared.Event.{Event}
use Rattle.replacing.specs.declared.Event.TheVariants.{Unbound, NoRoom, Asked}

-- an event ends a text, which begins at a place, where the buffer has room for what is laid by then
pub record Stops (u : Trace) (begin : ℕ) (out : List ℕ) (e : events.Event) : Type 0 where
  pub count : ℕ
  pub fits : begin + count ≤ length out
  pub stops : u ≡ stopped count e

-- a text from a place on, in a buffer that is used whole
abbrev pub Answers : Trace → ℕ → List ℕ → Result ℕ Event → Type 0
Answers u begin out (Ok behind) = (begin ≤ behind) × (behind ≤ length out) × (u ≡ Ok (between begin behind out))
Answers u begin out (Err Unbound) = Stops u begin out events.Unbound
Answers u begin out (Err NoRoom) = length out < begin + reach u
Answers u begin out (Err (Asked kind from to)) = (from ≤ to) × (to ≤ length out) × Stops u begin out (events.Asked kind (between from to out))
