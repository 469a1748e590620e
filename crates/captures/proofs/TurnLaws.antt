-- Laws of turns in a row: before the first, one more, and where one stops.
-- Assumes nothing.
use mathlib.Core.List.{List}
use Prim.Native.Nat.{ℕ}
use Rattle.std.proofs.Common.{Option}
use Rattle.syntax.specs.declared.parts.Part.{Part}
use Rattle.captures.specs.declared.State.{State}
use Rattle.captures.specs.declared.Turn.{Turn}
use Rattle.captures.specs.Turns.{Giving, GoesOn}

pub goes_first : (whole : Giving) (p c : Part) (s : State) (out : List ℕ) → GoesOn whole whole p c s out (record { p = p; c = c; state = s }) out
goes_first whole p c s out = record { right = λ r end g. g }

pub goes_further : (left between whole : Giving) (p c : Part) (s : State) (out : List ℕ) (t u : Turn) (out' out'' : List ℕ)
    → GoesOn between whole p c s out t out' → GoesOn left between t.p t.c t.state out' u out'' → GoesOn left whole p c s out u out''
goes_further left between whole p c s out t u out' out'' f g = record { right = λ r end h. f.right r end (g.right r end h) }

-- the answer for what is left is the whole's
pub goes_end : (left whole : Giving) (p c : Part) (s : State) (out : List ℕ) (t : Turn) (out' : List ℕ) (r : Option State) (end : List ℕ)
    → GoesOn left whole p c s out t out' → left t.p t.c t.state out' r end → whole p c s out r end
goes_end left whole p c s out t out' r end g h = g.right r end h
