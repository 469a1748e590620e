-- One turn of a loop over siblings of the pattern and of the code. What it promises is said of the predicates that the answer has to meet,
-- for what is left and for the whole: where the turn goes on, what is right for what is left is right for the whole; where it stops, no
-- match is.
-- Assumes nothing.
use Rattle.std.specs.Prelude.{ℕ, ◌<◌, List, Option, Some, None, length}
use Rattle.syntax.specs.Views.{IsWithin}
use Rattle.syntax.specs.declared.parts.Part.{Part}
use Rattle.captures.specs.declared.State.{State}
use Rattle.captures.specs.declared.Turn.{Turn}

-- what is left of pattern and code, a state, a buffer, and an answer with the buffer then
abbrev pub Giving : Type 1
Giving = Part → Part → State → List ℕ → Option State → List ℕ → Type 0

-- what is right for what a turn leaves, with the buffer then, is right for the whole
pub record GoesOn (left whole : Giving) (p c : Part) (s : State) (out : List ℕ) (t : Turn) (out' : List ℕ) : Type 0 where
  pub right : (r : Option State) (end : List ℕ) → left t.p t.c t.state out' r end → whole p c s out r end

abbrev pub TurnOf : Giving → Giving → Part → Part → State → List ℕ → Option Turn → List ℕ → Type 0
TurnOf left whole p c s out None out' = whole p c s out None out'
TurnOf left whole p c s out (Some t) out' = GoesOn left whole p c s out t out'

-- it uses up no more than there is, and some of the code where it goes on
abbrev pub Steps : Part → Part → Option Turn → Type 0
Steps p c None = Unit {0}
Steps p c (Some t) = IsWithin t.p p × IsWithin t.c c × (length t.c.words.now < length c.words.now)
