-- The answer of matching one node. Document 01: "A match answers its bindings in pattern order, and the buffer holds the texts of its noted
-- comments in turn; 16 comes last, where these do not fit."; "A refusal returns its number only."
-- Assumes nothing.
use Rattle.std.specs.Prelude.{ℕ, cond, List, [], Option, Some, None, Result, Ok, Err, leb, length}
use Rattle.errors.specs.declared.Refusal.{Refusal}
use Rattle.errors.specs.declared.Refusal.TheVariants.{DoesNotFit}
use Rattle.captures.specs.Attempts.{Attempt, failed, matched, comments}
use Rattle.captures.specs.Effects.{nothing, recorded}
use Rattle.answers.specs.declared.NodeMatch.{NodeMatch}

-- the answer, with room for so many bytes; a refusal and no match have no bindings
abbrev pub answer_of : ℕ → Attempt → Result (Option NodeMatch) Refusal
answer_of room failed = Ok None
answer_of room (matched es) =
    cond (leb (length (comments es)) room)
    (Ok (Some (record { comments_length = length (comments es); bindings = (recorded room es nothing).bindings })))
    (Err DoesNotFit)

-- what the buffer holds
abbrev pub bytes_of : ℕ → Attempt → List ℕ
bytes_of room failed = []
bytes_of room (matched es) = cond (leb (length (comments es)) room) (comments es) []
