-- A list's raw code by the places of its placeholders: the text between them stays as it is.
-- Assumes nothing.
use Rattle.std.specs.Prelude.{ℕ, ◌+◌, ◌≤◌, ◌<◌, ◌≡◌, false, List, [], ◌∷◌, ◌++◌, length, Option, Some, None}
use Rattle.words.specs.Texts.{part, same_text, stand_in_prefix}
use Rattle.words.specs.Buffer.{laid}
use Rattle.tokens.specs.Tokens.{token_text}
use Rattle.parsing.specs.Reading.{Var}

-- the text before a placeholder, and its stand-in name
abbrev pub segment : List ℕ → ℕ → Var → List ℕ
segment text from v = part text from v.start ++ stand_in_prefix ++ token_text text v.name

-- the code of the text up to a byte, from another on
unfoldable pub segments : List ℕ → ℕ → ℕ → List Var → List ℕ
segments text end from [] = part text from end
segments text end from (v ∷ vs) = segment text from v ++ segments text end v.end vs

-- bytes laid in a buffer at a place, or no room for them; nothing is said of the buffer then
abbrev pub Lays : List ℕ → ℕ → List ℕ → Option ℕ → List ℕ → Type 0
Lays d at bs (Some n) d' = (n ≡ at + length bs) × (n ≤ length d) × (d' ≡ laid d at bs)
Lays d at bs None d' = length d < at + length bs

-- the rest of a text behind bytes that it begins with, whatever follows them, or it does not begin with them
abbrev pub Strips : List ℕ → List ℕ → Option (List ℕ) → Type 0
Strips code bs (Some rest) = (ys : List ℕ) → same_text (bs ++ ys) code ≡ same_text ys rest
Strips code bs None = (ys : List ℕ) → same_text (bs ++ ys) code ≡ false
