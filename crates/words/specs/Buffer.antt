-- The output buffer, document 01, "Refusals by operation": "An output buffer is used up to its first 1,048,576 bytes; a refusal leaves these
-- all 0, success leaves 0 after the result, and bytes beyond never change."
-- Assumes nothing.
use Rattle.std.specs.Prelude.{ℕ, ◌+◌, ◌-◌, ◌/◌, ◌%◌, cond, List, [], ◌∷◌, ◌++◌, leb, length, take, drop, replicate, Option, Some, None}

-- how many bytes of a buffer of n are used
abbrev pub used_of : ℕ → ℕ
used_of n = cond (leb n 1048576) n 1048576

-- a result, and 0 up to n bytes
abbrev pub padded : ℕ → List ℕ → List ℕ
padded n bs = bs ++ replicate (n - length bs) 0

-- the buffer after an operation with the result bs; a refusal's result is []
abbrev pub filled : List ℕ → List ℕ → List ℕ
filled out bs = padded (used_of (length out)) bs ++ drop (used_of (length out)) out

-- bs laid over d at a place
abbrev pub laid : List ℕ → ℕ → List ℕ → List ℕ
laid d at bs = take at d ++ bs ++ drop (at + length bs) d

-- n bytes laid at a place of a buffer of m bytes: the place behind them, or no room
abbrev pub place_after : ℕ → ℕ → ℕ → Option ℕ
place_after m at n = cond (leb (at + n) m) (Some (at + n)) None

-- the buffer then: as it was where there is no room
abbrev pub laid_if_room : List ℕ → ℕ → List ℕ → List ℕ
laid_if_room d at bs = cond (leb (at + length bs) (length d)) (laid d at bs) d

-- "words little-endian"
abbrev pub word_bytes : ℕ → List ℕ
word_bytes w = w % 256 ∷ w / 256 % 256 ∷ w / 65536 % 256 ∷ w / 16777216 % 256 ∷ []
