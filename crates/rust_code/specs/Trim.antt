-- A list without WHITESPACE tokens at its ends.
-- Assumes nothing.
use Rattle.std.specs.Prelude.{ℕ, ◌≡◌, ◌≢◌, List, [], ◌∷◌, ◌++◌}
use Rattle.words.specs.declared.texts.Range.{Range}
use Rattle.tokens.specs.declared.Token.{Token}

-- WHITESPACE tokens only
abbrev pub Spaces : List Token → Type 0
Spaces [] = Unit {0}
Spaces (t ∷ ts) = (t.kind ≡ 2) × Spaces ts

-- the last token is none, and ends at a byte
abbrev pub EndsAt : List Token → ℕ → Type 0
EndsAt [] end = ⊥
EndsAt (t ∷ []) end = (t.kind ≢ 2) × (t.range.end ≡ end)
EndsAt (t ∷ u ∷ ts) end = EndsAt (u ∷ ts) end

-- neither the first nor the last token is one, and the tokens' bytes are a range; no tokens have no bytes
abbrev pub Between : List Token → Range → Type 0
Between [] r = r.start ≡ r.end
Between (t ∷ ts) r = (t.kind ≢ 2) × (t.range.start ≡ r.start) × EndsAt (t ∷ ts) r.end

-- the range of a list's tokens without those at its ends
pub record Trimmed (ts : List Token) (r : Range) : Type 0 where
  pub lead : List Token
  pub inner : List Token
  pub trail : List Token
  pub split : ts ≡ lead ++ inner ++ trail
  pub lead_spaces : Spaces lead
  pub trail_spaces : Spaces trail
  pub between : Between inner r
