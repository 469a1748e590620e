-- Node ranges of a parse, document 01, "Words": "then each node range (kinds 3 and 4), counted as the node that `fragments.rs` gives counts
-- it, inside the text's length".
-- Assumes nothing.
use Rattle.std.specs.Prelude.{ℕ, Bool, true, false, ◌&&◌, List, [], ◌∷◌, eqb, leb, map}
use Rattle.std.specs.List.{list_any}
use Rattle.words.specs.Fields.{kind_at, value_at}

pub record NodeRange : Type 0 where
  pub start : ℕ
  pub end : ℕ

-- the range that a part begins with
abbrev pub range_at : List ℕ → NodeRange
range_at c = record { start = value_at c 0; end = value_at c 1 }

-- the ranges of a list of words, two to a range
unfoldable pub ranges_of : List ℕ → List NodeRange
ranges_of [] = []
ranges_of (a ∷ []) = []
ranges_of (a ∷ (b ∷ l)) = range_at (a ∷ b ∷ l) ∷ ranges_of l

-- the ranges of words that stand in pairs
abbrev pub ranges_in : List (List ℕ) → List NodeRange
ranges_in pairs = map range_at pairs

-- "(kinds 3 and 4)"; "A start (kind 3) is never after its end (kind 4)"; inside a length of n bytes
abbrev pub is_range : ℕ → List ℕ → Bool
is_range n c = eqb (kind_at c 0) 3 && eqb (kind_at c 1) 4 && leb (value_at c 0) (value_at c 1) && leb (value_at c 1) n

unfoldable pub are_ranges : ℕ → List ℕ → Bool
are_ranges n [] = true
are_ranges n (a ∷ []) = false
are_ranges n (a ∷ (b ∷ l)) = is_range n (a ∷ b ∷ l) && are_ranges n l

-- one of the ranges is from start to end
abbrev pub is_from : ℕ → ℕ → NodeRange → Bool
is_from start end r = eqb r.start start && eqb r.end end

abbrev pub is_among : List NodeRange → ℕ → ℕ → Bool
is_among rs start end = list_any (is_from start end) rs
