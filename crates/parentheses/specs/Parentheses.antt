-- Parentheses in a rendering, docs/src/src/replacing.rs: "Checks if the resulting code, when parsed doesn't split any placeholders due to
-- different order of operations between the search pattern and the replacement template. If any do, then we rerender the template and wrap
-- the problematic placeholders with parenthesis." A text is rendered in parts, and a part is a placeholder's or not.
-- Assumes nothing.
use Rattle.std.specs.Prelude.{ℕ, ◌+◌, Bool, false, cond, not, ◌&&◌, ◌||◌, List, [], ◌∷◌, ◌++◌, eqb, take, drop}
use Rattle.words.specs.Texts.{open_text, close_text}
use Rattle.parses.specs.Ranges.{NodeRange, is_among}

pub record Part : Type 0 where
  pub length : ℕ
  pub is_placeholder : Bool

-- how many bytes parts have
unfoldable pub total : List Part → ℕ
total [] = 0
total (p ∷ ps) = p.length + total ps

-- one of the placeholders has the range from start to end; the parts begin at byte x of the text
unfoldable pub has_range : ℕ → ℕ → ℕ → List Part → Bool
has_range start end x [] = false
has_range start end x (p ∷ ps) = (p.is_placeholder && eqb x start && eqb (x + p.length) end) || has_range start end (x + p.length) ps

-- `placeholder_tokens_requiring_parenthesis`: `placeholder_tokens_by_range` has the last placeholder of each range, and
-- `remove_node_ranges` takes out the ranges of the parse's nodes. So a placeholder requires parentheses where its range is none of the
-- node ranges and no later placeholder has that range.
unfoldable pub requires : List NodeRange → ℕ → List Part → List Bool
requires ranges x [] = []
requires ranges x (p ∷ ps) =
    (p.is_placeholder && not (is_among ranges x (x + p.length)) && not (has_range x (x + p.length) (x + p.length) ps))
    ∷ requires ranges (x + p.length) ps

-- a part's text, in parentheses if it is marked, and how many bytes these take
abbrev pub enclosed : Bool → List ℕ → List ℕ
enclosed marked t = cond marked (open_text ++ (t ++ close_text)) t

abbrev pub extra : Bool → ℕ
extra marked = cond marked 2 0

-- a text in its parts, those marked in parentheses
unfoldable pub wrapped : List Part → List Bool → List ℕ → List ℕ
wrapped [] ms t = t
wrapped (p ∷ ps) [] t = t
wrapped (p ∷ ps) (m ∷ ms) t = enclosed m (take p.length t) ++ wrapped ps ms (drop p.length t)

unfoldable pub added : List Bool → ℕ
added [] = 0
added (m ∷ ms) = extra m + added ms

-- the texts of parts, those marked in parentheses: what a second rendering lays in turn
unfoldable pub enclosed_each : List Bool → List (List ℕ) → List (List ℕ)
enclosed_each [] ts = ts
enclosed_each (m ∷ ms) [] = []
enclosed_each (m ∷ ms) (t ∷ ts) = enclosed m t ∷ enclosed_each ms ts
