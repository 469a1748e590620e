-- How far the rows nested in a row reach: each row says it.
-- Assumes nothing.
use Rattle.std.specs.Prelude.{ℕ, zero, suc, ◌<◌, ◌≡◌, Bool, false, cond, List, eqb, length}
use Rattle.nester.specs.declared.Nesting.{Nesting}
use Rattle.nester.specs.declared.Nesting.TheVariants.{NoMatch, NotKept, Outermost, Inside}
use Rattle.nester.specs.declared.Row.{Row}
use Rattle.nester.specs.Rows.{row_at}

-- a state says row k, whatever the slot
abbrev pub is_within : ℕ → Nesting → Bool
is_within k NoMatch = false
is_within k NotKept = false
is_within k Outermost = false
is_within k (Inside row slot) = eqb row k

-- the place behind the last of so many rows that is nested in row k; 0 where none is
unfoldable pub nested_end : List Row → ℕ → ℕ → ℕ
nested_end rows zero k = 0
nested_end rows (suc n) k = cond (is_within k (row_at rows n).state) (suc n) (nested_end rows n k)

-- a row without its end
abbrev pub unlinked : Row → Row
unlinked r = record r { end = 0 }

-- each row says its end, and all else stays
pub record Linked (rows rows' : List Row) : Type 0 where
  pub long : length rows' ≡ length rows
  pub ends : (k : ℕ) → k < length rows → (row_at rows' k).end ≡ nested_end rows (length rows) k
  pub others : (k : ℕ) → unlinked (row_at rows' k) ≡ unlinked (row_at rows k)
