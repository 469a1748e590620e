-- Nested rows as rendering reads them, and the outer rows in turn with their texts: "one edit for each kept outer match".
-- Assumes nothing.
use Rattle.std.specs.Prelude.{ℕ, zero, suc, ◌+◌, Bool, true, false, cond, List, [], ◌∷◌, ◌++◌, drop}
use Rattle.parses.specs.Parses.{lookup}
use Rattle.candidates.specs.Candidates.{each}
use Rattle.nester.specs.Fates.{Placed}
use Rattle.nester.specs.Places.{Item}
use Rattle.nester.specs.declared.Nesting.{Nesting}
use Rattle.nester.specs.declared.Nesting.TheVariants.{NoMatch, NotKept, Outermost, Inside}
use Rattle.nester.specs.declared.Row.{Row}
use Rattle.nester.specs.Rows.{row_at, match_in, rows_in}
use Rattle.rendering.specs.Texts.{Setting}
use Rattle.rendering.specs.Traces.{Trace}
use Rattle.rows.specs.Rows.{World, count_of, row_trace}

module _ (comments : ℕ → ℕ → List ℕ) (S : Setting) (rows : List Row) where
  -- what each row's match is rendered with
  abbrev pub world_of : World
  world_of = record {
    rows = rows;
    file = S.file;
    start_of = λ k. S.start_of (row_at rows k).node;
    end_of = λ k. S.end_of (row_at rows k).node;
    fragments = λ k. S.fragments (match_in comments (row_at rows k));
    kind = λ k. S.kind (match_in comments (row_at rows k));
    comments = λ k. comments (row_at rows k).node (row_at rows k).rule;
    parse = λ kind text. lookup S.parses kind text;
  }

-- a match is kept outermost
abbrev pub is_outer : Nesting → Bool
is_outer NoMatch = false
is_outer NotKept = false
is_outer Outermost = true
is_outer (Inside row slot) = false

module _ (W : World) where
  abbrev pub item_of : ℕ → Item Trace
  item_of k = record { node = (row_at W.rows k).node; what = row_trace W k }

  abbrev pub outer_item : ℕ → List (Item Trace)
  outer_item k = cond (is_outer (row_at W.rows k).state) (item_of k ∷ []) []

  -- the outer matches with their texts, by row
  abbrev pub outer_items : List (Item Trace)
  outer_items = each (count_of W) outer_item

-- f j, f (j + 1) and so on, m of them, in turn
unfoldable pub each_from : {A : Type 0} → ℕ → ℕ → (ℕ → List A) → List A
each_from zero j f = []
each_from (suc m) j f = f j ++ each_from m (j + 1) f

-- the kept rows from j on
abbrev pub rows_from : (ℕ → ℕ → List ℕ) → List Row → ℕ → List Placed
rows_from comments rows j = rows_in comments rows (drop j rows)
