-- What rows show: in a slot of row k exactly the rows that are nested there, in turn, and outermost exactly the outer ones.
-- Assumes nothing.
use Prim.Native.Nat.{ℕ, zero, suc, ◌+◌, ◌-◌, ◌≤◌, ◌<◌}
use mathlib.Core.Path.{◌≡◌, refl, ap, ◌∙◌}
use mathlib.Core.Bool.{Bool, true, false, cond}
use mathlib.Core.List.{List, [], ◌∷◌, ◌++◌}
use native.Mathlib.Omega.{arith}
use lib.ListN.{length}
use Rattle.std.specs.Prelude.{Option, None, Some}
use Rattle.std.proofs.lemmas.List.{drop_all}
use Rattle.syntax.specs.Trees.{Elems}
use Rattle.nester.specs.Matches.{Match}
use Rattle.nester.specs.Nest.{kept}
use Rattle.nester.specs.Fates.{Place, outer, inside, Placed, shown}
use Rattle.nester.specs.Places.{Item, laid}
use Rattle.nester.specs.declared.Nesting.{Nesting}
use Rattle.nester.specs.declared.Nesting.TheVariants.{NoMatch, NotKept, Outermost, Inside}
use Rattle.nester.specs.declared.Row.{Row}
use Rattle.nester.specs.Rows.{row_at, place_of, placed, match_in, placed_in, rows_in, Candidates, IsBefore, Held}
use Rattle.rows.specs.Rows.{is_nested}
use Rattle.collections.specs.Worlds.{is_outer, each_from, rows_from}
use Rattle.collections.proofs.PlaceLaws.{TellsBy, tells-outer, tells_slot}
use Rattle.collections.proofs.EachLaws.{rows_next}

-- whether row i is kept at p
abbrev pub Tells : List Row → Place → ℕ → Bool → Type 0
Tells rows p i b = TellsBy p b (place_of rows (row_at rows i).state)

IsBefore_later : (i n : ℕ) (state : Nesting) → i ≤ n → IsBefore i state → IsBefore n state
IsBefore_later i n NoMatch h b = tt
IsBefore_later i n NotKept h b = tt
IsBefore_later i n Outermost h b = tt
IsBefore_later i n (Inside row slot) h b = omega arith

pub tells_nested : (t : Elems) (comments : ℕ → ℕ → List ℕ) (rows : List Row) → Candidates t rows → Held rows (length rows)
    → (k slot i : ℕ) → k < length rows → i < length rows → Tells rows (inside (match_in comments (row_at rows k)) slot) i (is_nested rows k slot i)
tells_nested t comments rows given held k slot i h l =
    let state = (row_at rows i).state in
    tells_slot t rows given k slot h state (IsBefore_later i (length rows) state (omega arith) (held i l))

module _ (t : Elems) (comments : ℕ → ℕ → List ℕ) (rows : List Row) {T : Type 0} (render : Match → (ℕ → List (Item T)) → T) where
  -- what is rendered of row j, by the rows behind it
  abbrev pub item_by : ℕ → List Placed → Item T
  item_by j l =
      let m = match_in comments (row_at rows j) in
      record { node = m.node; what = render m (λ slot. laid t render (shown l (inside m slot))) }

  -- where it is kept it is the first of the collection
  abbrev first_at : Place → ℕ → List Placed → Bool → List (Item T)
  first_at p j l b = cond b (item_by j l ∷ []) [] ++ laid t render (shown l p)

  pub row_first : (p : Place) (j : ℕ) (l : List Placed) (b : Bool) → Tells rows p j b
      → laid t render (shown (placed_in comments rows (row_at rows j) ++ l) p) ≡ cond b (item_by j l ∷ []) [] ++ laid t render (shown l p)
  unfolding shown laid
  row_first p j l b o = go (place_of rows (row_at rows j).state) o
    where
      m : Match
      m = match_in comments (row_at rows j)

      by : (b : Bool) → laid t render (cond b (kept m (λ k. shown l (inside m k)) (shown l p)) (shown l p)) ≡ first_at p j l b
      by true = refl
      by false = refl

      go : (q : Option Place) → TellsBy p b q → laid t render (shown (placed m q ++ l) p) ≡ first_at p j l b
      go None e = rw e
      go (Some q) e = rw e (by b)

  abbrev pub item_at : ℕ → Item T
  item_at i = item_by i (rows_from comments rows (i + 1))

  at_place : (p : Place) (here : ℕ → Bool) → ((i : ℕ) → i < length rows → Tells rows p i (here i)) → (m j : ℕ) → j + m ≡ length rows
      → laid t render (shown (rows_from comments rows j) p) ≡ each_from m j (λ i. cond (here i) (item_at i ∷ []) [])
  unfolding each_from shown laid
  at_place p here tells zero j e = ap (λ (l : List Row). laid t render (shown (rows_in comments rows l) p)) (drop_all j rows (omega arith))
  at_place p here tells (suc m) j e =
      let rest = at_place p here tells m (j + 1) (omega arith) in
      ap (λ (l : List Placed). laid t render (shown l p)) (rows_next comments rows j (omega arith))
      ∙ row_first p j (rows_from comments rows (j + 1)) (here j) (tells j (omega arith))
      ∙ ap (λ (l : List (Item T)). cond (here j) (item_at j ∷ []) [] ++ l) rest

  -- THE SLOTS: of the rows from j on, those nested in a slot of row k are its collection, in turn
  pub in_slot_lem : Candidates t rows → Held rows (length rows) → (k slot j : ℕ) → k < length rows → j ≤ length rows
      → laid t render (shown (rows_from comments rows j) (inside (match_in comments (row_at rows k)) slot))
      ≡ each_from (length rows - j) j (λ i. cond (is_nested rows k slot i) (item_at i ∷ []) [])
  in_slot_lem given held k slot j h l =
      at_place (inside (match_in comments (row_at rows k)) slot) (is_nested rows k slot)
      (λ i. tells_nested t comments rows given held k slot i h) (length rows - j) j (omega arith)

  -- and those outer are the outer collection
  pub in_outer : (j : ℕ) → j ≤ length rows
      → laid t render (shown (rows_from comments rows j) outer)
      ≡ each_from (length rows - j) j (λ i. cond (is_outer (row_at rows i).state) (item_at i ∷ []) [])
  in_outer j l =
      at_place outer (λ i. is_outer (row_at rows i).state) (λ i h. tells-outer rows (row_at rows i).state) (length rows - j) j (omega arith)
