-- Laws of `each_from`, and the rows from one on.
-- Assumes nothing.
use Prim.Native.Nat.{ℕ, zero, suc, ◌+◌, ◌<◌}
use mathlib.Core.Path.{◌≡◌, refl, sym, ap, ◌∙◌}
use mathlib.Core.List.{List, [], ◌++◌, append-nil, append_assoc}
use native.Mathlib.Omega.{arith}
use native.Mathlib.Numerals.{add-one}
use lib.ListN.{length, take, drop}
use Rattle.std.proofs.lemmas.List.{drop_more, take-append-drop}
use Rattle.std.proofs.lemmas.List.Concat.{flat_map-append}
use Rattle.candidates.specs.Candidates.{each}
use Rattle.nester.specs.declared.Row.{Row}
use Rattle.nester.specs.Rows.{no_row, row_at, placed_in, rows_in}
use Rattle.collections.specs.Worlds.{each_from, rows_from}

module _ {A : Type 0} (f : ℕ → List A) where
  each_next : (k : ℕ) → each (k + 1) f ≡ each k f ++ f k
  unfolding each
  each_next k = rw (add-one k)

  each_none : each 0 f ≡ []
  unfolding each
  each_none = refl

  -- the rest behind those before j
  each-rest : (m j : ℕ) → each j f ++ each_from m j f ≡ each (j + m) f
  unfolding each_from
  each-rest zero j = let e : j + 0 ≡ j = omega arith in append-nil (each j f) ∙ ap (λ (n : ℕ). each n f) (sym e)
  each-rest (suc m) j =
      let e : j + 1 + m ≡ j + suc m = omega arith in
      sym (append_assoc (each j f) (f j) (each_from m (j + 1) f)) ∙ ap (λ (l : List A). l ++ each_from m (j + 1) f) (sym (each_next j))
      ∙ each-rest m (j + 1) ∙ ap (λ (n : ℕ). each n f) e

  pub each_from_first : (n : ℕ) → each_from n 0 f ≡ each n f
  each_from_first n =
      let e : 0 + n ≡ n = omega arith in
      ap (λ (l : List A). l ++ each_from n 0 f) (sym each_none) ∙ each-rest n 0 ∙ ap (λ (k : ℕ). each k f) e

module _ (comments : ℕ → ℕ → List ℕ) (rows : List Row) (k : ℕ) (h : k < length rows) where
  -- the rows from k on: row k, and those behind it
  pub rows_next : rows_from comments rows k ≡ placed_in comments rows (row_at rows k) ++ rows_from comments rows (k + 1)
  rows_next = ap (λ (l : List Row). rows_in comments rows l) (drop_more rows k no_row h)

  -- and those before it
  pub rows_split : rows_in comments rows rows ≡ rows_in comments rows (take k rows) ++ rows_from comments rows k
  rows_split =
      ap (λ (l : List Row). rows_in comments rows l) (sym (take-append-drop k rows)) ∙ flat_map-append (placed_in comments rows) (take k rows) (drop k rows)
