-- The place of a row: it is that of another row's slot exactly where the row is nested in it, and outer exactly where it is kept outermost.
-- Assumes nothing.
use Prim.Native.Nat.{ℕ, ◌<◌}
use mathlib.Core.Path.{◌≡◌, refl, ap}
use mathlib.Core.Bool.{Bool, true, false, ◌&&◌, false≢true}
use mathlib.Core.List.{List}
use native.Mathlib.Omega.{arith}
use lib.Dec.{eqb}
use lib.ListN.{length}
use borrow.Author.Tests.{eqb-true, eq-eqb}
use Rattle.std.specs.Prelude.{Option, None, Some}
use Rattle.words.proofs.TestLaws.{and_both, and_of}
use Rattle.syntax.specs.Trees.{Elems}
use Rattle.nester.specs.Fates.{Place, outer, within, same}
use Rattle.nester.specs.declared.Nesting.{Nesting}
use Rattle.nester.specs.declared.Nesting.TheVariants.{NoMatch, NotKept, Outermost, Inside}
use Rattle.nester.specs.declared.Row.{Row}
use Rattle.nester.specs.Rows.{row_at, place_of, Candidates, IsBefore}
use Rattle.nester.proofs.Shown.{same_self, same_true}
use Rattle.nester.proofs.Settling.{one_state}
use Rattle.rows.specs.Rows.{is_inside}
use Rattle.collections.specs.Worlds.{is_outer}

-- whether a place is p
abbrev pub TellsBy : Place → Bool → Option Place → Type 0
TellsBy p b None = b ≡ false
TellsBy p b (Some q) = same p q ≡ b

-- the place of a slot of row k
abbrev pub slot_place : List Row → ℕ → ℕ → Place
slot_place rows k slot = within (row_at rows k).node (row_at rows k).rule slot

both_ways : (a b : Bool) → (a ≡ true → b ≡ true) → (b ≡ true → a ≡ true) → a ≡ b
both_ways true true f g = refl
both_ways true false f g = absurd (false≢true (f refl))
both_ways false true f g = absurd (false≢true (g refl))
both_ways false false f g = refl

pub tells-outer : (rows : List Row) (state : Nesting) → TellsBy outer (is_outer state) (place_of rows state)
tells-outer rows NoMatch = refl
tells-outer rows NotKept = refl
tells-outer rows Outermost = refl
tells-outer rows (Inside row taken) = refl

module _ (t : Elems) (rows : List Row) (given : Candidates t rows) (k slot : ℕ) (low : k < length rows) where
  pub tells_slot : (state : Nesting) → IsBefore (length rows) state → TellsBy (slot_place rows k slot) (is_inside k slot state) (place_of rows state)
  tells_slot NoMatch b = refl
  tells_slot NotKept b = refl
  tells_slot Outermost b = refl
  tells_slot (Inside row taken) b =
      let p = slot_place rows k slot in
      let q = slot_place rows row taken in
      both_ways (same p q) (eqb row k && eqb taken slot)
      (λ h.
      let e : Inside row taken ≡ Inside k slot = one_state t rows given (length rows) (omega arith) (Inside row taken) (Inside k slot) p b low (ap (λ (x : Place). Some x) (sym_of (same_true p q h))) refl in
      let f : row ≡ k = cc in
      let g : taken ≡ slot = cc in
      and_of (eq-eqb row k f) (eq-eqb taken slot g))
      (λ h.
      let u = and_both (eqb row k) (eqb taken slot) h in
      let f : row ≡ k = eqb-true row k u.0 in
      let g : taken ≡ slot = eqb-true taken slot u.1 in
      rw (f, g) (same_self p))
    where
      sym_of : {x y : Place} → x ≡ y → y ≡ x
      sym_of e = cc
