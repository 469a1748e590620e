-- Rows and elements as the loops meet them.
-- Assumes nothing.
use Rattle.std.proofs.Common.{◌≡◌, sym, ◌∙◌, Bool, true, false, ◌&&◌, refl, List, [], ◌∷◌, ℕ, ◌*◌, ◌≤◌, ◌<◌, length, drop, eqb, leb, arith}
use mathlib.Core.Bool.{and-false}
use borrow.Author.Tests.{eqb-true, eqb-false, eq-eqb, ne_eqb, le-leb, lt-leb}
use Rattle.words.specs.Fields.{kind_at, start_of, end_of}
use Rattle.syntax.specs.Parts.{span, rest_words}
use Rattle.syntax.specs.Rows.{in_row, is_element, every}
use Rattle.syntax.proofs.PartLaws.{span_pos}
use Rattle.syntax.proofs.RowLaws.{row_end, row_next, every_end, every-next}

-- the first element follows, and the row goes on behind it
pub row_on : (l : List ℕ) (from to : ℕ) → span l * 3 ≤ length l → start_of l ≡ from → in_row l from to ≡ in_row (rest_words l) (end_of l) to
row_on l from to k s = row_next l from to (omega (arith, span_pos l)) ∙ rw (le-leb (span l * 3) (length l) k, eq-eqb (start_of l) from s)

-- it begins elsewhere
pub row_off : (l : List ℕ) (from to : ℕ) → span l * 3 ≤ length l → (start_of l ≡ from → ⊥) → in_row l from to ≡ false
row_off l from to k n = row_next l from to (omega (arith, span_pos l)) ∙ rw (ne_eqb (start_of l) from n, and-false (leb (span l * 3) (length l)))

-- it is longer than the part, or there is none
pub row_cut : (l : List ℕ) (from to : ℕ) → length l < span l * 3 → in_row l from to ≡ (eqb (length l) 0 && eqb from to)
row_cut l from to k = by (eqb (length l) 0) refl
  where
    by : (b : Bool) → eqb (length l) 0 ≡ b → in_row l from to ≡ (eqb (length l) 0 && eqb from to)
    by true e = rw e (row_end l from to (eqb-true _ _ e))
    by false e =
        let ne : length l ≡ 0 → ⊥ = eqb-false (length l) 0 e in
        rw e (row_next l from to (omega (arith, ne)) ∙ rw (lt-leb (span l * 3) (length l) k))

-- a part too short for an element has none
element_short : (l : List ℕ) → length l < 3 → is_element l ≡ false
unfolding is_element
element_short [] h = refl
element_short (x ∷ []) h = refl
element_short (x ∷ y ∷ []) h = rw (and-false (eqb (kind_at (x ∷ y ∷ []) 1) 3))
element_short (x ∷ y ∷ z ∷ l) h = absurd (omega arith)

-- such a part is all good where it is empty
pub every_short : (l : List ℕ) → length l < 3 → every l ≡ eqb (length l) 0
every_short l h = by (eqb (length l) 0) refl
  where
    by : (b : Bool) → eqb (length l) 0 ≡ b → every l ≡ eqb (length l) 0
    by true e = every_end l (eqb-true _ _ e) ∙ sym e
    by false e =
        let ne : length l ≡ 0 → ⊥ = eqb-false (length l) 0 e in
        (every-next l (omega (arith, ne)) ∙ rw (element_short l h)) ∙ sym e

-- the first element, and the others
pub every_on : (l : List ℕ) → 3 ≤ length l → every l ≡ (is_element l && every (drop 3 l))
every_on l h = every-next l (omega arith)
