-- What rows count, one entry and one row after the other.
-- Assumes nothing.
use mathlib.Core.Path.{◌≡◌, refl, sym, ap, ◌∙◌}
use mathlib.Core.Bool.{true, false, ◌&&◌}
use mathlib.Core.List.{List, ◌++◌}
use Prim.Native.Nat.{ℕ, zero, suc, ◌+◌, ◌≤◌, ◌<◌}
use native.Mathlib.Omega.{arith}
use lib.Dec.{eqb}
use lib.ListN.{length, drop, length-append, get_or-append}
use lib.Seq.{drop_at}
use borrow.Author.Tests.{eqb-true, eq-eqb}
use Rattle.words.proofs.TestLaws.{both_ways, and_both, never}
use Rattle.words.proofs.TextLaws.{eqb_sym}
use Rattle.fragments.specs.declared.directory.Slice.{Slice}
use Rattle.fragments.specs.declared.directory.Slice.TheVariants.{Words, Bytes}
use Rattle.fragments.specs.Directory.{entry, count_at, before, counted, is_row, are_rows, total, row_count, add_up}

pub before_start : (w : Slice) (row : List ℕ) → before w 0 row ≡ 0
unfolding before
before_start w row = refl

before_suc : (w : Slice) (k : ℕ) (row : List ℕ) → before w (suc k) row ≡ before w k row + count_at w k row
unfolding before
before_suc w k row = refl

pub before-next : (w : Slice) (k : ℕ) (row : List ℕ) → before w (k + 1) row ≡ before w k row + count_at w k row
before-next w k row = let e : k + 1 ≡ suc k = omega arith in ap (λ (n : ℕ). before w n row) e ∙ before_suc w k row

-- no rows count nothing
pub add_end : (directory : List ℕ) (w b : ℕ) → (eqb w 0 && eqb b 0) ≡ add_up 0 directory w b
unfolding are_rows total
add_end directory w b = rw (eqb_sym w 0, eqb_sym b 0)

-- the first row of those that are left, and the others
module _ (directory row rest : List ℕ) (e : directory ≡ row ++ rest) (m : length row ≡ 27) where
  entry_same : (k : ℕ) → k < 27 → entry row k ≡ entry directory k
  entry_same k h = rw e (sym (get_or-append row rest 0 k (omega arith)))

  before_same : (s : Slice) (k : ℕ) → k ≤ 27 → before s k row ≡ before s k directory
  unfolding before
  before_same s zero h = refl
  before_same s (suc k) h = rw (before_same s k (omega arith), entry_same k (omega arith))

  is_row_same : is_row row ≡ is_row directory
  is_row_same = rw (entry_same 3 (omega arith), entry_same 4 (omega arith), entry_same 5 (omega arith), entry_same 6 (omega arith))

  count_suc : row_count directory ≡ suc (row_count rest)
  count_suc = let l : length directory ≡ 27 + length rest = ap length e ∙ length-append row rest ∙ omega arith in omega arith

  rest_is : drop 27 directory ≡ rest
  rest_is = rw e (drop_at row rest 27 m)

  module _ (w b : ℕ) where
    -- it counts no more than there is
    pub add-next : (v a : ℕ) → is_row row ≡ true → v + counted Words row ≡ w → a + counted Bytes row ≡ b → add_up (row_count directory) directory w b ≡ add_up (row_count rest) rest v a
    unfolding are_rows total
    add-next v a r f g =
        let x = before_same Words 27 (omega arith) in
        let y = before_same Bytes 27 (omega arith) in
        rw (count_suc, rest_is, ← is_row_same, r, ← x, ← y, ← f, ← g, swap (counted Words row) (total Words (row_count rest) rest) v, swap (counted Bytes row) (total Bytes (row_count rest) rest) a)
      where
        swap : (x y z : ℕ) → eqb (x + y) (z + x) ≡ eqb y z
        swap x y z =
            both_ways (eqb (x + y) (z + x)) (eqb y z)
            (λ e. eq-eqb y z (omega (arith, eqb-true (x + y) (z + x) e)))
            (λ e. eq-eqb (x + y) (z + x) (omega (arith, eqb-true y z e)))

    -- it is none or counts more
    pub add_misfit : (is_row row ≡ true → counted Words row ≤ w → counted Bytes row ≤ b → ⊥) → add_up (row_count directory) directory w b ≡ false
    unfolding are_rows total
    add_misfit f =
        rw count_suc
        (never _
        (λ h.
        let x = and_both _ (eqb (counted Bytes directory + total Bytes (row_count rest) (drop 27 directory)) b) h in
        let y = and_both _ (eqb (counted Words directory + total Words (row_count rest) (drop 27 directory)) w) x.0 in
        f
        (is_row_same ∙ (and_both (is_row directory) _ y.0).0)
        (omega (arith, eqb-true _ _ y.1, before_same Words 27 (omega arith)))
        (omega (arith, eqb-true _ _ x.1, before_same Bytes 27 (omega arith)))))
