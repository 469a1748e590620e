-- Laws of the rows: those that are not nested in a slot are passed over, and from the last nested one on the rest is the file's.
-- Assumes nothing.
use mathlib.Core.Path.{◌≡◌, sym, ap, ◌∙◌}
use mathlib.Core.Bool.{true, false}
use Prim.Native.Nat.{ℕ, zero, suc, ◌+◌, ◌-◌, ◌≤◌, ◌<◌}
use native.Mathlib.Omega.{arith}
use Rattle.words.specs.Texts.{part}
use Rattle.std.specs.Prelude.{Ok}
use Rattle.rendering.specs.Traces.{◌then◌}
use Rattle.rows.specs.Rows.{World, count_of, is_nested, fill_trace, row_trace}

module _ (W : World) (k slot to : ℕ) where
  -- one row is passed over
  skip-one : (from j : ℕ) → j < count_of W → is_nested W.rows k slot j ≡ false
      → fill_trace W (count_of W - j) k slot from to j ≡ fill_trace W (count_of W - (j + 1)) k slot from to (j + 1)
  unfolding fill_trace
  skip-one from j h n =
      let e : count_of W - j ≡ suc (count_of W - (j + 1)) = omega arith in
      ap (λ (m : ℕ). fill_trace W m k slot from to j) e ∙ rw n

  -- n rows are
  skip-some : (from j n : ℕ) → j + n ≤ count_of W → ((i : ℕ) → j ≤ i → i < j + n → is_nested W.rows k slot i ≡ false)
      → fill_trace W (count_of W - j) k slot from to j ≡ fill_trace W (count_of W - (j + n)) k slot from to (j + n)
  skip-some from j zero h free = let e : j + 0 ≡ j = omega arith in rw e
  skip-some from j (suc n) h free =
      let e : j + suc n ≡ j + 1 + n = omega arith in
      skip-one from j (omega arith) (free j (omega arith) (omega arith))
      ∙ skip-some from (j + 1) n (omega arith) (λ i l m. free i (omega arith) (omega arith))
      ∙ ap (λ (i : ℕ). fill_trace W (count_of W - i) k slot from to i) (sym e)

  -- up to a row
  pub skip_to : (from i j : ℕ) → i ≤ j → j ≤ count_of W → ((n : ℕ) → i ≤ n → n < j → is_nested W.rows k slot n ≡ false)
      → fill_trace W (count_of W - i) k slot from to i ≡ fill_trace W (count_of W - j) k slot from to j
  skip_to from i j h l free =
      let e : i + (j - i) ≡ j = omega arith in
      skip-some from i (j - i) (omega arith) (λ n a b. free n a (omega arith)) ∙ ap (λ (n : ℕ). fill_trace W (count_of W - n) k slot from to n) e

  -- a row that is nested
  pub fill_nested : (from j : ℕ) → j < count_of W → is_nested W.rows k slot j ≡ true
      → fill_trace W (count_of W - j) k slot from to j
      ≡ (Ok (part W.file from (W.start_of j)) then row_trace W j then fill_trace W (count_of W - (j + 1)) k slot (W.end_of j) to (j + 1))
  unfolding fill_trace
  fill_nested from j h n =
      let e : count_of W - j ≡ suc (count_of W - (j + 1)) = omega arith in
      ap (λ (m : ℕ). fill_trace W m k slot from to j) e ∙ rw n

  -- none is from a row on
  pub fill_end : (from i : ℕ) → i ≤ count_of W → ((n : ℕ) → i ≤ n → n < count_of W → is_nested W.rows k slot n ≡ false)
      → fill_trace W (count_of W - i) k slot from to i ≡ Ok (part W.file from to)
  unfolding fill_trace
  fill_end from i h free =
      let e : count_of W - count_of W ≡ 0 = omega arith in
      skip_to from i (count_of W) h (omega arith) free ∙ ap (λ (m : ℕ). fill_trace W m k slot from to (count_of W)) e
