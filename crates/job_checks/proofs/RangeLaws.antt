-- Which words are ranges, in pairs.
-- Assumes nothing.
use Rattle.std.proofs.Common.{◌≡◌, refl, ap, ℕ, suc, ◌<◌, ◌/◌, ◌%◌, arith, Bool, false, ◌&&◌, List, [], ◌∷◌, length}
use mathlib.Core.Bool.{and-false}
use Rattle.std.specs.Simd.{first_chunks}
use Rattle.std.specs.List.{list_all}
use Rattle.parses.specs.Ranges.{is_range, are_ranges}

-- an even number of words is that of ranges where each pair is one
pub ranges_even : (n : ℕ) (l : List ℕ) → length l % 2 ≡ 0 → are_ranges n l ≡ list_all (is_range n) (first_chunks 2 (length l / 2) l)
unfolding are_ranges
ranges_even n [] h = refl
ranges_even n (a ∷ []) h = absurd (omega arith)
ranges_even n (a ∷ (b ∷ l)) h =
    let e : length (a ∷ b ∷ l) / 2 ≡ suc (length l / 2) = omega arith in
    rw e (ap (λ (rest : Bool). is_range n (a ∷ b ∷ l) && rest) (ranges_even n l (omega arith)))

-- an odd number is not
pub ranges_odd : (n : ℕ) (l : List ℕ) → 0 < length l % 2 → are_ranges n l ≡ false
unfolding are_ranges
ranges_odd n [] h = absurd (omega arith)
ranges_odd n (a ∷ []) h = refl
ranges_odd n (a ∷ (b ∷ l)) h = rw (ranges_odd n l (omega arith)) (and-false (is_range n (a ∷ b ∷ l)))
