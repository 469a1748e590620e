-- Node ranges in a list of words, and in pairs of words.
-- Assumes nothing.
use Rattle.std.proofs.Common.{◌≡◌, refl, ap, ℕ, suc, ◌/◌, arith, Bool, ◌||◌, List, [], ◌∷◌, length}
use Rattle.std.specs.Simd.{first_chunks}
use Rattle.std.specs.List.{list_any}
use Rattle.parses.specs.Ranges.{NodeRange, range_at, ranges_of, ranges_in}

-- the words of a list in pairs have its ranges
pub ranges_pairs : (l : List ℕ) → ranges_in (first_chunks 2 (length l / 2) l) ≡ ranges_of l
unfolding ranges_of
ranges_pairs [] = refl
ranges_pairs (a ∷ []) = refl
ranges_pairs (a ∷ (b ∷ l)) =
    let e : length (a ∷ b ∷ l) / 2 ≡ suc (length l / 2) = omega arith in
    rw e (ap (λ (rs : List NodeRange). range_at (a ∷ b ∷ l) ∷ rs) (ranges_pairs l))

-- a test of pairs
pub any_ranges : (p : NodeRange → Bool) (pairs : List (List ℕ)) → list_any p (ranges_in pairs) ≡ list_any (λ c. p (range_at c)) pairs
any_ranges p [] = refl
any_ranges p (c ∷ pairs) = ap (λ (b : Bool). p (range_at c) || b) (any_ranges p pairs)
