-- The pair of a number, one row after the other.
-- Assumes nothing.
use mathlib.Core.Path.{◌≡◌, refl, ap}
use mathlib.Core.List.{List, [], ◌∷◌}
use Prim.Native.Nat.{ℕ, zero, suc, ◌-◌, ◌<◌, ◌≤◌}
use native.Mathlib.Omega.{arith}
use lib.ListN.{length, drop, length-drop}
use Rattle.std.specs.List.{AllByRecursion}
use Rattle.fragments.specs.declared.directory.Slice.TheVariants.{Words}
use Rattle.fragments.specs.Directory.{counted}
use Rattle.fragments.specs.Pairs.{Pair, next_pair, pairs_from, pair_behind}

pub pair_here : (p : Pair) → pair_behind 0 p ≡ p
unfolding pair_behind
pair_here p = refl

pub pair_suc : (n : ℕ) (p : Pair) → pair_behind (suc n) p ≡ pair_behind n (next_pair p)
unfolding pair_behind
pair_suc n p = refl

pub pairs_none : (p : Pair) → pairs_from 0 p ≡ []
unfolding pairs_from
pairs_none p = refl

pub pairs_more : (n : ℕ) (p : Pair) → 0 < n → pairs_from n p ≡ p ∷ pairs_from (n - 1) (next_pair p)
unfolding pairs_from
pairs_more zero p h = absurd (omega arith)
pairs_more (suc n) p h = let e : suc n - 1 ≡ n = omega arith in rw e

-- a turn of the iterator
pub pairs_step : (n : ℕ) (p r q : Pair) (now : List Pair) → pairs_from n p ≡ now → 0 < n → r ≡ p → q ≡ next_pair p → now ≡ r ∷ pairs_from (n - 1) q
pairs_step n p r q now e h f g = rw (← e, f, g) (pairs_more n p h)

-- n pairs are n, and the pair of a number is the one at that place
pub length-pairs : (n : ℕ) (p : Pair) → length (pairs_from n p) ≡ n
unfolding pairs_from
length-pairs zero p = refl
length-pairs (suc n) p = ap suc (length-pairs n (next_pair p))

-- no pair has more words than are handed in
pub pairs_within : (n : ℕ) (p : Pair) (m : ℕ) → length p.words ≤ m → AllByRecursion (λ (q : Pair). length q.words ≤ m) (pairs_from n p)
unfolding pairs_from
pairs_within zero p m h = tt
pairs_within (suc n) p m h = (h, pairs_within n (next_pair p) m (omega (arith, length-drop (counted Words p.row) p.words)))
