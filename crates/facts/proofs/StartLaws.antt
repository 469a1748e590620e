-- Where the entries of each element begin in an index, and the search among those of one element.
-- Assumes nothing.
use mathlib.Core.Path.{◌≡◌, refl, sym, ap, ◌∙◌}
use mathlib.Core.List.{List, [], ◌∷◌}
use Prim.Native.Nat.{ℕ, zero, suc, ◌+◌, ◌-◌, ◌*◌, ◌<◌, ◌≤◌}
use native.Mathlib.Omega.{arith}
use lib.ListN.{length, get_or, set, take, drop}
use lib.Seq.{get_or-set_same, get_or-set_other}
use Rattle.sorting.specs.Sorted.{below, From, Rising}
use Rattle.sorting.proofs.Laws.{split, from_less, below_none, below_low, below_high, below_length, below-before, below-after}

-- ---- numbers of a rising list passed in turn

module _ (v : ℕ) (l : List ℕ) (r : Rising l) (i : ℕ) (lower : i ≤ below v l) where
  pub goes_past : i < length l → (v ≤ get_or l i 0 → ⊥) → i + 1 ≤ below v l
  goes_past h n = split (below v l) i (λ k. absurd (n (below-after v l i r k h))) (λ k. omega (arith, k))

  pub stops_here : i < length l → v ≤ get_or l i 0 → i ≡ below v l
  stops_here h k = split (below v l) i (λ m. omega (arith, m, lower)) (λ m. absurd (omega (arith, below-before v l i r m, k)))

  pub stops_behind : length l ≤ i → length l ≡ below v l
  stops_behind h = omega (arith, h, lower, below_length v l)

-- a higher number has no fewer below it
pub below_rises : (v w : ℕ) (l : List ℕ) → v ≤ w → below v l ≤ below w l
below_rises v w [] h = omega (arith, below_none v [] tt, below_none w [] tt)
below_rises v w (x ∷ l) h =
    split w x
    (λ k. omega (arith, below_high w x l k, below_high v x l (omega (arith, h, k)), below_rises v w l h))
    (λ k. split v x
    (λ m. omega (arith, below_low w x l k, below_high v x l m, below_rises v w l h))
    (λ m. omega (arith, below_low w x l k, below_low v x l m, below_rises v w l h)))

-- ---- a part of a rising list

-- behind numbers that are lower
below_behind : (v : ℕ) (l : List ℕ) (n : ℕ) → Rising l → n ≤ below v l → n + below v (drop n l) ≡ below v l
below_behind v l zero r h = omega arith
below_behind v [] (suc n) r h = absurd (omega (arith, h, below_none v [] tt))
below_behind v (x ∷ l) (suc n) r h =
    split v x
    (λ k. absurd (omega (arith, h, below_none v (x ∷ l) (k, from_less v x l k r.0))))
    (λ k. omega (arith, below_low v x l k, below_behind v l n r.1 (omega (arith, h, below_low v x l k))))

-- before numbers of which none is
below_ahead : (v : ℕ) (l : List ℕ) (n : ℕ) → below v l ≤ n → Rising l → below v (take n l) ≡ below v l
below_ahead v l zero h r = omega (arith, h, below_none v [] tt)
below_ahead v [] (suc n) h r = refl
below_ahead v (x ∷ l) (suc n) h r =
    split v x
    (λ k. below_high v x (take n l) k ∙ below_ahead v l n (omega (arith, h, below_high v x l k, below_none v l (from_less v x l k r.0))) r.1 ∙ sym (below_high v x l k))
    (λ k. below_low v x (take n l) k ∙ ap suc (below_ahead v l n (omega (arith, h, below_low v x l k)) r.1) ∙ sym (below_low v x l k))

rising_behind : (l : List ℕ) (n : ℕ) → Rising l → Rising (drop n l)
rising_behind l zero r = r
rising_behind [] (suc n) r = tt
rising_behind (x ∷ l) (suc n) r = rising_behind l n r.1

pub rising_part : (l : List ℕ) (n m : ℕ) → Rising l → Rising (take m (drop n l))
rising_part l n m r = ahead (drop n l) m (rising_behind l n r)
  where
    from_ahead : (x : ℕ) (l : List ℕ) (n : ℕ) → From x l → From x (take n l)
    from_ahead x l zero f = tt
    from_ahead x [] (suc n) f = tt
    from_ahead x (y ∷ l) (suc n) f = (f.0, from_ahead x l n f.1)

    ahead : (l : List ℕ) (n : ℕ) → Rising l → Rising (take n l)
    ahead l zero r = tt
    ahead [] (suc n) r = tt
    ahead (x ∷ l) (suc n) r = (from_ahead x l n r.0, ahead l n r.1)

-- between two places
pub below_within : (v : ℕ) (l : List ℕ) (from to : ℕ) → Rising l → from ≤ below v l → below v l ≤ to → from + below v (take (to - from) (drop from l)) ≡ below v l
below_within v l from to r h k =
    let b = below_behind v l from r h in
    omega (arith, b, below_ahead v (drop from l) (to - from) (omega (arith, b, k)) (rising_behind l from r))

-- from where no entry of an element stands before, to where none stands behind
pub part_there : (index : List ℕ) (element number from to : ℕ) → from ≤ below (element * 70368744177664) index → below ((element + 1) * 70368744177664) index ≤ to
    → element * 70368744177664 ≤ number → number ≤ (element + 1) * 70368744177664 → (from ≤ below number index) × (below number index ≤ to)
part_there index element number from to f t l h = (
  omega (arith, f, below_rises (element * 70368744177664) number index l),
  omega (arith, t, below_rises number ((element + 1) * 70368744177664) index h),
)

-- ---- a table of starts

-- the numbers of entries fit
pub start_few : (v : ℕ) (l : List ℕ) → length l ≤ 16383 → below v l < 65536
start_few v l h = omega (arith, h, below_length v l)

-- one more start laid
pub start_laid : (starts index : List ℕ) (n s e : ℕ) → n < length starts → s ≡ below (n * 70368744177664) index
    → ((e : ℕ) → e < n → get_or starts e 0 ≡ below (e * 70368744177664) index) → e < n + 1 → get_or (set starts n s) e 0 ≡ below (e * 70368744177664) index
start_laid starts index n s e h v laid k =
    split n e
    (λ m. let same : e ≡ n = omega (arith, m, k) in rw same (get_or-set_same starts n s 0 h ∙ v))
    (λ m. get_or-set_other starts n e s 0 (λ q. omega (arith, q, m)) ∙ laid e m)
