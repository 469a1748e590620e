-- `each`, part by part: where the parts rise one behind the other, a number is put into its part.
-- Assumes nothing.
use mathlib.Core.Path.{◌≡◌, refl, sym}
use mathlib.Core.List.{List, [], ◌∷◌, ◌++◌}
use Prim.Native.Nat.{ℕ, zero, suc, ◌<◌, ◌≤◌}
use native.Mathlib.Omega.{arith}
use Rattle.words.proofs.TestLaws.{same_or, low_or}
use Rattle.sorting.specs.Sorted.{insert, From}
use Rattle.sorting.proofs.Laws.{insert-nil, insert_low, insert_high, insert-first, from_less, from_append}
use Rattle.candidates.specs.Candidates.{each}

-- ---- lower numbers in front, others behind

-- every number of a list is lower than v
abbrev pub Under : ℕ → List ℕ → Type 0
Under v [] = Unit {0}
Under v (x ∷ l) = (x < v) × Under v l

pub under_more : (v w : ℕ) (l : List ℕ) → v ≤ w → Under v l → Under w l
under_more v w [] h u = tt
under_more v w (x ∷ l) h u = (omega (arith, u.0), under_more v w l h u.1)

under_append : (v : ℕ) (a b : List ℕ) → Under v a → Under v b → Under v (a ++ b)
under_append v [] b u w = w
under_append v (x ∷ a) b u w = (u.0, under_append v a b u.1 w)

-- a number is put behind what is lower, and before what is not
insert-behind : (k : ℕ) (a b : List ℕ) → Under k a → insert k (a ++ b) ≡ a ++ insert k b
insert-behind k [] b u = refl
insert-behind k (x ∷ a) b u = rw (insert_high k x (a ++ b) u.0, insert-behind k a b u.1)

insert-before : (k : ℕ) (a b : List ℕ) → From k b → insert k (a ++ b) ≡ insert k a ++ b
insert-before k [] b f = rw (insert-first k b f, insert-nil k)
insert-before k (x ∷ a) b f =
    low_or x k
    (λ h. rw (insert_high k x (a ++ b) h, insert_high k x a h, insert-before k a b f))
    (λ h. rw (insert_low k x (a ++ b) h, insert_low k x a h))

-- ---- `each`, part by part

pub each_same : {A : Type 0} (f g : ℕ → List A) (n : ℕ) → ((i : ℕ) → i < n → f i ≡ g i) → each n f ≡ each n g
unfolding each
each_same f g zero h = refl
each_same f g (suc n) h = rw (each_same f g n (λ i l. h i (omega arith)), h n (omega arith))

pub each_none : {A : Type 0} (f : ℕ → List A) (n : ℕ) → ((i : ℕ) → f i ≡ []) → each n f ≡ []
unfolding each
each_none f zero h = refl
each_none f (suc n) h = rw (each_none f n h, h n)

-- part i has numbers from `low i` up to `low (i + 1)`
module _ (low : ℕ → ℕ) (up : (i : ℕ) → low i ≤ low (suc i)) where
  low_up : (i j : ℕ) → i ≤ j → low i ≤ low j
  low_up i zero h = let z : i ≡ 0 = omega arith in rw z (omega arith)
  low_up i (suc j) h = same_or i (suc j) (λ e. rw e (omega arith)) (λ e. omega (arith, low_up i j (omega arith), up j))

  module _ (f : ℕ → List ℕ) (parts : (i : ℕ) → From (low i) (f i) × Under (low (suc i)) (f i)) where
    pub each_under : (n : ℕ) → Under (low n) (each n f)
    unfolding each
    each_under zero = tt
    each_under (suc n) =
        under_append (low (suc n)) (each n f) (f n) (under_more (low n) (low (suc n)) (each n f) (up n) (each_under n)) (parts n).1

    pub each_from_lem : (n : ℕ) → From (low 0) (each n f)
    unfolding each
    each_from_lem zero = tt
    each_from_lem (suc n) =
        from_append (low 0) (each n f) (f n) (each_from_lem n) (from_less (low 0) (low n) (f n) (low_up 0 n (omega arith)) (parts n).0)

    -- a number is put into its part
    pub each-insert : (g : ℕ → List ℕ) (m k : ℕ) → low m ≤ k → k < low (suc m) → g m ≡ insert k (f m) → ((i : ℕ) → (i ≡ m → ⊥) → f i ≡ g i)
        → (n : ℕ) → m < n → insert k (each n f) ≡ each n g
    unfolding each
    each-insert g m k a b here others zero h = absurd (omega arith)
    each-insert g m k a b here others (suc n) h =
        same_or m n
        (λ e.
        let u : Under k (each n f) = under_more (low n) k (each n f) (rw e at a) (each_under n) in
        let i : g n ≡ insert k (f n) = rw e at here in
        rw (insert-behind k (each n f) (f n) u, i, each_same f g n (λ j l. others j (λ q. omega arith))))
        (λ e.
        let v : k ≤ low n = omega (arith, low_up (suc m) n (omega arith)) in
        rw (
          insert-before k (each n f) (f n) (from_less k (low n) (f n) v (parts n).0),
          each-insert g m k a b here others n (omega arith),
          others n (λ q. e (sym q)),
        ))
