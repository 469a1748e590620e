-- Lists of keys: none stands twice, and each later step's is there with the one before. Both are said by counts, which an order does not
-- change; in a rising list each key is looked at beside the one before.
-- Assumes nothing.
use mathlib.Core.Path.{◌≡◌, refl, sym, ◌∙◌}
use mathlib.Core.Bool.{Bool, true, false, not, ◌&&◌, ◌||◌, true≢false}
use mathlib.Core.List.{List, [], ◌∷◌}
use Prim.Native.Nat.{ℕ, zero, suc, ◌+◌, ◌-◌, ◌<◌, ◌≤◌}
use native.Mathlib.Omega.{arith}
use lib.Dec.{eqb, ltb}
use borrow.Author.Tests.{eqb-true, eqb-false, eq-eqb, ne_eqb, ltb-true, ltb-false, lt-ltb, le-ltb, not-true, not-false}
use Rattle.sorting.specs.Sorted.{count, From, Rising}
use Rattle.sorting.proofs.Laws.{from_less, count_none, count_same, count-other}
use Rattle.facts.specs.Keys.{is_later_key}
use Rattle.words.proofs.TestLaws.{same_or, low_or, and_both, or_neither, or_second}

-- ---- counts

-- a list in front of which a number is put counts no less
pub count-more : (k x : ℕ) (l : List ℕ) → count k l ≤ count k (x ∷ l)
count-more k x l = same_or x k (λ e. omega (arith, count_same k x l e)) (λ e. omega (arith, count-other k x l e))

-- ---- the two properties, and the tests for them

-- no number stands twice
abbrev pub Once : List ℕ → Type 0
Once l = (k : ℕ) → count k l ≤ 1

-- each later step's key in l has the one before in all
abbrev pub Filled : List ℕ → List ℕ → Type 0
Filled all l = (k : ℕ) → is_later_key k ≡ true → 0 < count k l → 0 < count (k - 1) all

-- `has_repeated` of the keys
unfoldable pub repeats : List ℕ → Bool
repeats [] = false
repeats (k ∷ l) = ltb 0 (count k l) || repeats l

-- `has_gap` of the keys
unfoldable pub gaps : List ℕ → List ℕ → Bool
gaps all [] = false
gaps all (k ∷ l) = (is_later_key k && not (ltb 0 (count (k - 1) all))) || gaps all l

-- the first test is for the first property
pub repeats_once : (l : List ℕ) → repeats l ≡ false → Once l
unfolding repeats
repeats_once [] h k = omega (arith, count_none k [] tt)
repeats_once (x ∷ l) h k =
    let p = or_neither (ltb 0 (count x l)) (repeats l) h in
    same_or x k
    (λ e. let n : count k l ≤ 0 = rw e at (ltb-false 0 (count x l) p.0) in omega (arith, count_same k x l e))
    (λ e. omega (arith, count-other k x l e, repeats_once l p.1 k))

pub once_repeats : (l : List ℕ) → Once l → repeats l ≡ false
unfolding repeats
once_repeats [] o = refl
once_repeats (x ∷ l) o =
    let n : count x l ≤ 0 = omega (arith, count_same x x l refl, o x) in
    rw (le-ltb 0 (count x l) n) (once_repeats l (λ k. omega (arith, count-more k x l, o k)))

-- and the second for the second
pub gaps-filled : (all l : List ℕ) → gaps all l ≡ false → Filled all l
unfolding gaps
gaps-filled all [] h k later c = absurd (omega (arith, count_none k [] tt))
gaps-filled all (x ∷ l) h k later c =
    let p = or_neither (is_later_key x && not (ltb 0 (count (x - 1) all))) (gaps all l) h in
    same_or x k
    (λ e.
    let n : not (ltb 0 (count (k - 1) all)) ≡ false = rw (e, later) at p.0 in
    ltb-true _ _ (not-false _ n))
    (λ e. gaps-filled all l p.1 k later (omega (arith, count-other k x l e)))

pub filled-gaps : (all l : List ℕ) → Filled all l → gaps all l ≡ false
unfolding gaps
filled-gaps all [] f = refl
filled-gaps all (x ∷ l) f = by (is_later_key x) refl (filled-gaps all l (λ k later c. f k later (omega (arith, count-more k x l))))
  where
    by : (b : Bool) → is_later_key x ≡ b → gaps all l ≡ false → ((is_later_key x && not (ltb 0 (count (x - 1) all))) || gaps all l) ≡ false
    by true e rest = rw (e, lt-ltb 0 (count (x - 1) all) (f x e (omega (arith, count_same x x l refl)))) rest
    by false e rest = rw e rest

-- ---- rising lists of keys

-- `is_steady` of the keys
unfoldable pub steady_keys : ℕ → List ℕ → Bool
steady_keys next [] = true
steady_keys next (k ∷ l) = not (eqb (k + 1) next) && (not (is_later_key k) || eqb k next) && steady_keys (k + 1) l

-- the key of a later step is not 0
pub later_positive : (k : ℕ) → is_later_key k ≡ true → 0 < k
later_positive zero e = absurd (true≢false (sym e))
later_positive (suc k) e = omega arith

-- what the test looks at for one key
record Step (next k : ℕ) (l : List ℕ) : Type 0 where
  apart : k + 1 ≡ next → ⊥
  follows : is_later_key k ≡ true → k ≡ next
  rest : steady_keys (k + 1) l ≡ true

step_of : (next k : ℕ) (l : List ℕ) → steady_keys next (k ∷ l) ≡ true → Step next k l
unfolding steady_keys
step_of next k l h =
    let p = and_both (not (eqb (k + 1) next) && (not (is_later_key k) || eqb k next)) (steady_keys (k + 1) l) h in
    let q = and_both (not (eqb (k + 1) next)) (not (is_later_key k) || eqb k next) p.0 in
    record {
      apart = eqb-false _ _ (not-true _ q.0);
      follows = λ e. eqb-true k next (or_second (not (is_later_key k)) (eqb k next) (rw e) q.1);
      rest = p.1;
    }

of_step : (next k : ℕ) (l : List ℕ) → Step next k l → steady_keys next (k ∷ l) ≡ true
unfolding steady_keys
of_step next k l s = rw (ne_eqb (k + 1) next s.apart, follows (is_later_key k) refl, s.rest)
  where
    follows : (b : Bool) → is_later_key k ≡ b → (not (is_later_key k) || eqb k next) ≡ true
    follows true e = rw (e, eq-eqb k next (s.follows e))
    follows false e = rw e

-- a number below the first of a rising list does not stand in it
none_below : (k y : ℕ) (l : List ℕ) → k < y → From y l → count k (y ∷ l) ≡ 0
none_below k y l h f = count_none k (y ∷ l) (h, from_less (suc k) y l h f)

-- a steady list has no number twice: equal ones would stand side by side
steady_once : (x : ℕ) (l : List ℕ) → Rising (x ∷ l) → steady_keys (x + 1) l ≡ true → Once (x ∷ l)
steady_once x [] r h k = same_or x k (λ e. omega (arith, count_same k x [] e, count_none k [] tt)) (λ e. omega (arith, count-other k x [] e, count_none k [] tt))
steady_once x (y ∷ l) r h k =
    let s = step_of (x + 1) y l h in
    let n : x < y = same_or x y (λ e. absurd (s.apart (omega arith))) (λ e. omega (arith, r.0.0)) in
    let i = steady_once y l r.1 s.rest k in
    same_or x k
    (λ e. omega (arith, count_same k x (y ∷ l) e, none_below k y l (omega arith) r.1.0))
    (λ e. omega (arith, count-other k x (y ∷ l) e))

-- and a later step's key stands behind the one before
steady_filled : (x : ℕ) (l : List ℕ) → steady_keys (x + 1) l ≡ true → Filled (x ∷ l) l
steady_filled x [] h k later c = absurd (omega (arith, count_none k [] tt))
steady_filled x (y ∷ l) h k later c =
    let s = step_of (x + 1) y l h in
    same_or y k
    (λ e.
    let m : k ≡ x + 1 = sym e ∙ s.follows (rw e later) in
    omega (arith, count_same (k - 1) x (y ∷ l) (omega arith)))
    (λ e. omega (arith, count-more (k - 1) x (y ∷ l), steady_filled y l s.rest k later (omega (arith, count-other k y l e))))

-- a steady list has both properties
pub steady_has : (l : List ℕ) → Rising l → steady_keys 0 l ≡ true → Once l × Filled l l
steady_has [] r h = (λ k. omega (arith, count_none k [] tt), λ k later c. absurd (omega (arith, count_none k [] tt)))
steady_has (y ∷ l) r h =
    let s = step_of 0 y l h in (
      steady_once y l r s.rest,
      λ k later c.
          same_or y k
          (λ e. absurd (let z : y ≡ 0 = s.follows (rw e later) in omega (arith, later_positive k later)))
          (λ e. steady_filled y l s.rest k later (omega (arith, count-other k y l e))),
    )

-- a rising list with both properties is steady, behind its first number and from the front
has-step : (x : ℕ) (l : List ℕ) → Rising (x ∷ l) → Once (x ∷ l) → Filled (x ∷ l) l → steady_keys (x + 1) l ≡ true
unfolding steady_keys
has-step x [] r o f = refl
has-step x (y ∷ l) r o f = of_step (x + 1) y l (record {
  apart = λ e. omega (arith, above);
  follows = λ later. same_or x (y - 1)
      (λ e. omega (arith, later_positive y later))
      (λ e. absurd (omega (arith, f y later (omega (arith, count_same y y l refl)), count-other (y - 1) x (y ∷ l) e, none_below (y - 1) y l (omega (arith, later_positive y later)) r.1.0)));
  rest = has-step y l r.1 (λ k. omega (arith, o k, count-more k x (y ∷ l))) more;
})
  where
    above : x < y
    above = same_or x y (λ e. absurd (omega (arith, o x, count_same x x (y ∷ l) refl, count_same x y l (sym e)))) (λ e. omega (arith, r.0.0))

    from : (k : ℕ) → 0 < count k l → y < k
    from k c = same_or y k
        (λ e. absurd (omega (arith, o k, count-more k x (y ∷ l), count_same k y l e)))
        (λ e. low_or k y (λ t. absurd (omega (arith, count-more k y l, none_below k y l t r.1.0))) (λ t. omega arith))

    more : Filled (y ∷ l) l
    more k later c = same_or x (k - 1)
        (λ e. absurd (omega (arith, above, from k c)))
        (λ e. omega (arith, count-other (k - 1) x (y ∷ l) e, f k later (omega (arith, count-more k y l))))

pub has_steady : (l : List ℕ) → Rising l → Once l → Filled l l → steady_keys 0 l ≡ true
unfolding steady_keys
has_steady [] r o f = refl
has_steady (y ∷ l) r o f = of_step 0 y l (record {
  apart = λ e. omega arith;
  follows = λ later. absurd (omega (arith, f y later (omega (arith, count_same y y l refl)), none_below (y - 1) y l (omega (arith, later_positive y later)) r.0));
  rest = has-step y l r o (λ k later c. f k later (omega (arith, count-more k y l)));
})
