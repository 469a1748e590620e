-- Keys as numbers: two facts have one key exactly if they have one number, and the key of the step before is the number before.
-- Assumes nothing.
use mathlib.Core.Path.{◌≡◌, refl, sym, ap, ◌∙◌}
use mathlib.Core.Bool.{Bool, true, false, cond, not, ◌&&◌, ◌||◌}
use mathlib.Core.List.{List, [], ◌∷◌}
use Prim.Native.Nat.{ℕ, zero, suc, ◌+◌, ◌-◌, ◌/◌, ◌%◌, ◌<◌, ◌≤◌}
use native.Mathlib.Omega.{arith}
use lib.Dec.{eqb, ltb}
use lib.ListN.{length, get_or}
use borrow.Author.Tests.{eqb-true, eq-eqb, ne_eqb, ltb-true, lt-ltb}
use Rattle.sorting.specs.Sorted.{count}
use Rattle.sorting.proofs.Laws.{count_same, count-other}
use Rattle.facts.specs.Facts.{Fact, selector, is_key, fact_index, is_known, has_repeated, is_later, has_gap}
use Rattle.facts.specs.Keys.{key_number, key_of, is_later_key, InRange}
use Rattle.words.proofs.TestLaws.{same_or, both_ways, and_both, never, ltb_suc}
use Rattle.facts.proofs.FactLaws.{Ranged}
use Rattle.facts.proofs.SteadyLaws.{repeats, gaps}

-- ---- the place of a number in a list

-- the first place of a number, or how many numbers there are
unfoldable pub place : ℕ → List ℕ → ℕ
place k [] = 0
place k (x ∷ l) = cond (eqb x k) 0 (1 + place k l)

pub place_here : (k x : ℕ) (l : List ℕ) → x ≡ k → place k (x ∷ l) ≡ 0
unfolding place
place_here k x l e = rw (eq-eqb x k e)

pub place-past : (k x : ℕ) (l : List ℕ) → (x ≡ k → ⊥) → place k (x ∷ l) ≡ suc (place k l)
unfolding place
place-past k x l e = rw (ne_eqb x k e) (omega arith)

pub place-within : (k : ℕ) (l : List ℕ) → place k l ≤ length l
unfolding place
place-within k [] = omega arith
place-within k (x ∷ l) = same_or x k (λ e. omega (arith, place_here k x l e)) (λ e. omega (arith, place-past k x l e, place-within k l))

-- the number stands at its place
pub place_found : (k : ℕ) (l : List ℕ) → place k l < length l → get_or l (place k l) 0 ≡ k
place_found k [] h = absurd (omega arith)
place_found k (x ∷ l) h =
    same_or x k
    (λ e. rw (place_here k x l e) e)
    (λ e. rw (place-past k x l e) (place_found k l (omega (arith, place-past k x l e))))

-- and at none before
pub place-first : (k : ℕ) (l : List ℕ) (i : ℕ) → i < length l → get_or l i 0 ≡ k → place k l ≤ i
place-first k [] i h e = absurd (omega arith)
place-first k (x ∷ l) zero h e = omega (arith, place_here k x l e)
place-first k (x ∷ l) (suc i) h e =
    same_or x k
    (λ s. omega (arith, place_here k x l s))
    (λ s. omega (arith, place-past k x l s, place-first k l i (omega arith) e))

-- a number has a place exactly if it is counted
pub place-count : (k : ℕ) (l : List ℕ) → ltb (place k l) (length l) ≡ ltb 0 (count k l)
unfolding place count
place-count k [] = refl
place-count k (x ∷ l) =
    same_or x k
    (λ e. rw (place_here k x l e, count_same k x l e) (lt-ltb 0 (suc (length l)) (omega arith) ∙ sym (lt-ltb 0 (suc (count k l)) (omega arith))))
    (λ e. rw (place-past k x l e, count-other k x l e) (ltb_suc (place k l) (length l) ∙ place-count k l))

-- ---- keys

-- the keys of facts
abbrev pub keys_of : List Fact → List ℕ
keys_of [] = []
keys_of (f ∷ fs) = key_of f ∷ keys_of fs

pub length_keys : (fs : List Fact) → length (keys_of fs) ≡ length fs
length_keys [] = refl
length_keys (f ∷ fs) = ap suc (length_keys fs)

-- a step or module fits
pub low_selector : (f : Fact) → f.first < 268435456 → selector f < 268435456
low_selector f h = by (eqb f.sort 3 || eqb f.sort 7)
  where
    by : (b : Bool) → cond b f.first 0 < 268435456
    by true = h
    by false = omega arith

-- a key has its three parts
pub key_parts : (s e x : ℕ) (f : Fact) → is_key s e x f ≡ true → (f.sort ≡ s) × (f.element ≡ e) × (selector f ≡ x)
key_parts s e x f t =
    let p = and_both (eqb f.sort s && eqb f.element e) (eqb (selector f) x) t in
    let q = and_both (eqb f.sort s) (eqb f.element e) p.0 in
    (eqb-true _ _ q.0, eqb-true _ _ q.1, eqb-true _ _ p.1)

-- no fact has a key that does not fit
pub absent : (s e x : ℕ) (fs : List Fact) → Ranged fs → (s < 16 → e < 16384 → x < 268435456 → ⊥) → fact_index s e x fs ≡ length fs
unfolding fact_index
absent s e x [] w n = refl
absent s e x (f ∷ fs) w n =
    let none : is_key s e x f ≡ false = never (is_key s e x f) (λ t. let p = key_parts s e x f t in n (rw p.0 at w.0.low_sort) (rw p.1 at w.0.low_element) (rw p.2 at (low_selector f w.0.low_first))) in
    rw (none, absent s e x fs w.1 n) (omega arith)

module _ (s e x : ℕ) (hs : s < 16) (hx : x < 268435456) where
  -- a fact has a key exactly if it has its number
  pub key-same : (f : Fact) → InRange f → is_key s e x f ≡ eqb (key_of f) (key_number s e x)
  key-same f h =
      let m : selector f < 268435456 = low_selector f h.low_first in
      let o = h.low_sort in
      both_ways (is_key s e x f) (eqb (key_of f) (key_number s e x))
      (λ t.
      let p = key_parts s e x f t in
      eq-eqb (key_of f) (key_number s e x) (omega arith))
      (λ t.
      let n : key_of f ≡ key_number s e x = eqb-true _ _ t in
      let s' : f.sort ≡ s = omega arith in
      let e' : f.element ≡ e = omega arith in
      let x' : selector f ≡ x = omega arith in
      rw (eq-eqb f.sort s s', eq-eqb f.element e e', eq-eqb (selector f) x x'))

  -- a fact's place is its key's
  pub index_place : (fs : List Fact) → Ranged fs → fact_index s e x fs ≡ place (key_number s e x) (keys_of fs)
  unfolding fact_index place
  index_place [] w = refl
  index_place (f ∷ fs) w = rw (key-same f w.0, index_place fs w.1)

  -- and is known exactly if its key is counted
  pub known_count : (fs : List Fact) → Ranged fs → is_known s e x fs ≡ ltb 0 (count (key_number s e x) (keys_of fs))
  known_count fs w = rw (index_place fs w, ← length_keys fs) (place-count (key_number s e x) (keys_of fs))

-- a fact is repeated exactly if its key is
pub repeated_keys : (fs : List Fact) → Ranged fs → has_repeated fs ≡ repeats (keys_of fs)
unfolding has_repeated repeats
repeated_keys [] w = refl
repeated_keys (f ∷ fs) w = rw (known_count f.sort f.element (selector f) w.0.low_sort (low_selector f w.0.low_first) fs w.1, repeated_keys fs w.1)

-- ---- steps

module _ (f : Fact) (h : InRange f) where
  -- the parts of its number
  key-sort : key_of f / 268435456 % 16 ≡ f.sort
  key-sort = omega (arith, h.low_sort, low_selector f h.low_first)

  key-selector : key_of f % 268435456 ≡ selector f
  key-selector = omega (arith, low_selector f h.low_first)

  -- a fact is a later step exactly if its key is one's
  pub later-key : is_later_key (key_of f) ≡ is_later f
  later-key = same_or f.sort 3
      (λ e. rw (key-sort, key-selector, e))
      (λ e. rw (key-sort, ne_eqb f.sort 3 e))

  -- the step before has the number before
  before-key : is_later f ≡ true → key_number 3 f.element (f.first - 1) ≡ key_of f - 1
  before-key t =
      let p = and_both (eqb f.sort 3) (ltb 0 f.first) t in
      let s : f.sort ≡ 3 = eqb-true _ _ p.0 in
      let n : 0 < f.first = ltb-true _ _ p.1 in
      let x : selector f ≡ f.first = rw s in
      omega arith

  gap_step : (all : List Fact) → Ranged all → (is_later f && not (is_known 3 f.element (f.first - 1) all)) ≡ (is_later_key (key_of f) && not (ltb 0 (count (key_of f - 1) (keys_of all))))
  gap_step all w = by (is_later f) refl
    where
      by : (b : Bool) → is_later f ≡ b → (is_later f && not (is_known 3 f.element (f.first - 1) all)) ≡ (is_later_key (key_of f) && not (ltb 0 (count (key_of f - 1) (keys_of all))))
      by true t =
          let k : is_known 3 f.element (f.first - 1) all ≡ ltb 0 (count (key_of f - 1) (keys_of all)) = known_count 3 f.element (f.first - 1) (omega arith) (omega arith) all w ∙ ap (λ (k : ℕ). ltb 0 (count k (keys_of all))) (before-key t) in
          rw (later-key, t, k)
      by false t = rw (later-key, t)

-- a step is left out exactly if its key is
pub gap_keys : (all fs : List Fact) → Ranged all → Ranged fs → has_gap all fs ≡ gaps (keys_of all) (keys_of fs)
unfolding has_gap gaps
gap_keys all [] w v = refl
gap_keys all (f ∷ fs) w v = rw (gap_step f v.0 all w, gap_keys all fs w v.1)
