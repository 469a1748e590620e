-- 26 by keys: where there are at most 16 rules a pair has one key, and in rising order equal keys are neighbours.
-- Assumes nothing.
use mathlib.Core.Path.{◌≡◌, refl, sym, ◌∙◌}
use mathlib.Core.Bool.{Bool, true, false, cond, ◌&&◌, ◌||◌}
use mathlib.Core.List.{List, [], ◌∷◌}
use Prim.Native.Nat.{ℕ, suc, ◌+◌, ◌*◌, ◌<◌, ◌≤◌}
use native.Mathlib.Omega.{arith}
use lib.Dec.{eqb, ltb}
use borrow.Author.Tests.{eqb-true, eq-eqb, ne_eqb, lt-ltb, le-ltb}
use Rattle.words.proofs.TestLaws.{same_or, both_ways, and_both}
use Rattle.sorting.specs.Sorted.{sort, count, Rising}
use Rattle.sorting.proofs.Laws.{from_less, sort_rising, count-sort, count_same, count_none}
use Rattle.facts.proofs.SteadyLaws.{repeats, repeats_once, once_repeats}
use Rattle.candidates.specs.Candidates.{Candidate, has, is_twice, key_of, keys_of, is_first, has_equal_neighbours}
use Rattle.candidates.proofs.CandidateLaws.{AreLow}

-- ---- keys of which one stands twice

-- tests that fail together are the same
same_false : (a b : Bool) → (a ≡ false → b ≡ false) → (b ≡ false → a ≡ false) → a ≡ b
same_false true true f g = refl
same_false true false f g = g refl
same_false false b f g = sym (f refl)

-- an order changes no count
repeats-sort : (l : List ℕ) → repeats (sort l) ≡ repeats l
repeats-sort l =
    same_false (repeats (sort l)) (repeats l)
    (λ h. let o = repeats_once (sort l) h in once_repeats l (λ k. omega (arith, o k, count-sort k l)))
    (λ h. let o = repeats_once l h in once_repeats (sort l) (λ k. omega (arith, o k, count-sort k l)))

-- the first number of a rising list comes again exactly if it is the next
first_count : (k : ℕ) (l : List ℕ) → Rising (k ∷ l) → is_first k l ≡ ltb 0 (count k l)
unfolding count
first_count k [] r = refl
first_count k (j ∷ l) r =
    same_or k j
    (λ e. eq-eqb k j e ∙ sym (lt-ltb 0 (count k (j ∷ l)) (omega (arith, count_same k j l (sym e)))))
    (λ e.
    let h : k < j = omega (arith, r.0.0) in
    ne_eqb k j e ∙ sym (le-ltb 0 (count k (j ∷ l)) (omega (arith, count_none k (j ∷ l) (h, from_less (suc k) j l h r.1.0)))))

neighbours_repeats : (l : List ℕ) → Rising l → has_equal_neighbours l ≡ repeats l
unfolding has_equal_neighbours repeats
neighbours_repeats [] r = refl
neighbours_repeats (k ∷ l) r = rw (first_count k l r, neighbours_repeats l r.1)

-- ---- candidates and their keys

-- a number in front, and more of it behind
or_count : (b : Bool) (n : ℕ) → (b || ltb 0 n) ≡ ltb 0 (cond b 1 0 + n)
or_count true n = sym (lt-ltb 0 (1 + n) (omega arith))
or_count false n = let e : 0 + n ≡ n = omega arith in rw e

module _ (rules : ℕ) (few : rules ≤ 16) where
  module _ (n r : ℕ) (h : r < rules) where
    -- a candidate has a pair exactly if it has its key
    key-same : (c : Candidate) → c.rule < rules → (eqb c.node n && eqb c.rule r) ≡ eqb (key_of c) (n * 16 + r)
    key-same c k =
        both_ways (eqb c.node n && eqb c.rule r) (eqb (key_of c) (n * 16 + r))
        (λ t.
        let p = and_both (eqb c.node n) (eqb c.rule r) t in
        let a : c.node ≡ n = eqb-true _ _ p.0 in
        let b : c.rule ≡ r = eqb-true _ _ p.1 in
        eq-eqb (key_of c) (n * 16 + r) (omega arith))
        (λ t.
        let e : key_of c ≡ n * 16 + r = eqb-true _ _ t in
        let a : c.node ≡ n = omega arith in
        let b : c.rule ≡ r = omega arith in
        rw (eq-eqb c.node n a, eq-eqb c.rule r b))

    -- a pair is among candidates exactly if its key is counted
    pub has-count : (nodes : ℕ) (l : List Candidate) → AreLow nodes rules l → has l n r ≡ ltb 0 (count (n * 16 + r) (keys_of l))
    unfolding has count
    has-count nodes [] w = refl
    has-count nodes (c ∷ l) w =
        rw (key-same c w.1, has-count nodes l w.2) (or_count (eqb (key_of c) (n * 16 + r)) (count (n * 16 + r) (keys_of l)))

  -- a pair comes twice exactly if its key does
  twice_repeats : (nodes : ℕ) (l : List Candidate) → AreLow nodes rules l → is_twice l ≡ repeats (keys_of l)
  unfolding is_twice repeats
  twice_repeats nodes [] w = refl
  twice_repeats nodes (c ∷ l) w = rw (has-count c.node c.rule w.1 nodes l w.2, twice_repeats nodes l w.2)

  -- 26: a pair comes twice exactly if two neighbours of the keys in rising order are equal
  pub twice_neighbours : (nodes : ℕ) (l : List Candidate) → AreLow nodes rules l → is_twice l ≡ has_equal_neighbours (sort (keys_of l))
  twice_neighbours nodes l w =
      twice_repeats nodes l w ∙ sym (neighbours_repeats (sort (keys_of l)) (sort_rising (keys_of l)) ∙ repeats-sort (keys_of l))
