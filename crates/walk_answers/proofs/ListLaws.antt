-- The walk's list: it names nodes and rules, and no pair twice; so do those of its candidates that match. And lists as words.
-- Assumes nothing.
use mathlib.Core.Path.{◌≡◌, refl, sym, ap, ◌∙◌}
use mathlib.Core.Bool.{Bool, true, false, cond, not, ◌&&◌, ◌||◌, true≢false}
use mathlib.Core.List.{List, [], ◌∷◌, ◌++◌}
use Prim.Native.Nat.{ℕ, zero, suc, ◌<◌, ◌≤◌}
use native.Mathlib.Omega.{arith}
use lib.Dec.{eqb}
use lib.ListN.{length}
use borrow.Author.Tests.{eqb-true, eq-eqb, lt-ltb}
use Rattle.words.proofs.TestLaws.{or_neither}
use Rattle.syntax.specs.Trees.{Elems, size}
use Rattle.syntax.specs.Accessors.{element_at, node_in}
use Rattle.captures.specs.Attempts.{Attempt}
use Rattle.candidates.specs.Candidates.{Candidate, candidates_of, candidate_count, has, is_named, any_bad, is_twice, each}
use Rattle.candidates.proofs.CandidateLaws.{length_candidates}
use Rattle.walk_nodes.specs.WalkCandidates.{node_with, nodes_with, nodes_of, walk_candidates, is_match, accepted, words_of}

-- a test that cannot hold
never : (b : Bool) → (b ≡ true → ⊥) → b ≡ false
never true h = absurd (h refl)
never false h = refl

neither : (a b : Bool) → a ≡ false → b ≡ false → (a || b) ≡ false
neither a b h k = rw (h, k)

-- ---- as words

pub candidates_words : (l : List Candidate) → candidates_of (words_of l) ≡ l
unfolding candidates_of words_of
candidates_words [] = refl
candidates_words (c ∷ l) = ap (λ (t : List Candidate). c ∷ t) (candidates_words l)

pub count-words : (l : List Candidate) → candidate_count (words_of l) ≡ length l
count-words l = sym (length_candidates (words_of l)) ∙ ap length (candidates_words l)

-- ---- 25: nodes and rules are named

module _ (t : Elems) (rules : ℕ) where
  good_append : (a b : List Candidate) → any_bad t rules a ≡ false → any_bad t rules b ≡ false → any_bad t rules (a ++ b) ≡ false
  unfolding any_bad
  good_append [] b h k = k
  good_append (c ∷ a) b h k =
      let p = or_neither (not (is_named t rules c)) (any_bad t rules a) h in neither _ _ p.0 (good_append a b p.1 k)

  good_each : (f : ℕ → List Candidate) (n : ℕ) → ((i : ℕ) → i < n → any_bad t rules (f i) ≡ false) → any_bad t rules (each n f) ≡ false
  unfolding each any_bad
  good_each f zero h = refl
  good_each f (suc n) h = good_append (each n f) (f n) (good_each f n (λ i l. h i (omega arith))) (h n (omega arith))

  good_node : (r n : ℕ) → r < rules → any_bad t rules (node_with t r n) ≡ false
  unfolding any_bad
  good_node r n h = by (node_in 1 4095 (element_at n t)) refl
    where
      by : (b : Bool) → node_in 1 4095 (element_at n t) ≡ b → any_bad t rules (cond b (record { node = n; rule = r } ∷ []) []) ≡ false
      by true e = rw (e, lt-ltb r rules h)
      by false e = refl

  pub walk_named : any_bad t rules (walk_candidates t rules) ≡ false
  walk_named = good_each (nodes_of t) rules (λ r l. good_each (node_with t r) (size t) (λ n _. good_node r n l))

  pub accepted_named : (attempt : ℕ → ℕ → Attempt) (l : List Candidate) → any_bad t rules l ≡ false → any_bad t rules (accepted attempt l) ≡ false
  unfolding any_bad accepted
  accepted_named attempt [] h = refl
  accepted_named attempt (c ∷ l) h =
      let p = or_neither (not (is_named t rules c)) (any_bad t rules l) h in
      front (is_match (attempt c.node c.rule)) (accepted attempt l) p.0 (accepted_named attempt l p.1)
    where
      front : (is : Bool) (m : List Candidate) → not (is_named t rules c) ≡ false → any_bad t rules m ≡ false → any_bad t rules (cond is (c ∷ m) m) ≡ false
      front true m a b = neither _ _ a b
      front false m a b = b

-- ---- 26: no pair comes twice

has-append : (a b : List Candidate) (n r : ℕ) → has a n r ≡ false → has b n r ≡ false → has (a ++ b) n r ≡ false
unfolding has
has-append [] b n r h k = k
has-append (c ∷ a) b n r h k =
    let p = or_neither (eqb c.node n && eqb c.rule r) (has a n r) h in neither _ _ p.0 (has-append a b n r p.1 k)

has_first : (c : Candidate) (l : List Candidate) → has (c ∷ l) c.node c.rule ≡ true
unfolding has
has_first c l = rw (eq-eqb c.node c.node refl, eq-eqb c.rule c.rule refl)

has_more : (c : Candidate) (l : List Candidate) (n r : ℕ) → has l n r ≡ true → has (c ∷ l) n r ≡ true
unfolding has
has_more c l n r h = by (eqb c.node n && eqb c.rule r)
  where
    by : (b : Bool) → (b || has l n r) ≡ true
    by true = refl
    by false = h

-- lists without a pair in both
abbrev Apart : List Candidate → List Candidate → Type 0
Apart a b = (n r : ℕ) → has a n r ≡ true → has b n r ≡ true → ⊥

once_append : (a b : List Candidate) → is_twice a ≡ false → is_twice b ≡ false → Apart a b → is_twice (a ++ b) ≡ false
unfolding is_twice
once_append [] b h k d = k
once_append (c ∷ a) b h k d =
    let p = or_neither (has a c.node c.rule) (is_twice a) h in
    neither _ _ (has-append a b c.node c.rule p.0 (never _ (d c.node c.rule (has_first c a))))
    (once_append a b p.1 k (λ n r x y. d n r (has_more c a n r x) y))

-- of what is in one or the other
either : (a b : List Candidate) (n r : ℕ) (P : Type 0) → (has a n r ≡ true → P) → (has b n r ≡ true → P) → has (a ++ b) n r ≡ true → P
either a b n r P f g h = by (has a n r) (has b n r) refl refl
  where
    by : (x y : Bool) → has a n r ≡ x → has b n r ≡ y → P
    by true y e k = f e
    by false true e k = g k
    by false false e k = absurd (true≢false (sym h ∙ has-append a b n r e k))

module _ (t : Elems) (r : ℕ) where
  node_is : (n x y : ℕ) → has (node_with t r n) x y ≡ true → (x ≡ n) × (y ≡ r)
  unfolding has
  node_is n x y h = by (node_in 1 4095 (element_at n t)) h
    where
      by : (b : Bool) → has (cond b (record { node = n; rule = r } ∷ []) []) x y ≡ true → (x ≡ n) × (y ≡ r)
      by true h = pick (eqb n x) (eqb r y) refl refl h
        where
          pick : (a b : Bool) → eqb n x ≡ a → eqb r y ≡ b → ((a && b) || false) ≡ true → (x ≡ n) × (y ≡ r)
          pick true true e k h = (sym (eqb-true _ _ e), sym (eqb-true _ _ k))
          pick true false e k h = absurd (true≢false (sym h))
          pick false b e k h = absurd (true≢false (sym h))
      by false h = absurd (true≢false (sym h))

  nodes_are : (n x y : ℕ) → has (nodes_with t r n) x y ≡ true → (x < n) × (y ≡ r)
  unfolding each has
  nodes_are zero x y h = absurd (true≢false (sym h))
  nodes_are (suc n) x y h =
      either (nodes_with t r n) (node_with t r n) x y ((x < suc n) × (y ≡ r))
      (λ a. let p = nodes_are n x y a in (omega (arith, p.0), p.1))
      (λ b. let p = node_is n x y b in (omega (arith, p.0), p.1)) h

  node_once : (n : ℕ) → is_twice (node_with t r n) ≡ false
  unfolding is_twice has
  node_once n = by (node_in 1 4095 (element_at n t))
    where
      by : (b : Bool) → is_twice (cond b (record { node = n; rule = r } ∷ []) []) ≡ false
      by true = refl
      by false = refl

  nodes_once : (n : ℕ) → is_twice (nodes_with t r n) ≡ false
  unfolding each is_twice
  nodes_once zero = refl
  nodes_once (suc n) =
      once_append (nodes_with t r n) (node_with t r n) (nodes_once n) (node_once n)
      (λ x y a b. omega (arith, (nodes_are n x y a).0, (node_is n x y b).0))

rules_are : (t : Elems) (k x y : ℕ) → has (walk_candidates t k) x y ≡ true → y < k
unfolding each has
rules_are t zero x y h = absurd (true≢false (sym h))
rules_are t (suc k) x y h =
    either (walk_candidates t k) (nodes_of t k) x y (y < suc k)
    (λ a. omega (arith, rules_are t k x y a)) (λ b. omega (arith, (nodes_are t k (size t) x y b).1)) h

pub walk_once : (t : Elems) (rules : ℕ) → is_twice (walk_candidates t rules) ≡ false
unfolding each is_twice
walk_once t zero = refl
walk_once t (suc k) =
    once_append (walk_candidates t k) (nodes_of t k) (walk_once t k) (nodes_once t k (size t))
    (λ x y a b. omega (arith, rules_are t k x y a, (nodes_are t k (size t) x y b).1))

module _ (attempt : ℕ → ℕ → Attempt) where
  kept_out : (l : List Candidate) (n r : ℕ) → has l n r ≡ false → has (accepted attempt l) n r ≡ false
  unfolding has accepted
  kept_out [] n r h = refl
  kept_out (c ∷ l) n r h =
      let p = or_neither (eqb c.node n && eqb c.rule r) (has l n r) h in
      front (is_match (attempt c.node c.rule)) (accepted attempt l) p.0 (kept_out l n r p.1)
    where
      front : (is : Bool) (m : List Candidate) → (eqb c.node n && eqb c.rule r) ≡ false → has m n r ≡ false → has (cond is (c ∷ m) m) n r ≡ false
      front true m a b = neither _ _ a b
      front false m a b = b

  pub accepted_once : (l : List Candidate) → is_twice l ≡ false → is_twice (accepted attempt l) ≡ false
  unfolding is_twice accepted
  accepted_once [] h = refl
  accepted_once (c ∷ l) h =
      let p = or_neither (has l c.node c.rule) (is_twice l) h in
      front (is_match (attempt c.node c.rule)) (accepted attempt l) (kept_out l c.node c.rule p.0) (accepted_once l p.1)
    where
      front : (is : Bool) (m : List Candidate) → has m c.node c.rule ≡ false → is_twice m ≡ false → is_twice (cond is (c ∷ m) m) ≡ false
      front true m a b = neither _ _ a b
      front false m a b = b

  pub accepted_fewer : (l : List Candidate) → length (accepted attempt l) ≤ length l
  unfolding accepted
  accepted_fewer [] = omega arith
  accepted_fewer (c ∷ l) = front (is_match (attempt c.node c.rule)) (accepted attempt l) (accepted_fewer l)
    where
      front : (is : Bool) (m : List Candidate) → length m ≤ length l → length (cond is (c ∷ m) m) ≤ suc (length l)
      front true m h = omega arith
      front false m h = omega arith
