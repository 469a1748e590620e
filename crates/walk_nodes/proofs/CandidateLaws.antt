-- The candidates that match, element by element and rule by rule.
-- Assumes nothing.
use mathlib.Core.Path.{◌≡◌, refl, sym, ap, ◌∙◌}
use mathlib.Core.Bool.{Bool, true, false, cond, ◌&&◌}
use mathlib.Core.List.{List, [], ◌∷◌, ◌++◌, append-nil}
use Prim.Native.Nat.{ℕ, zero, suc, ◌+◌, ◌≤◌, ◌<◌}
use native.Mathlib.Numerals.{add-one}
use native.Mathlib.Omega.{arith}
use lib.ListN.{length, length-append}
use Rattle.words.proofs.TestLaws.{same_or}
use Rattle.syntax.specs.Trees.{Elems, size}
use Rattle.syntax.specs.Accessors.{element_at, node_in}
use Rattle.captures.specs.Attempts.{Attempt}
use Rattle.candidates.specs.Candidates.{Candidate, each}
use Rattle.walk_nodes.specs.WalkCandidates.{node_with, nodes_with, walk_candidates, is_match, accepted}

module _ (attempt : ℕ → ℕ → Attempt) where
  -- one in front of a list, and another list behind it
  front : (is : Bool) (c : Candidate) (a b : List Candidate) → cond is (c ∷ (a ++ b)) (a ++ b) ≡ cond is (c ∷ a) a ++ b
  front true c a b = refl
  front false c a b = refl

  pub accepted-append : (a b : List Candidate) → accepted attempt (a ++ b) ≡ accepted attempt a ++ accepted attempt b
  unfolding accepted
  accepted-append [] b = refl
  accepted-append (c ∷ a) b =
      rw (accepted-append a b) (front (is_match (attempt c.node c.rule)) c (accepted attempt a) (accepted attempt b))

  -- ---- one rule

  module _ (root : Elems) (r : ℕ) where
    -- those of the elements below a number
    abbrev pub below : ℕ → List Candidate
    below n = accepted attempt (nodes_with root r n)

    abbrev pub matches_at : ℕ → Bool
    matches_at n = node_in 1 4095 (element_at n root) && is_match (attempt n r)

    one : (is match : Bool) (n : ℕ) → is_match (attempt n r) ≡ match
        → accepted attempt (cond is (record { node = n; rule = r } ∷ []) []) ≡ cond (is && match) (record { node = n; rule = r } ∷ []) []
    unfolding accepted
    one true match n e = rw e
    one false match n e = refl

    below_next : (n : ℕ) → below (n + 1) ≡ below n ++ cond (matches_at n) (record { node = n; rule = r } ∷ []) []
    unfolding each
    below_next n =
        rw (add-one n) (accepted-append (nodes_with root r n) (node_with root r n)
        ∙ ap (λ (l : List Candidate). below n ++ l) (one (node_in 1 4095 (element_at n root)) (is_match (attempt n r)) n refl))

    pub below_none : below 0 ≡ []
    unfolding each accepted
    below_none = refl

    -- one element more
    pub below_more : (n : ℕ) → matches_at n ≡ true → below (n + 1) ≡ below n ++ (record { node = n; rule = r } ∷ [])
    below_more n is = rw is at (below_next n)

    pub below-same : (n : ℕ) → matches_at n ≡ false → below (n + 1) ≡ below n
    below-same n is = below_next n ∙ rw is (append-nil (below n))

    -- many more, none of which match
    pub below_on : (a b : ℕ) → a ≤ b → ((e : ℕ) → a ≤ e → e < b → matches_at e ≡ false) → below b ≡ below a
    below_on a zero l h = let z : a ≡ 0 = omega arith in rw z
    below_on a (suc b) l h =
        same_or a (suc b) (λ s. rw s)
        (λ d. ap below (sym (add-one b)) ∙ below-same b (h b (omega arith) (omega arith))
        ∙ below_on a b (omega arith) (λ e from to. h e from (omega arith)))

    -- and they only become more
    pub below_up : (a b : ℕ) → a ≤ b → length (below a) ≤ length (below b)
    below_up a zero l = let z : a ≡ 0 = omega arith in rw z (omega arith)
    below_up a (suc b) l =
        same_or a (suc b) (λ s. rw s (omega arith))
        (λ d.
        let e : length (below (suc b)) ≡ length (below b) + length (cond (matches_at b) (record { node = b; rule = r } ∷ []) []) =
        ap (λ (n : ℕ). length (below n)) (sym (add-one b)) ∙ ap length (below_next b) ∙ length-append (below b) _ in
        omega (arith, below_up a b (omega arith), e))

  -- ---- rule by rule

  module _ (t : Elems) where
    pub walk_none : accepted attempt (walk_candidates t 0) ≡ []
    unfolding each accepted
    walk_none = refl

    pub walk_more : (rules : ℕ)
        → accepted attempt (walk_candidates t (rules + 1)) ≡ accepted attempt (walk_candidates t rules) ++ below t rules (size t)
    unfolding each
    walk_more rules = rw (add-one rules) (accepted-append (walk_candidates t rules) (nodes_with t rules (size t)))

    pub walk_up : (a b : ℕ) → a ≤ b → length (accepted attempt (walk_candidates t a)) ≤ length (accepted attempt (walk_candidates t b))
    walk_up a zero l = let z : a ≡ 0 = omega arith in rw z (omega arith)
    walk_up a (suc b) l =
        same_or a (suc b) (λ s. rw s (omega arith))
        (λ d.
        let e : length (accepted attempt (walk_candidates t (suc b))) ≡ length (accepted attempt (walk_candidates t b)) + length (below t b (size t)) =
        ap (λ (n : ℕ). length (accepted attempt (walk_candidates t n))) (sym (add-one b)) ∙ ap length (walk_more b)
        ∙ length-append (accepted attempt (walk_candidates t b)) _ in
        omega (arith, walk_up a b (omega arith), e))

-- with one rule only the attempts with it count
pub below-rule : (a b : ℕ → ℕ → Attempt) (root : Elems) (r n : ℕ) → ((e : ℕ) → a e r ≡ b e r) → below a root r n ≡ below b root r n
below-rule a b root r zero h = below_none a root r ∙ sym (below_none b root r)
below-rule a b root r (suc n) h =
    let e : below a root r n ++ cond (matches_at a root r n) (record { node = n; rule = r } ∷ []) []
    ≡ below b root r n ++ cond (matches_at b root r n) (record { node = n; rule = r } ∷ []) [] = rw (below-rule a b root r n h, h n) in
    ap (below a root r) (sym (add-one n)) ∙ below_next a root r n ∙ e ∙ sym (below_next b root r n) ∙ ap (below b root r) (add-one n)
