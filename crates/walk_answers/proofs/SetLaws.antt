-- The one law of the walk: the matches of a set of pairs are those of its pairs that match, so candidates that do not match may be left out.
-- Assumes nothing.
use mathlib.Core.Path.{◌≡◌, refl, sym, ◌∙◌}
use mathlib.Core.Bool.{Bool, true, false, cond, ◌&&◌, ◌||◌, and-false, true≢false}
use mathlib.Core.List.{List, [], ◌∷◌}
use Prim.Native.Nat.{ℕ, ◌+◌}
use lib.Dec.{eqb}
use borrow.Author.Tests.{eqb-true}
use Rattle.words.proofs.TestLaws.{and_both}
use Rattle.syntax.specs.Trees.{Elems, size, depth}
use Rattle.syntax.specs.Accessors.{depth_of}
use Rattle.captures.specs.Attempts.{Attempt, failed, matched}
use Rattle.candidates.specs.Candidates.{Candidate, Pairs, has}
use Rattle.candidates.proofs.EachLaws.{each_same}
use Rattle.nester.specs.Matches.{Match, match_of, matches}
use Rattle.walk_nodes.specs.WalkCandidates.{is_match, accepted}

-- ---- THE LAW: sets with the same pairs that match have the same matches

nothing : (b : Bool) → cond {A = List Match} b [] [] ≡ []
nothing true = refl
nothing false = refl

module _ (attempt : ℕ → ℕ → Attempt) where
  one_same : (n r : ℕ) (a : Attempt) (here p q : Bool) → (p && is_match a) ≡ (q && is_match a)
      → cond (here && p) (match_of n r a) [] ≡ cond (here && q) (match_of n r a) []
  one_same n r failed here p q h = nothing (here && p) ∙ sym (nothing (here && q))
  one_same n r (matched es) here true true h = refl
  one_same n r (matched es) here true false h = absurd (true≢false h)
  one_same n r (matched es) here false true h = absurd (true≢false (sym h))
  one_same n r (matched es) here false false h = refl

  pub matches-same : (t : Elems) (rules : ℕ) (p q : Pairs) → ((n r : ℕ) → (p n r && is_match (attempt n r)) ≡ (q n r && is_match (attempt n r)))
      → matches t rules attempt p ≡ matches t rules attempt q
  unfolding matches
  matches-same t rules p q h =
      each_same _ _ (1 + depth t)
      (λ d _. each_same _ _ rules
      (λ r _. each_same _ _ (size t) (λ n _. one_same n r (attempt n r) (eqb (depth_of n t) d) (p n r) (q n r) (h n r))))

  -- ---- those of a list that match

  has-front : (c : Candidate) (l : List Candidate) (n r : ℕ) (is : Bool) → is_match (attempt c.node c.rule) ≡ is
      → (has (cond is (c ∷ l) l) n r && is_match (attempt n r)) ≡ (has (c ∷ l) n r && is_match (attempt n r))
  unfolding has
  has-front c l n r true e = refl
  has-front c l n r false e = by (eqb c.node n && eqb c.rule r) refl
    where
      by : (b : Bool) → (eqb c.node n && eqb c.rule r) ≡ b
          → (has l n r && is_match (attempt n r)) ≡ (has (c ∷ l) n r && is_match (attempt n r))
      by true b =
          let p = and_both (eqb c.node n) (eqb c.rule r) b in
          let a = eqb-true c.node n p.0 in let b = eqb-true c.rule r p.1 in
          let m : is_match (attempt n r) ≡ false = rw (a, b) at e in
          rw (m, and-false (has l n r), and-false ((eqb c.node n && eqb c.rule r) || has l n r))
      by false b = rw b

  or_more : (e a b m : Bool) → (a && m) ≡ (b && m) → ((e || a) && m) ≡ ((e || b) && m)
  or_more true a b m h = refl
  or_more false a b m h = h

  -- the pairs of a list that match, and those of its candidates that match
  pub has-accepted : (l : List Candidate) (n r : ℕ)
      → (has (accepted attempt l) n r && is_match (attempt n r)) ≡ (has l n r && is_match (attempt n r))
  unfolding accepted has
  has-accepted [] n r = refl
  has-accepted (c ∷ l) n r =
      has-front c (accepted attempt l) n r (is_match (attempt c.node c.rule)) refl
      ∙ or_more (eqb c.node n && eqb c.rule r) (has (accepted attempt l) n r) (has l n r) (is_match (attempt n r)) (has-accepted l n r)
