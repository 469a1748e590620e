-- The candidates of a list of words, one by one, and what naming a node and a rule says of them.
-- Assumes nothing.
use mathlib.Core.Path.{◌≡◌, refl, sym, ◌∙◌}
use mathlib.Core.Bool.{true, false, not, and-false, or-true, true≢false}
use mathlib.Core.List.{List, [], ◌∷◌}
use Prim.Native.Nat.{ℕ, ◌/◌, ◌%◌, ◌<◌, ◌≤◌}
use native.Mathlib.Omega.{arith}
use lib.Dec.{ltb}
use lib.ListN.{length, drop}
use borrow.Author.Tests.{ltb-true, le-ltb, not-false}
use Rattle.words.proofs.TestLaws.{low_or, and_both, or_neither}
use Rattle.syntax.specs.Trees.{Elems, tree}
use Rattle.syntax.specs.Accessors.{element_at, node_in}
use Rattle.syntax.specs.Checks.{WellFormed}
use Rattle.syntax.proofs.Places.{tree-size, tree-none}
use Rattle.candidates.specs.Candidates.{Candidate, missing_rule, candidate_at, candidates_of, candidate_count, is_named, any_bad, keys_of}

-- the first two words, or a lone one, are the first candidate
pub candidates_cons : (l : List ℕ) → 0 < length l → candidates_of l ≡ candidate_at l ∷ candidates_of (drop 2 l)
unfolding candidates_of
candidates_cons [] h = absurd (omega arith)
candidates_cons (a ∷ []) h = refl
candidates_cons (a ∷ (b ∷ l)) h = refl

pub candidates_none : (l : List ℕ) → length l ≤ 0 → candidates_of l ≡ []
unfolding candidates_of
candidates_none [] h = refl
candidates_none (a ∷ l) h = absurd (omega arith)

-- there are as many candidates as are counted
pub length_candidates : (l : List ℕ) → length (candidates_of l) ≡ candidate_count l
unfolding candidates_of
length_candidates [] = refl
length_candidates (a ∷ []) = refl
length_candidates (a ∷ (b ∷ l)) = omega (arith, length_candidates l)

-- and as many keys
pub length_keys : (l : List Candidate) → length (keys_of l) ≡ length l
length_keys [] = refl
length_keys (c ∷ l) = rw (length_keys l)

-- no number past the last element's is that of a node
pub no_node : (l : List ℕ) (n : ℕ) → WellFormed l → length l / 3 ≤ n → node_in 1 4095 (element_at n (tree l)) ≡ false
no_node l n w h = rw (tree-none l n w (omega (arith, tree-size l w)))

-- a lone last word is refused: its rule is missing
pub lone_bad : (t : Elems) (rules : ℕ) (l : List ℕ) → rules ≤ missing_rule → length l % 2 ≡ 1 → any_bad t rules (candidates_of l) ≡ true
unfolding candidates_of any_bad
lone_bad t rules [] few odd = absurd (omega arith)
lone_bad t rules (a ∷ []) few odd = rw (le-ltb missing_rule rules few, and-false (node_in 1 4095 (element_at a t)))
lone_bad t rules (a ∷ (b ∷ l)) few odd =
    rw (lone_bad t rules l few (omega arith), or-true (not (is_named t rules (candidate_at (a ∷ b ∷ l)))))

-- ---- what a candidate that is named has

-- every node and every rule is below a number
abbrev pub AreLow : ℕ → ℕ → List Candidate → Type 0
AreLow nodes rules [] = Unit {0}
AreLow nodes rules (c ∷ l) = (c.node < nodes) × (c.rule < rules) × AreLow nodes rules l

-- a node is an element
pub node_below : (l : List ℕ) (n : ℕ) → WellFormed l → node_in 1 4095 (element_at n (tree l)) ≡ true → n < length l / 3
node_below l n w h = low_or n (length l / 3) (λ k. k) (λ k. absurd (true≢false (sym h ∙ no_node l n w k)))

-- where 25 is not due, each node is below the number of elements, and each rule below the number of rules
pub named_low : (l : List ℕ) (rules : ℕ) (cs : List Candidate) → WellFormed l
    → any_bad (tree l) rules cs ≡ false → AreLow (length l / 3) rules cs
unfolding any_bad
named_low l rules [] w h = tt
named_low l rules (c ∷ cs) w h =
    let p = or_neither (not (is_named (tree l) rules c)) (any_bad (tree l) rules cs) h in
    let q = and_both (node_in 1 4095 (element_at c.node (tree l))) (ltb c.rule rules) (not-false _ p.0) in
    (node_below l c.node w q.0, ltb-true _ _ q.1, named_low l rules cs w p.1)
