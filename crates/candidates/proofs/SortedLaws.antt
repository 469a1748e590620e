-- The keys of candidates in rising order: where no pair comes twice they are those of the set of pairs, by node and then rule.
-- Assumes nothing.
use mathlib.Core.Path.{◌≡◌, refl, sym, ap, ◌∙◌}
use mathlib.Core.Bool.{Bool, true, false, cond, and-false}
use mathlib.Core.List.{List, [], ◌∷◌}
use Prim.Native.Nat.{ℕ, suc, ◌+◌, ◌*◌, ◌<◌, ◌≤◌}
use native.Mathlib.Omega.{arith}
use lib.Dec.{eqb}
use borrow.Author.Tests.{eq-eqb, ne_eqb}
use Rattle.words.proofs.TestLaws.{or_neither}
use Rattle.sorting.specs.Sorted.{insert, sort, From}
use Rattle.sorting.proofs.Laws.{insert-nil, from_less}
use Rattle.candidates.specs.Candidates.{Candidate, has, is_twice, key_of, keys_of, each}
use Rattle.candidates.proofs.CandidateLaws.{AreLow}
use Rattle.candidates.proofs.EachLaws.{Under, under_more, each_same, each_none, each_under, each_from_lem, each-insert}

-- the key of a pair, if it is among candidates; those of a node
abbrev key_if : Bool → ℕ → List ℕ
key_if b k = cond b (k ∷ []) []

module _ (rules : ℕ) (few : rules ≤ 16) where
  abbrev node_keys : List Candidate → ℕ → List ℕ
  node_keys l n = each rules (λ r. key_if (has l n r) (n * 16 + r))

  one-part : (l : List Candidate) (n r : ℕ)
      → From (n * 16 + r) (key_if (has l n r) (n * 16 + r)) × Under (n * 16 + suc r) (key_if (has l n r) (n * 16 + r))
  one-part l n r = by (has l n r)
    where
      by : (b : Bool) → From (n * 16 + r) (key_if b (n * 16 + r)) × Under (n * 16 + suc r) (key_if b (n * 16 + r))
      by true = ((omega arith, tt), (omega arith, tt))
      by false = (tt, tt)

  node_part : (l : List Candidate) (n : ℕ) → From (n * 16) (node_keys l n) × Under (suc n * 16) (node_keys l n)
  node_part l n = (
    from_less (n * 16) (n * 16 + 0) (node_keys l n) (omega arith)
        (each_from_lem (λ r. n * 16 + r) (λ r. omega arith) _ (one-part l n) rules),
    under_more (n * 16 + rules) (suc n * 16) (node_keys l n) (omega arith)
        (each_under (λ r. n * 16 + r) (λ r. omega arith) _ (one-part l n) rules),
  )

  no_key : (n r : ℕ) → key_if (has [] n r) (n * 16 + r) ≡ []
  unfolding has
  no_key n r = refl

  -- one candidate more
  module _ (nodes : ℕ) (c : Candidate) (l : List Candidate)
      (a : c.node < nodes) (b : c.rule < rules) (new : has l c.node c.rule ≡ false) where
    has_new : has (c ∷ l) c.node c.rule ≡ true
    unfolding has
    has_new = rw (eq-eqb c.node c.node refl, eq-eqb c.rule c.rule refl)

    other-rule : (n r : ℕ) → (r ≡ c.rule → ⊥) → has l n r ≡ has (c ∷ l) n r
    unfolding has
    other-rule n r d = rw (ne_eqb c.rule r (λ e. d (sym e)), and-false (eqb c.node n))

    other_node : (n r : ℕ) → (n ≡ c.node → ⊥) → has l n r ≡ has (c ∷ l) n r
    unfolding has
    other_node n r d = rw (ne_eqb c.node n (λ e. d (sym e)))

    here : node_keys (c ∷ l) c.node ≡ insert (key_of c) (node_keys l c.node)
    here =
        sym (each-insert (λ r. c.node * 16 + r) (λ r. omega arith) _ (one-part l c.node)
        (λ r. key_if (has (c ∷ l) c.node r) (c.node * 16 + r)) c.rule (key_of c) (omega arith) (omega arith)
        (rw (has_new, new, insert-nil (key_of c))) (λ r d. rw (other-rule c.node r d)) rules b)

    set_more : insert (key_of c) (each nodes (node_keys l)) ≡ each nodes (node_keys (c ∷ l))
    set_more =
        each-insert (λ n. n * 16) (λ n. omega arith) (node_keys l) (node_part l)
        (node_keys (c ∷ l)) c.node (key_of c) (omega arith) (omega arith)
        here (λ n d. each_same _ _ rules (λ r _. rw (other_node n r d))) nodes a

  -- in rising order the keys of candidates of which none comes twice are those of the set of pairs, by node and then rule
  pub sorted_keys : (nodes : ℕ) (l : List Candidate) → AreLow nodes rules l → is_twice l ≡ false
      → sort (keys_of l) ≡ each nodes (λ n. each rules (λ r. cond (has l n r) ((n * 16 + r) ∷ []) []))
  unfolding sort is_twice
  sorted_keys nodes [] w h = sym (each_none (node_keys []) nodes (λ n. each_none _ rules (λ r. no_key n r)))
  sorted_keys nodes (c ∷ l) w h =
      let p = or_neither (has l c.node c.rule) (is_twice l) h in
      ap (insert (key_of c)) (sorted_keys nodes l w.2 p.1) ∙ set_more nodes c l w.0 w.1 p.0
