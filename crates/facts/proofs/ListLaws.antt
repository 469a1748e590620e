-- A whole list of facts of a tree.
-- Assumes nothing.
use mathlib.Core.Path.{◌≡◌, sym, ◌∙◌}
use mathlib.Core.Bool.{true, ◌&&◌, true≢false}
use mathlib.Core.List.{List, [], ◌∷◌}
use Prim.Native.Nat.{ℕ, ◌*◌, ◌<◌}
use native.Mathlib.Omega.{arith}
use lib.ListN.{length, drop, length-drop}
use Rattle.syntax.specs.Trees.{tree}
use Rattle.syntax.specs.Accessors.{node_in, element_at}
use Rattle.syntax.specs.Checks.{WellFormed}
use Rattle.syntax.proofs.AccessorLaws.{node_none}
use Rattle.syntax.proofs.Places.{node_at_lem}
use Rattle.facts.specs.declared.Owner.{Owner}
use Rattle.facts.specs.Facts.{Fact, facts_of, are_fact_words, allows, stands, low_kind, high_kind, names_token, has_values, is_fact, are_facts}
use Rattle.facts.specs.Keys.{AreLow}
use Rattle.words.proofs.TestLaws.{low_or, and_both}
use Rattle.facts.proofs.FactLaws.{all_facts}

-- a node's number is below 16,384
node_low : (low high e : ℕ) (words : List ℕ) → WellFormed words → node_in low high (element_at e (tree words)) ≡ true → e < 16384
node_low low high e words h t =
    low_or (length (drop (e * 3) words)) 3
    (λ s. absurd (true≢false (sym t ∙ node_at_lem low high e words h ∙ node_none low high 0 (drop (e * 3) words) s)))
    (λ s. omega (arith, h.few, length-drop (e * 3) words))

-- and so is the element of a tree's fact
facts_low : (owner : Owner) (words : List ℕ) (n : ℕ) (fs : List Fact) → WellFormed words → are_facts owner (tree words) n fs ≡ true → AreLow fs
unfolding are_facts
facts_low owner words n [] h t = tt
facts_low owner words n (f ∷ fs) h t =
    let p = and_both (is_fact owner (tree words) n f) (are_facts owner (tree words) n fs) t in
    let q = and_both (allows owner f.sort && stands (tree words) f && names_token (tree words) f) (has_values n f.sort f.second f.third) p.0 in
    let r = and_both (allows owner f.sort && stands (tree words) f) (names_token (tree words) f) q.0 in
    let s = and_both (allows owner f.sort) (stands (tree words) f) r.0 in
    (node_low (low_kind f.sort) (high_kind f.sort) f.element words h s.1, facts_low owner words n fs h p.1)

module _ (owner : Owner) (words : List ℕ) (n : ℕ) (l : List ℕ) (formed : WellFormed words)
    (t : all_facts owner (tree words) n l ≡ true) where
  -- facts of the tree: their elements fit
  pub list_low : AreLow (facts_of l)
  list_low = facts_low owner words n (facts_of l) formed (and_both (are_fact_words l) (are_facts owner (tree words) n (facts_of l)) t).1
