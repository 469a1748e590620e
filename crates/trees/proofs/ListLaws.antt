-- A whole list of facts: too many, one that is no fact of the tree, or as steady as its index.
-- Assumes nothing.
use mathlib.Core.Path.{◌≡◌, refl, ◌∙◌}
use mathlib.Core.Bool.{Bool, true, false, not, ◌&&◌, and-false, and_assoc, true≢false}
use mathlib.Core.List.{List}
use Prim.Native.Nat.{ℕ, ◌/◌, ◌<◌, ◌≤◌}
use native.Mathlib.Omega.{arith}
use lib.Dec.{leb}
use lib.ListN.{length}
use borrow.Author.Tests.{le-leb, lt-leb}
use Rattle.syntax.specs.Trees.{tree}
use Rattle.facts.specs.declared.Owner.{Owner}
use Rattle.facts.specs.Facts.{facts_of, are_fact_words, are_facts, has_repeated, has_gap, is_fact_list}
use Rattle.facts.proofs.FactLaws.{all_facts, length_facts}

drop_middle : (a b c d e : Bool) → b ≡ true → (a && b && c && d && e) ≡ (a && c && (d && e))
drop_middle true b c d e h = rw h (and_assoc c d e)
drop_middle false b c d e h = refl

drop-first : (a b c d e : Bool) → (a && c) ≡ false → (a && b && c && d && e) ≡ false
drop-first true b false d e h = rw (and-false b)
drop-first true b true d e h = absurd (true≢false h)
drop-first false b c d e h = refl

module _ (owner : Owner) (words : List ℕ) (n : ℕ) (l : List ℕ) where
  -- too many facts
  pub list_many : 16383 < length l / 4 → is_fact_list owner (tree words) n l ≡ false
  unfolding is_fact_list
  list_many h = rw (lt-leb (length (facts_of l)) 16383 (omega (arith, length_facts l)), and-false (are_fact_words l))

  -- words that are no facts of the tree
  pub list_other : all_facts owner (tree words) n l ≡ false → is_fact_list owner (tree words) n l ≡ false
  unfolding is_fact_list
  list_other t = drop-first (are_fact_words l) (leb (length (facts_of l)) 16383) (are_facts owner (tree words) n (facts_of l)) (not (has_repeated (facts_of l))) (not (has_gap (facts_of l) (facts_of l))) t

  -- facts of the tree are well-formed exactly if none is repeated and no step is left out
  pub list_whole : length l / 4 ≤ 16383 → all_facts owner (tree words) n l ≡ true
      → is_fact_list owner (tree words) n l ≡ (not (has_repeated (facts_of l)) && not (has_gap (facts_of l) (facts_of l)))
  unfolding is_fact_list
  list_whole few t =
      let k : length (facts_of l) ≤ 16383 = omega (arith, length_facts l) in
      drop_middle (are_fact_words l) (leb (length (facts_of l)) 16383) (are_facts owner (tree words) n (facts_of l)) (not (has_repeated (facts_of l))) (not (has_gap (facts_of l) (facts_of l))) (le-leb _ _ k)
      ∙ rw t
