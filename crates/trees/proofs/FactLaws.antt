-- Which words are facts of a tree, from the front.
-- Assumes nothing.
use mathlib.Core.Path.{◌≡◌, refl, sym, ap}
use mathlib.Core.Bool.{Bool, true, false, ◌&&◌, and-false}
use mathlib.Core.List.{List, [], ◌∷◌, ◌++◌}
use Prim.Native.Nat.{ℕ, ◌%◌}
use native.Mathlib.Omega.{arith}
use lib.ListN.{length, length-append}
use Rattle.syntax.specs.Trees.{Elems}
use Rattle.facts.specs.declared.Owner.{Owner}
use Rattle.facts.specs.Facts.{fact_at, facts_of, is_fact_part, are_fact_words, is_fact, are_facts}
use Rattle.facts.proofs.FactLaws.{all_facts}

and_cross : (a b c d : Bool) → ((a && b) && (c && d)) ≡ ((a && c) && (b && d))
and_cross true true c d = refl
and_cross true false c d = sym (and-false c)
and_cross false b c d = refl

-- words that are no whole facts
pub words_uneven : (l : List ℕ) → (length l % 4 ≡ 0 → ⊥) → are_fact_words l ≡ false
unfolding are_fact_words
words_uneven [] n = absurd (n refl)
words_uneven (a ∷ []) n = refl
words_uneven (a ∷ (b ∷ [])) n = refl
words_uneven (a ∷ (b ∷ (c ∷ []))) n = refl
words_uneven (a ∷ (b ∷ (c ∷ (d ∷ l)))) n =
    rw (words_uneven l (λ e. n (omega arith)), and-false (is_fact_part (a ∷ b ∷ c ∷ d ∷ l)))

module _ (owner : Owner) (tree : Elems) (n : ℕ) where
  -- the first chunk is the first fact
  part_first : (x r : List ℕ) → length x ≡ 4 → all_facts owner tree n (x ++ r) ≡ (is_fact_part x && is_fact owner tree n (fact_at x) && all_facts owner tree n r)
  unfolding are_fact_words facts_of are_facts
  part_first [] r e = absurd (omega arith)
  part_first (a ∷ []) r e = absurd (omega arith)
  part_first (a ∷ (b ∷ [])) r e = absurd (omega arith)
  part_first (a ∷ (b ∷ (c ∷ []))) r e = absurd (omega arith)
  part_first (a ∷ (b ∷ (c ∷ (d ∷ [])))) r e = and_cross (is_fact_part (a ∷ b ∷ c ∷ d ∷ [])) (are_fact_words r) (is_fact owner tree n (fact_at (a ∷ b ∷ c ∷ d ∷ []))) (are_facts owner tree n (facts_of r))
  part_first (a ∷ (b ∷ (c ∷ (d ∷ (f ∷ x))))) r e = absurd (omega arith)

  module _ (l x r : List ℕ) (e : l ≡ x ++ r) (m : length x ≡ 4) where
    pub all_more : (is_fact_part x && is_fact owner tree n (fact_at x)) ≡ true → all_facts owner tree n l ≡ all_facts owner tree n r
    all_more p = rw (e, part_first x r m, p)

    pub all_stop : (is_fact_part x && is_fact owner tree n (fact_at x)) ≡ false → all_facts owner tree n l ≡ false
    all_stop p = rw (e, part_first x r m, p)

    -- what is left are whole facts, where all are
    pub even_more : length l % 4 ≡ 0 → length r % 4 ≡ 0
    even_more z = omega (arith, ap length e, length-append x r)

  pub all_end : (l : List ℕ) → length l ≡ 0 → all_facts owner tree n l ≡ true
  unfolding are_fact_words facts_of are_facts
  all_end [] h = refl
  all_end (a ∷ l) h = absurd (omega arith)
