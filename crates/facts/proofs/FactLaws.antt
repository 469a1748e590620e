-- Facts in a list of words, and which words are facts.
-- Assumes nothing.
use mathlib.Core.Path.{◌≡◌, refl, sym, ap, ◌∙◌}
use mathlib.Core.Bool.{Bool, cond, ◌&&◌}
use mathlib.Core.List.{List, [], ◌∷◌}
use Prim.Native.Nat.{ℕ, zero, suc, ◌+◌, ◌*◌, ◌/◌, ◌<◌, ◌≤◌}
use native.Mathlib.Omega.{arith}
use lib.ListN.{length, drop, get_or, length-drop}
use lib.Seq.{drop-cons, drop-drop}
use Rattle.std.specs.Prelude.{Some, None, slice_get}
use Rattle.std.proofs.lemmas.Option.{slice_get-get_or, slice_get_past}
use lib.Dec.{ltb}
use borrow.Author.Tests.{lt-ltb, le-ltb}
use Rattle.words.proofs.TestLaws.{low_or}
use Rattle.facts.specs.declared.Sort.{Sort}
use Rattle.syntax.specs.Trees.{Elems}
use Rattle.facts.specs.declared.Owner.{Owner}
use Rattle.facts.specs.Facts.{Fact, fact_at, facts_of, are_fact_words, are_facts, sort_number, fact_index, is_known, fact_by}
use Rattle.facts.specs.Keys.{AreLow, InRange}

-- ---- the facts of a list

-- the first four words are the first fact
pub facts_cons : (l : List ℕ) → 4 ≤ length l → facts_of l ≡ fact_at l ∷ facts_of (drop 4 l)
unfolding facts_of
facts_cons [] h = absurd (omega arith)
facts_cons (a ∷ []) h = absurd (omega arith)
facts_cons (a ∷ (b ∷ [])) h = absurd (omega arith)
facts_cons (a ∷ (b ∷ (c ∷ []))) h = absurd (omega arith)
facts_cons (a ∷ (b ∷ (c ∷ (d ∷ l)))) h = refl

-- words past the last whole fact are none
pub length_facts : (l : List ℕ) → length (facts_of l) ≡ length l / 4
unfolding facts_of
length_facts [] = refl
length_facts (a ∷ []) = refl
length_facts (a ∷ (b ∷ [])) = refl
length_facts (a ∷ (b ∷ (c ∷ []))) = refl
length_facts (a ∷ (b ∷ (c ∷ (d ∷ l)))) = omega (arith, length_facts l)

four : (i : ℕ) → 4 * suc i ≡ suc (suc (suc (suc (4 * i))))
four i = omega arith

-- the facts from a place on
pub facts_drop : (i : ℕ) (l : List ℕ) → drop i (facts_of l) ≡ facts_of (drop (4 * i) l)
unfolding facts_of
facts_drop zero l = refl
facts_drop (suc i) [] = rw (four i)
facts_drop (suc i) (a ∷ []) = rw (four i)
facts_drop (suc i) (a ∷ (b ∷ [])) = rw (four i)
facts_drop (suc i) (a ∷ (b ∷ (c ∷ []))) = rw (four i)
facts_drop (suc i) (a ∷ (b ∷ (c ∷ (d ∷ l)))) = rw (four i) (facts_drop i l)

module _ (l : List ℕ) (i : ℕ) (h : i < length (facts_of l)) where
  -- the fact at a place, and those that follow it
  pub facts_from : drop i (facts_of l) ≡ fact_at (drop (4 * i) l) ∷ drop (suc i) (facts_of l)
  facts_from =
      let n : 4 ≤ length (drop (4 * i) l) = omega (arith, length-drop (4 * i) l, length_facts l) in
      let e : 4 * i + 4 ≡ 4 * suc i = omega arith in
      facts_drop i l ∙ facts_cons (drop (4 * i) l) n ∙ rw (drop-drop 4 (4 * i) l, e, ← facts_drop (suc i) l)

  -- that fact
  pub get_fact : slice_get (facts_of l) i ≡ Some (fact_at (drop (4 * i) l))
  get_fact =
      let f : get_or (facts_of l) i (fact_at l) ≡ fact_at (drop (4 * i) l) = ap (λ (fs : List Fact). get_or fs 0 (fact_at l)) (sym (drop-cons (facts_of l) i (fact_at l) h) ∙ facts_from) in
      slice_get-get_or (facts_of l) i (fact_at l) h ∙ ap Some f

-- the fact at a place, where there is one, and the first fact of a key, where it is known, by the words that it begins with
pub fact_at_place : (l : List ℕ) (i : ℕ) → slice_get (facts_of l) i ≡ cond (ltb i (length (facts_of l))) (Some (fact_at (drop (4 * i) l))) None
fact_at_place l i =
    low_or i (length (facts_of l))
    (λ h. rw (lt-ltb i (length (facts_of l)) h) (get_fact l i h))
    (λ h. rw (le-ltb i (length (facts_of l)) h) (slice_get_past (facts_of l) i h))

pub known_fact : (sort : Sort) (e x : ℕ) (l : List ℕ) → fact_by sort e x (facts_of l) ≡ cond (is_known (sort_number sort) e x (facts_of l)) (Some (fact_at (drop (4 * fact_index (sort_number sort) e x (facts_of l)) l))) None
known_fact sort e x l = fact_at_place l (fact_index (sort_number sort) e x (facts_of l))

-- ---- elements below 16,384

-- the facts from a place on have low elements where all have
pub low_drop : (i : ℕ) (fs : List Fact) → AreLow fs → AreLow (drop i fs)
low_drop zero fs w = w
low_drop (suc i) [] w = tt
low_drop (suc i) (f ∷ fs) w = low_drop i fs w.1

-- the parts of the fact at a place fit in its key: a sort has 4 bits and a value 28
pub in_range : (l : List ℕ) (i : ℕ) → i < length (facts_of l) → AreLow (facts_of l) → InRange (fact_at (drop (4 * i) l))
in_range l i h w = record { low_sort = omega arith; low_element = (rw (facts_from l i h) at (low_drop i (facts_of l) w)).0; low_first = omega arith }

abbrev pub Ranged : List Fact → Type 0
Ranged [] = Unit {0}
Ranged (f ∷ fs) = InRange f × Ranged fs

pub ranged : (l : List ℕ) → AreLow (facts_of l) → Ranged (facts_of l)
unfolding facts_of
ranged [] w = tt
ranged (a ∷ []) w = tt
ranged (a ∷ (b ∷ [])) w = tt
ranged (a ∷ (b ∷ (c ∷ []))) w = tt
ranged (a ∷ (b ∷ (c ∷ (d ∷ l)))) w = (record { low_sort = omega arith; low_element = w.0; low_first = omega arith }, ranged l w.1)

-- all words are those of facts, and each fact is the tree's
abbrev pub all_facts : Owner → Elems → ℕ → List ℕ → Bool
all_facts owner tree n l = are_fact_words l && are_facts owner tree n (facts_of l)
