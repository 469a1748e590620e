-- 18 to 20, and 21 behind them.
-- Assumes nothing.
use mathlib.Core.Path.{◌≡◌, refl, sym, ◌∙◌}
use mathlib.Core.Logic.{◌↔◌}
use mathlib.Core.Bool.{Bool, true, false, cond}
use mathlib.Core.List.{List}
use Prim.Native.Nat.{ℕ}
use lib.ListN.{length}
use borrow.Author.Tests.{ne_eqb}
use Rattle.std.proofs.Common.{Result, Ok, Err}
use Rattle.errors.specs.Refusals.{Outcome, ok, err}
use Rattle.errors.specs.declared.Refusal.{Refusal}
use Rattle.errors.specs.declared.Refusal.TheVariants.{MalformedFacts}
use Rattle.errors.specs.Refusals.{first_of}
use Rattle.errors.proofs.Laws.{refused_not, first_pass, first-stop}
use Rattle.syntax.specs.Trees.{tree}
use Rattle.syntax.specs.Checks.{tree_checks, tree_outcome, WellFormed}
use Rattle.syntax.proofs.CheckLaws.{accepted}
use Rattle.syntax.proofs.Unique.{accepted_exactly}
use Rattle.facts.specs.declared.Owner.{Owner}
use Rattle.facts.specs.Facts.{is_fact_list}
use Rattle.trees.specs.Given.{fact_checks, with_facts, rule_outcome, listed_outcome, Stands}

module _ (owner : Owner) (t : Bool) (n : ℕ) (l facts : List ℕ) (m : ℕ) where
  pub tree_refused : (r : Refusal) → tree_outcome t n l ≡ err r → with_facts owner t n l facts m ≡ err r
  unfolding with_facts
  tree_refused r h = first-stop (tree_checks t n l) (fact_checks owner l facts m) r h

  pub tree_decides : (tree_outcome t n l ≡ ok → ⊥) → with_facts owner t n l facts m ≡ tree_outcome t n l
  tree_decides h = go (tree_outcome t n l) refl
    where
      go : (o : Outcome) → tree_outcome t n l ≡ o → with_facts owner t n l facts m ≡ tree_outcome t n l
      go (Ok tt) e = absurd (h e)
      go (Err r) e = tree_refused r e ∙ sym e

  pub facts_good : tree_outcome t n l ≡ ok → is_fact_list owner (tree l) m facts ≡ true → with_facts owner t n l facts m ≡ ok
  unfolding first_of with_facts
  facts_good h f = first_pass (tree_checks t n l) (fact_checks owner l facts m) h ∙ rw f

  pub facts_bad : tree_outcome t n l ≡ ok → is_fact_list owner (tree l) m facts ≡ false → with_facts owner t n l facts m ≡ err MalformedFacts
  unfolding first_of with_facts
  facts_bad h f = first_pass (tree_checks t n l) (fact_checks owner l facts m) h ∙ rw f

  pub tree_first : (o : Outcome) → tree_outcome t n l ≡ o → with_facts owner t n l facts m ≡ ok → tree_outcome t n l ≡ ok
  tree_first (Ok tt) e h = e
  tree_first (Err r) e h = absurd (refused_not (sym (tree_refused r e) ∙ h))

  -- 18 to 20 pass, and 21 decides
  pub facts_decide : tree_outcome t n l ≡ ok → cond (is_fact_list owner (tree l) m facts) ok (err MalformedFacts) ≡ with_facts owner t n l facts m
  facts_decide h = go (is_fact_list owner (tree l) m facts) refl
    where
      go : (b : Bool) → is_fact_list owner (tree l) m facts ≡ b → cond b ok (err MalformedFacts) ≡ with_facts owner t n l facts m
      go true f = sym (facts_good h f)
      go false f = sym (facts_bad h f)

  pub facts_then : (b : Bool) → is_fact_list owner (tree l) m facts ≡ b → tree_outcome t n l ≡ ok → with_facts owner t n l facts m ≡ ok → is_fact_list owner (tree l) m facts ≡ true
  facts_then true e h w = e
  facts_then false e h w = absurd (refused_not (sym (facts_bad h e) ∙ w))

-- ACCEPTED EXACTLY IF WELL-FORMED, tree and facts
pub stands_exactly : (owner : Owner) (n : ℕ) (l facts : List ℕ) (m : ℕ) → (with_facts owner true n l facts m ≡ ok) ↔ Stands owner n l facts m
stands_exactly owner n l facts m = (
  λ h. let t = tree_first owner true n l facts m (tree_outcome true n l) refl h in
      record { tree_of = (accepted_exactly n l).0 t; facts_of = facts_then owner true n l facts m (is_fact_list owner (tree l) m facts) refl t h },
  λ s. facts_good owner true n l facts m ((accepted_exactly n l).1 s.tree_of) s.facts_of,
)

-- what an accepted rule's tree that is there passed: it is well-formed, and so are its facts
module _ (owner : Owner) (l facts : List ℕ) (m : ℕ) (there : length l ≡ 0 → ⊥) where
  with_stands : (t : Bool) (n : ℕ) → with_facts owner t n l facts m ≡ ok → WellFormed l × (is_fact_list owner (tree l) m facts ≡ true)
  with_stands t n h =
      let o = tree_first owner t n l facts m (tree_outcome t n l) refl h in
      (accepted t n l o, facts_then owner t n l facts m (is_fact_list owner (tree l) m facts) refl o h)

  rule_stands : (t : Bool) (n : ℕ) → rule_outcome owner t l n facts m ≡ ok → WellFormed l × (is_fact_list owner (tree l) m facts ≡ true)
  rule_stands t n h = with_stands t n (rw (ne_eqb (length l) 0 there) at h)

  pub listed_stands : (right : Result Bool Refusal) (n : ℕ) → listed_outcome right owner l n facts m ≡ ok → WellFormed l × (is_fact_list owner (tree l) m facts ≡ true)
  listed_stands (Ok t) n h = rule_stands t n h
  listed_stands (Err r) n h = absurd (refused_not h)
