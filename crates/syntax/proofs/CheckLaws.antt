-- The checks of a tree, in their order.
-- Assumes nothing.
use mathlib.Core.Path.{◌≡◌, refl, sym, ap, ◌∙◌}
use mathlib.Core.Bool.{Bool, true, false}
use mathlib.Core.List.{List}
use Prim.Native.Nat.{ℕ, ◌/◌, ◌≤◌}
use lib.ListN.{length}
use lib.Dec.{leb, ltb}
use borrow.Author.Tests.{ltb-false, leb-true, leb-false, le-ltb, lt-ltb}
use Rattle.errors.specs.Refusals.{ok, err}
use Rattle.errors.specs.declared.Refusal.TheVariants.{TreeTooLarge, MalformedTree, TreeTooDeep}
use Rattle.errors.specs.Refusals.{first_of}
use Rattle.errors.proofs.Laws.{refused_not}
use Rattle.words.proofs.TestLaws.{or_neither}
use Rattle.syntax.specs.Trees.{tree, tiles, is_tree_of, depth}
use Rattle.syntax.specs.Checks.{is_too_large, tree_outcome, WellFormed}

-- within the limits
pub not_large : (n : ℕ) (l : List ℕ) → is_too_large n l ≡ false → (length l / 3 ≤ 16383) × (n ≤ 65535)
not_large n l h = let a = or_neither (ltb 16383 (length l / 3)) (ltb 65535 n) h in (ltb-false _ _ a.0, ltb-false _ _ a.1)

pub within_limits : (n : ℕ) (l : List ℕ) → length l / 3 ≤ 16383 → n ≤ 65535 → is_too_large n l ≡ false
within_limits n l h k = rw (le-ltb 16383 (length l / 3) h, le-ltb 65535 n k)

pub too_large : (t : Bool) (n : ℕ) (l : List ℕ) → is_too_large n l ≡ true → tree_outcome t n l ≡ err TreeTooLarge
unfolding first_of
too_large t n l h = rw h

pub other_text : (n : ℕ) (l : List ℕ) → is_too_large n l ≡ false → tree_outcome false n l ≡ err MalformedTree
unfolding first_of
other_text n l h = rw h

pub no_tree : (n : ℕ) (l : List ℕ) → is_too_large n l ≡ false → is_tree_of tiles n l ≡ false → tree_outcome true n l ≡ err MalformedTree
unfolding first_of
no_tree n l h t = rw (h, t)

pub too_deep : (n : ℕ) (l : List ℕ) → is_too_large n l ≡ false → is_tree_of tiles n l ≡ true → leb (depth (tree l)) 128 ≡ false → tree_outcome true n l ≡ err TreeTooDeep
unfolding first_of
too_deep n l h t d = rw (h, t, lt-ltb 128 (depth (tree l)) (leb-false _ _ d))

pub a_tree : (n : ℕ) (l : List ℕ) → is_too_large n l ≡ false → is_tree_of tiles n l ≡ true → leb (depth (tree l)) 128 ≡ true → tree_outcome true n l ≡ ok
unfolding first_of
a_tree n l h t d = rw (h, t, le-ltb 128 (depth (tree l)) (leb-true _ _ d))

-- what an accepted tree passed
pub record Passed (t : Bool) (n : ℕ) (l : List ℕ) : Type 0 where
  pub right : t ≡ true
  pub large : is_too_large n l ≡ false
  pub is : is_tree_of tiles n l ≡ true
  pub shallow : leb (depth (tree l)) 128 ≡ true

passed_of_lem : (t : Bool) (n : ℕ) (l : List ℕ) → tree_outcome t n l ≡ ok → (a : Bool) → is_too_large n l ≡ a → (b : Bool) → t ≡ b → (d : Bool) → is_tree_of tiles n l ≡ d
    → (e : Bool) → leb (depth (tree l)) 128 ≡ e → Passed t n l
passed_of_lem t n l h true a b x d y e z = absurd (refused_not (sym (too_large t n l a) ∙ h))
passed_of_lem t n l h false a false x d y e z = absurd (refused_not (sym (other_text n l a) ∙ sym (ap (λ (u : Bool). tree_outcome u n l) x) ∙ h))
passed_of_lem t n l h false a true x false y e z = absurd (refused_not (sym (no_tree n l a y) ∙ sym (ap (λ (u : Bool). tree_outcome u n l) x) ∙ h))
passed_of_lem t n l h false a true x true y false z = absurd (refused_not (sym (too_deep n l a y z) ∙ sym (ap (λ (u : Bool). tree_outcome u n l) x) ∙ h))
passed_of_lem t n l h false a true x true y true z = record { right = x; large = a; is = y; shallow = z }

pub passed : (t : Bool) (n : ℕ) (l : List ℕ) → tree_outcome t n l ≡ ok → Passed t n l
passed t n l h = passed_of_lem t n l h (is_too_large n l) refl t refl (is_tree_of tiles n l) refl (leb (depth (tree l)) 128) refl

-- it is well-formed
pub accepted : (t : Bool) (n : ℕ) (l : List ℕ) → tree_outcome t n l ≡ ok → WellFormed l
accepted t n l h =
    let p = passed t n l h in
    let q = not_large n l p.large in
    record { bytes = n; small = q.1; few = q.0; is = p.is; shallow = leb-true _ _ p.shallow }
