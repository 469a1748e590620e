-- "Trees with facts, wherever given", document 01: the checks of one tree, in their order.
-- Assumes nothing.
use Rattle.std.specs.Prelude.{ℕ, ◌/◌, ◌≤◌, ◌≡◌, Bool, true, not, ◌||◌, ◌&&◌, List, [], ◌∷◌, ltb, length}
use Rattle.words.specs.Fields.{end_of}
use Rattle.errors.specs.Refusals.{Outcome}
use Rattle.errors.specs.declared.Refusal.TheVariants.{TreeTooLarge, MalformedTree, TreeTooDeep}
use Rattle.errors.specs.Refusals.{Check, first_of}
use Rattle.syntax.specs.Trees.{Elems, Numbered, words, tree, tiles, formed, covers, is_tree_of, depth}

-- 18 "over 16,383 elements or 65,535 bytes"
abbrev pub is_too_large : ℕ → List ℕ → Bool
is_too_large n l = ltb 16383 (length l / 3) || ltb 65535 n

-- 18, then 19 "malformed", with whether the text is the one that it should be, then 20 "an element deeper than 128, the root being at 1"
abbrev pub tree_checks : Bool → ℕ → List ℕ → List Check
tree_checks has_right_text n l =
    record { fails = is_too_large n l; refusal = TreeTooLarge }
    ∷ record { fails = not (has_right_text && is_tree_of tiles n l); refusal = MalformedTree }
    ∷ record { fails = ltb 128 (depth (tree l)); refusal = TreeTooDeep }
    ∷ []

-- a tree over a text of n bytes
abbrev pub tree_outcome : Bool → ℕ → List ℕ → Outcome
tree_outcome has_right_text n l = first_of (tree_checks has_right_text n l)

-- a well-formed tree over a text of n bytes, within the limits, whose words these are
pub record TreeOf (n : ℕ) (l : List ℕ) : Type 0 where
  pub small : n ≤ 65535
  pub few : length l / 3 ≤ 16383
  pub of : Elems
  pub are : words of ≡ l
  pub whole : covers n of ≡ true
  pub good : formed tiles of ≡ true
  pub numbered : Numbered 0 of
  pub shallow : depth of ≤ 128

-- words that are a tree over some text, which ends where the root does
unfoldable pub is_well_formed : List ℕ → Bool
is_well_formed l = not (is_too_large (end_of l) l) && is_tree_of tiles (end_of l) l && not (ltb 128 (depth (tree l)))

-- the same: words that were accepted as a tree over some text
pub record WellFormed (l : List ℕ) : Type 0 where
  pub bytes : ℕ
  pub small : bytes ≤ 65535
  pub few : length l / 3 ≤ 16383
  pub is : is_tree_of tiles bytes l ≡ true
  pub shallow : depth (tree l) ≤ 128
