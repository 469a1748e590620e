-- A stand-in name by its prefix and the name behind it.
-- Assumes nothing.
use Rattle.std.proofs.Common.{◌≡◌, refl, ◌∙◌, ℕ, arith, Bool, true, false, List, [], ◌∷◌, length, drop, None}
use Rattle.std.specs.List.{prefix_len, position}
use mathlib.Core.Bool.{not}
use borrow.Author.Tests.{le-ltb}
use Rattle.words.specs.Texts.{has_prefix, stand_in_prefix}
use Rattle.words.proofs.TextLaws.{same-append}
use Rattle.tokens.specs.Tokens.{token_text}
use Rattle.parsing.specs.Reading.{Var}
use Rattle.parsing.specs.Patterns.{has_name_text, name_position}
use Rattle.rust_code.specs.StandIns.{has_stand_in, stand_in_position}

-- two tests that always agree, and one that never holds
module _ {X : Type 0} (p : X → Bool) where
  prefix_same : (q : X → Bool) → ((x : X) → p x ≡ q x) → (xs : List X) → prefix_len (λ x. not (p x)) xs ≡ prefix_len (λ x. not (q x)) xs
  prefix_same q h [] = refl
  prefix_same q h (x ∷ xs) = rw (h x, prefix_same q h xs)

  pub position_same : (q : X → Bool) → ((x : X) → p x ≡ q x) → (xs : List X) → position p xs ≡ position q xs
  position_same q h xs = rw (prefix_same q h xs)

  prefix_all : ((x : X) → p x ≡ false) → (xs : List X) → prefix_len (λ x. not (p x)) xs ≡ length xs
  prefix_all h [] = refl
  prefix_all h (x ∷ xs) = rw (h x, prefix_all h xs) (omega arith)

  pub position_none : ((x : X) → p x ≡ false) → (xs : List X) → position p xs ≡ None
  position_none h xs = rw (prefix_all h xs, le-ltb (length xs) (length xs) (omega arith))

module _ (text : List ℕ) (vs : List Var) (x : List ℕ) where
  pub by_name : has_prefix stand_in_prefix x ≡ true → stand_in_position text vs x ≡ name_position text vs (drop 14 x)
  by_name h = position_same (has_stand_in text x) (has_name_text text (drop 14 x)) (λ v. same-append stand_in_prefix (token_text text v.name) x ∙ rw h) vs

  pub by_none : has_prefix stand_in_prefix x ≡ false → stand_in_position text vs x ≡ None
  by_none h = position_none (has_stand_in text x) (λ v. same-append stand_in_prefix (token_text text v.name) x ∙ rw h) vs
