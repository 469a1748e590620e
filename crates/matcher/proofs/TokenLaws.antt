-- Laws of matching tokens.
-- Assumes nothing.
use mathlib.Core.Path.{◌≡◌}
use mathlib.Core.Bool.{true}
use mathlib.Core.List.{List}
use Prim.Native.Nat.{ℕ}
use Rattle.words.proofs.TestLaws.{and_both}
use Rattle.syntax.specs.Trees.{Elems}
use Rattle.syntax.specs.Accessors.{text_of}
use Rattle.syntax.specs.Siblings.{kind_of, is_a_token}
use Rattle.matcher.specs.Tokens.{agree, is_same_token}

-- a token that agrees is one
pub same_token_is : (code text : List ℕ) (p c : Elems) → is_same_token code text p c ≡ true → is_a_token p ≡ true
same_token_is code text p c h = (and_both (is_a_token p) (agree (kind_of p) (text_of code p) (kind_of c) (text_of text c)) h).0
