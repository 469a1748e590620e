-- Laws of siblings: which of them are nodes, tokens and trivia, going along them, and what the code needs of passing some.
-- Assumes nothing.
use mathlib.Core.Path.{◌≡◌, refl, sym, ap, ◌∙◌}
use mathlib.Core.Bool.{Bool, true, false, false≢true}
use mathlib.Core.List.{List}
use Prim.Native.Nat.{ℕ, ◌+◌, ◌*◌, ◌≤◌}
use native.Mathlib.Omega.{arith}
use lib.Dec.{leb}
use lib.ListN.{length, drop}
use borrow.Author.Tests.{le-leb, leb-true}
use Rattle.words.specs.Fields.{is_a_token as tokenWords, syntax_kind}
use Rattle.words.proofs.TestLaws.{and_both, and_of}
use Rattle.syntax.specs.Parts.{span}
use Rattle.syntax.proofs.PartLaws.{span-token}
use Rattle.syntax.specs.Trees.{Elems, none, token, node, elems}
use Rattle.syntax.specs.Accessors.{rest, some, token_in}
use Rattle.syntax.proofs.TreeLaws.{elems-token, elems_node}
use Rattle.syntax.proofs.AccessorLaws.{rest_are, some_is}
use Rattle.syntax.specs.Siblings.{kind_of, is_a_node, is_a_token, is_trivia, skip_tokens}

-- ---- nodes, tokens and trivia

pub trivia_is_token : (c : Elems) → is_trivia c ≡ true → is_a_token c ≡ true
trivia_is_token none h = absurd (false≢true h)
trivia_is_token (token i k s e r) h =
    let p = and_both (leb 2 k) (leb k 3) h in
    and_of (le-leb 1 k (omega (arith, leb-true 2 k p.0))) (le-leb k 1023 (omega (arith, leb-true k 3 p.1)))
trivia_is_token (node i k s e cs r) h = absurd (false≢true h)

pub some_node : (c : Elems) → is_a_node c ≡ true → some c ≡ true
some_node none h = absurd (false≢true h)
some_node (token i k s e r) h = refl
some_node (node i k s e cs r) h = refl

pub some-token : (low high : ℕ) (c : Elems) → token_in low high c ≡ true → some c ≡ true
some-token low high none h = absurd (false≢true h)
some-token low high (token i k s e r) h = refl
some-token low high (node i k s e cs r) h = refl

-- a part that has an element has its three words
pub long_some : (i : ℕ) (l : List ℕ) → some (elems i l) ≡ true → 3 ≤ length l
long_some i l h = leb-true 3 (length l) (sym (some_is i l) ∙ h)

-- ---- passing tokens of some kinds

module _ (low high : ℕ) where
  pub skip_here : (c : Elems) → token_in low high c ≡ false → skip_tokens low high c ≡ c
  unfolding skip_tokens
  skip_here none h = refl
  skip_here (token i k s e r) h = rw h
  skip_here (node i k s e cs r) h = refl

  pub skip_next : (c : Elems) → token_in low high c ≡ true → skip_tokens low high c ≡ skip_tokens low high (rest c)
  unfolding skip_tokens
  skip_next none h = refl
  skip_next (token i k s e r) h = rw h
  skip_next (node i k s e cs r) h = absurd (false≢true h)

  pub token_long : (i : ℕ) (l : List ℕ) → token_in low high (elems i l) ≡ true → 3 ≤ length l
  token_long i l t = long_some i l (some-token low high (elems i l) t)

  -- what follows a token begins behind its three words
  token_spans : (i : ℕ) (l : List ℕ) → 3 ≤ length l → token_in low high (elems i l) ≡ true → (b : Bool) → tokenWords l ≡ b → span l ≡ 1
  token_spans i l h t true e = span-token l e
  token_spans i l h t false e = absurd (false≢true (rw (elems_node i l h e) at t))

  pub token_rest : (i : ℕ) (l : List ℕ) → token_in low high (elems i l) ≡ true → rest (elems i l) ≡ elems (i + 1) (drop 3 l)
  token_rest i l t =
      let h = token_long i l t in
      rest_are i l h ∙ ap (λ (n : ℕ). elems (i + n) (drop (n * 3) l)) (token_spans i l h t (tokenWords l) refl)

-- ---- the syntax kind

kind_by : (i : ℕ) (l : List ℕ) → 3 ≤ length l → (b : Bool) → tokenWords l ≡ b → kind_of (elems i l) ≡ syntax_kind l
kind_by i l h true e = rw (elems-token i l h e)
kind_by i l h false e = rw (elems_node i l h e)

pub kind_is : (i : ℕ) (l : List ℕ) → 3 ≤ length l → kind_of (elems i l) ≡ syntax_kind l
kind_is i l h = kind_by i l h (tokenWords l) refl
