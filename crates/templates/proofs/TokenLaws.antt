-- Receivers: the tokens of a part by its words in turn, and the lone one among them.
-- Assumes nothing.
use mathlib.Core.Path.{◌≡◌, refl, sym, ap, ◌∙◌}
use mathlib.Core.Bool.{Bool, true, false, cond, false≢true}
use mathlib.Core.List.{List, [], ◌∷◌, ◌++◌, append-nil}
use Prim.Native.Nat.{ℕ, zero, suc, ◌+◌, ◌-◌, ◌*◌, ◌≤◌, ◌<◌}
use native.Mathlib.Omega.{arith}
use lib.Dec.{ltb}
use lib.ListN.{length, take, drop}
use lib.Seq.{drop-drop}
use borrow.Author.Tests.{eq-eqb, ne_eqb, ltb-true, ltb-false}
use Rattle.std.specs.Prelude.{Option, Some, None, is_some}
use Rattle.words.specs.Fields.{is_a_token}
use Rattle.words.proofs.TestLaws.{low_or}
use Rattle.syntax.specs.Parts.{span, child_words, rest_words}
use Rattle.syntax.specs.Trees.{Elems, none, token, node, elems}
use Rattle.syntax.specs.Accessors.{children, find_node, find_expression, by_itself, between}
use Rattle.syntax.specs.Siblings.{kind_of}
use Rattle.syntax.proofs.PartLaws.{span_pos, span-token, rest_shorter, children_shorter}
use Rattle.syntax.proofs.TreeLaws.{elems_end, elems-token, elems_node}
use Rattle.templates.specs.Pieces.{tokens_of, receiver_below}
use Rattle.templates.specs.Rendering.{only_of}

-- the tokens of words, three to an element, numbered in turn
unfoldable pub tokens_in : ℕ → List ℕ → List ℕ
tokens_in i [] = []
tokens_in i (w ∷ []) = []
tokens_in i (w ∷ (s ∷ [])) = []
tokens_in i (w ∷ (s ∷ (e ∷ l))) = cond (is_a_token (w ∷ [])) (i ∷ tokens_in (i + 1) l) (tokens_in (i + 1) l)

pub tokens_end : (i : ℕ) (l : List ℕ) → length l < 3 → tokens_in i l ≡ []
unfolding tokens_in
tokens_end i [] h = refl
tokens_end i (w ∷ []) h = refl
tokens_end i (w ∷ (s ∷ [])) h = refl
tokens_end i (w ∷ (s ∷ (e ∷ l))) h = absurd (omega arith)

pub tokens_step : (i : ℕ) (l : List ℕ) → 3 ≤ length l → tokens_in i l ≡ cond (is_a_token l) (i ∷ tokens_in (i + 1) (drop 3 l)) (tokens_in (i + 1) (drop 3 l))
unfolding tokens_in
tokens_step i [] h = absurd (omega arith)
tokens_step i (w ∷ []) h = absurd (omega arith)
tokens_step i (w ∷ (s ∷ [])) h = absurd (omega arith)
tokens_step i (w ∷ (s ∷ (e ∷ l))) h = refl

-- in two parts
thrice : (k : ℕ) → suc k * 3 ≡ suc (suc (suc (k * 3)))
thrice k = omega arith

tokens_split : (k i : ℕ) (l : List ℕ) → tokens_in i (take (k * 3) l) ++ tokens_in (i + k) (drop (k * 3) l) ≡ tokens_in i l
unfolding tokens_in
tokens_split zero i l = let z : i + 0 ≡ i = omega arith in rw z
tokens_split (suc k) i [] = rw (thrice k)
tokens_split (suc k) i (w ∷ []) = rw (thrice k)
tokens_split (suc k) i (w ∷ (s ∷ [])) = rw (thrice k)
tokens_split (suc k) i (w ∷ (s ∷ (e ∷ l))) =
    let n : i + suc k ≡ i + 1 + k = omega arith in
    rw (thrice k, n) (by (is_a_token (w ∷ [])) (tokens_split k (i + 1) l))
  where
    by : (b : Bool) → tokens_in (i + 1) (take (k * 3) l) ++ tokens_in (i + 1 + k) (drop (k * 3) l) ≡ tokens_in (i + 1) l
        → cond b (i ∷ tokens_in (i + 1) (take (k * 3) l)) (tokens_in (i + 1) (take (k * 3) l)) ++ tokens_in (i + 1 + k) (drop (k * 3) l)
        ≡ cond b (i ∷ tokens_in (i + 1) l) (tokens_in (i + 1) l)
    by true h = ap (λ (x : List ℕ). i ∷ x) h
    by false h = h

-- the tree's tokens are those of its words
tokens_first : (n i : ℕ) (l : List ℕ) → 3 ≤ length l → length l ≤ suc n → ((j : ℕ) (k : List ℕ) → length k ≤ n → tokens_of (elems j k) ≡ tokens_in j k)
    → (b : Bool) → is_a_token l ≡ b → tokens_of (elems i l) ≡ tokens_in i l
unfolding tokens_of
tokens_first n i l h m below true t =
    let r = rest_shorter l (omega arith) in
    let s : span l * 3 ≡ 3 = omega (arith, span-token l t) in
    let f : tokens_in i l ≡ i ∷ tokens_in (i + 1) (drop 3 l) = tokens_step i l h ∙ rw t in
    rw (elems-token i l h t, below (i + 1) (rest_words l) (omega arith), f, s)
tokens_first n i l h m below false t =
    let r = rest_shorter l (omega arith) in
    let q = children_shorter l (omega arith) in
    let p = span_pos l in
    let a : span l * 3 - 3 ≡ (span l - 1) * 3 = omega arith in
    let b : drop (span l * 3) l ≡ drop ((span l - 1) * 3) (drop 3 l) =
    ap (λ (x : ℕ). drop x l) (let e : span l * 3 ≡ 3 + (span l - 1) * 3 = omega arith in e) ∙ sym (drop-drop ((span l - 1) * 3) 3 l) in
    let d : i + span l ≡ i + 1 + (span l - 1) = omega arith in
    let f : tokens_in i l ≡ tokens_in (i + 1) (drop 3 l) = tokens_step i l h ∙ rw t in
    rw (elems_node i l h t, below (i + 1) (child_words l) (omega arith), below (i + span l) (rest_words l) (omega arith), f, a, b, d)
    (tokens_split (span l - 1) (i + 1) (drop 3 l))

tokens_of_lem : (n i : ℕ) (l : List ℕ) → length l ≤ n → tokens_of (elems i l) ≡ tokens_in i l
unfolding tokens_of
tokens_of_lem zero i l h = rw (elems_end i l (omega arith), tokens_end i l (omega arith))
tokens_of_lem (suc n) i l h =
    low_or (length l) 3 (λ s. rw (elems_end i l s, tokens_end i l s)) (λ s. tokens_first n i l s h (λ j k m. tokens_of_lem n j k m) (is_a_token l) refl)

tokens_are : (i : ℕ) (l : List ℕ) → tokens_of (elems i l) ≡ tokens_in i l
tokens_are i l = tokens_of_lem (length l) i l (omega arith)

-- ---- the lone token

-- the lone one of a list behind one that was met, or none
abbrev pub only_after : Option ℕ → List ℕ → Option ℕ
only_after None l = only_of l
only_after (Some o) [] = Some o
only_after (Some o) (i ∷ l) = None

pub only_start : (i : ℕ) (l : List ℕ) → only_after None (tokens_in i l) ≡ only_of (tokens_of (elems i l))
only_start i l = rw (tokens_are i l)

only_first_of : (i : ℕ) (x : List ℕ) → only_of (i ∷ x) ≡ only_after (Some i) x
only_first_of i [] = refl
only_first_of i (j ∷ x) = refl

module _ (o : Option ℕ) (i : ℕ) (l : List ℕ) where
  pub only_end : ltb (length l) 3 ≡ true → only_after o (tokens_in i l) ≡ o
  only_end h = rw (tokens_end i l (ltb-true _ _ h)) (by o)
    where
      by : (o : Option ℕ) → only_after o [] ≡ o
      by None = refl
      by (Some x) = refl

  -- one more element: a token behind another, the first token, a node
  module _ (h : ltb (length l) 3 ≡ false) where
    pub only_second : is_a_token l ≡ true → is_some o ≡ true → only_after o (tokens_in i l) ≡ None
    only_second t p = rw (tokens_step i l (ltb-false _ _ h), t) (by o p)
      where
        by : (o : Option ℕ) → is_some o ≡ true → only_after o (i ∷ tokens_in (i + 1) (drop 3 l)) ≡ None
        by None p = absurd (false≢true p)
        by (Some x) p = refl

    pub only_first : is_a_token l ≡ true → is_some o ≡ false → only_after o (tokens_in i l) ≡ only_after (Some i) (tokens_in (i + 1) (drop 3 l))
    only_first t p = rw (tokens_step i l (ltb-false _ _ h), t) (by o p)
      where
        by : (o : Option ℕ) → is_some o ≡ false → only_after o (i ∷ tokens_in (i + 1) (drop 3 l)) ≡ only_after (Some i) (tokens_in (i + 1) (drop 3 l))
        by None p = only_first_of i (tokens_in (i + 1) (drop 3 l))
        by (Some x) p = absurd (false≢true (sym p))

    pub only_node : is_a_token l ≡ false → only_after o (tokens_in i l) ≡ only_after o (tokens_in (i + 1) (drop 3 l))
    only_node t = rw (tokens_step i l (ltb-false _ _ h), t)

-- the tokens of the node that was found are those below it
pub found_tokens : (low high : ℕ) (c : Elems) → tokens_of (by_itself (find_node low high c)) ≡ tokens_of (children (find_node low high c))
unfolding find_node tokens_of
found_tokens low high none = refl
found_tokens low high (token i k s e r) = found_tokens low high r
found_tokens low high (node i k s e cs r) = by (between low high k) (found_tokens low high r)
  where
    by : (b : Bool) → tokens_of (by_itself (find_node low high r)) ≡ tokens_of (children (find_node low high r))
        → tokens_of (by_itself (cond b (node i k s e cs r) (find_node low high r))) ≡ tokens_of (children (cond b (node i k s e cs r) (find_node low high r)))
    by true h = append-nil (tokens_of cs)
    by false h = h

-- the receiver of what is below an element
module _ (c : Elems) (rs : List ℕ) where
  pub receiver_here : kind_of c ≡ 65 → only_of (receiver_below (kind_of c) (children c) rs) ≡ only_of (tokens_of (children (find_expression (children c))))
  receiver_here h = rw (eq-eqb (kind_of c) 65 h, found_tokens 64 1023 (children c))

  pub receiver_kept : (kind_of c ≡ 65 → ⊥) → only_of (receiver_below (kind_of c) (children c) rs) ≡ only_of rs
  receiver_kept h = rw (ne_eqb (kind_of c) 65 h)
