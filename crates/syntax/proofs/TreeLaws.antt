-- The decoder from the front: what a part's first element makes of its tree.
-- Assumes nothing.
use mathlib.Core.Path.{◌≡◌, refl, sym, ◌∙◌}
use mathlib.Core.Bool.{Bool, true, false, cond}
use mathlib.Core.List.{List}
use Prim.Native.Nat.{ℕ, zero, suc, ◌+◌, ◌≤◌, ◌<◌}
use native.Mathlib.Omega.{arith}
use lib.ListN.{length}
use lib.Dec.{ltb}
use borrow.Author.Tests.{lt-ltb, le-ltb, ltb-true, ltb-false}
use Rattle.words.specs.Fields.{is_a_token, syntax_kind, start_of, end_of}
use Rattle.syntax.specs.Parts.{span, child_words, rest_words}
use Rattle.syntax.specs.Trees.{none, token, node, decode, elems}
use Rattle.syntax.proofs.PartLaws.{rest_shorter, children_shorter}

decode_short : (n i : ℕ) (l : List ℕ) → length l < 3 → decode n i l ≡ none
unfolding decode
decode_short zero i l h = refl
decode_short (suc n) i l h = rw (lt-ltb _ _ h)

decode-step : (n i : ℕ) (l : List ℕ) → 3 ≤ length l → decode (suc n) i l ≡
    cond (is_a_token l) (token i (syntax_kind l) (start_of l) (end_of l) (decode n (i + 1) (rest_words l)))
    (node i (syntax_kind l) (start_of l) (end_of l) (decode n (i + 1) (child_words l)) (decode n (i + span l) (rest_words l)))
unfolding decode
decode-step n i l h = rw (le-ltb _ _ h)

-- more calls than there are words change nothing
decode-again : (n m i : ℕ) (l : List ℕ) → ((j : ℕ) (k : List ℕ) → length k ≤ n → length k ≤ m → decode n j k ≡ decode m j k)
    → length l ≤ suc n → length l ≤ suc m → (b : Bool) → ltb (length l) 3 ≡ b → decode (suc n) i l ≡ decode (suc m) i l
decode-again n m i l more h k true e = decode_short (suc n) i l (ltb-true _ _ e) ∙ sym (decode_short (suc m) i l (ltb-true _ _ e))
decode-again n m i l more h k false e =
    let t : 3 ≤ length l = ltb-false _ _ e in
    let r = rest_shorter l (omega arith) in
    let s = children_shorter l (omega arith) in
    decode-step n i l t ∙ rw (
      more (i + 1) (child_words l) (omega arith) (omega arith),
      more (i + span l) (rest_words l) (omega arith) (omega arith),
      more (i + 1) (rest_words l) (omega arith) (omega arith),
    ) (sym (decode-step m i l t))

decode-more : (n m i : ℕ) (l : List ℕ) → length l ≤ n → length l ≤ m → decode n i l ≡ decode m i l
decode-more zero m i l h k = decode_short zero i l (omega arith) ∙ sym (decode_short m i l (omega arith))
decode-more (suc n) zero i l h k = decode_short (suc n) i l (omega arith) ∙ sym (decode_short zero i l (omega arith))
decode-more (suc n) (suc m) i l h k = decode-again n m i l (λ j x. decode-more n m j x) h k (ltb (length l) 3) refl

-- the end, a token and a node
pub elems_end : (i : ℕ) (l : List ℕ) → length l < 3 → elems i l ≡ none
unfolding elems
elems_end i l h = decode_short (length l) i l h

elems-step : (i : ℕ) (l : List ℕ) → 3 ≤ length l → elems i l ≡
    cond (is_a_token l) (token i (syntax_kind l) (start_of l) (end_of l) (elems (i + 1) (rest_words l)))
    (node i (syntax_kind l) (start_of l) (end_of l) (elems (i + 1) (child_words l)) (elems (i + span l) (rest_words l)))
unfolding elems
elems-step i l h =
    let r = rest_shorter l (omega arith) in
    let s = children_shorter l (omega arith) in
    decode-more (length l) (suc (length l)) i l (omega arith) (omega arith) ∙ decode-step (length l) i l h ∙ rw (
      decode-more (length l) (length (child_words l)) (i + 1) (child_words l) (omega arith) (omega arith),
      decode-more (length l) (length (rest_words l)) (i + span l) (rest_words l) (omega arith) (omega arith),
      decode-more (length l) (length (rest_words l)) (i + 1) (rest_words l) (omega arith) (omega arith),
    )

pub elems-token : (i : ℕ) (l : List ℕ) → 3 ≤ length l → is_a_token l ≡ true
    → elems i l ≡ token i (syntax_kind l) (start_of l) (end_of l) (elems (i + 1) (rest_words l))
elems-token i l h t = elems-step i l h ∙ rw t

pub elems_node : (i : ℕ) (l : List ℕ) → 3 ≤ length l → is_a_token l ≡ false
    → elems i l ≡ node i (syntax_kind l) (start_of l) (end_of l) (elems (i + 1) (child_words l)) (elems (i + span l) (rest_words l))
elems_node i l h t = elems-step i l h ∙ rw t
