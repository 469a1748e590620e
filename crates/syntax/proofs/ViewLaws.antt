-- Laws of the code's parts: what the words from a first element on, up to its end and behind it decode to.
-- Assumes nothing.
use mathlib.Core.Path.{◌≡◌, refl, sym, ap, ◌∙◌}
use mathlib.Core.Bool.{Bool, true, false, not, ◌&&◌, and-false, and_assoc}
use mathlib.Core.List.{List, [], ◌∷◌}
use Prim.Native.Nat.{ℕ, zero, suc, ◌+◌, ◌-◌, ◌*◌, ◌/◌, ◌≤◌, ◌<◌}
use native.Mathlib.Omega.{arith}
use lib.ListN.{length, take, drop, length-take, length-drop, drop_of_length-le}
use lib.Seq.{take_all}
use lib.Dec.{leb, ltb}
use borrow.Author.Tests.{le-leb, lt-leb, ltb-true, ltb-false}
use Prim.Native.Nat.{min}
use Rattle.std.proofs.Math.Nat.{min-eq_left, min-eq_right}
use Rattle.words.specs.Fields.{is_a_node, is_a_token, size_of, syntax_kind, start_of, end_of}
use Rattle.words.specs.declared.texts.Range.{Range}
use Rattle.words.proofs.TestLaws.{low_or}
use Rattle.syntax.specs.Parts.{span, child_words, rest_words, end_of_first}
use Rattle.syntax.specs.Trees.{Elems, none, token, node, size, elems, tree}
use Rattle.syntax.specs.Accessors.{children, rest, range_of, some, between, node_in, token_in, element_at, by_itself}
use Rattle.syntax.specs.Siblings.{kind_of}
use Rattle.syntax.specs.Checks.{is_well_formed, WellFormed}
use Rattle.syntax.proofs.PartLaws.{span_pos, span-token, length_rest, rest_shorter, children_shorter}
use Rattle.syntax.proofs.TreeLaws.{elems_end, elems-token, elems_node}
use Rattle.syntax.proofs.AccessorLaws.{children_are, rest_are, range_is, some_is}
use Rattle.syntax.proofs.SiblingLaws.{kind_is}
use Rattle.syntax.proofs.Places.{tree-size, tree-none, token-within, token_not_within}
use Rattle.syntax.proofs.Elements.{itself_at}
use Rattle.syntax.proofs.FormedLaws.{formed_is}

-- ---- an element by itself looks as it does among its siblings

pub node_itself : (low high : ℕ) (c : Elems) → node_in low high (by_itself c) ≡ node_in low high c
node_itself low high none = refl
node_itself low high (token i k s e r) = refl
node_itself low high (node i k s e cs r) = refl

pub range_itself : (c : Elems) → range_of (by_itself c) ≡ range_of c
range_itself none = refl
range_itself (token i k s e r) = refl
range_itself (node i k s e cs r) = refl

-- ---- the first element, by its words

module _ (i : ℕ) (l : List ℕ) where
  empty_by : (s : Bool) → ltb (length l) 3 ≡ s → s ≡ not (leb 3 (length l))
  empty_by true s = rw (lt-leb 3 (length l) (ltb-true _ _ s))
  empty_by false s = rw (le-leb 3 (length l) (ltb-false _ _ s))

  pub empty_is : ltb (length l) 3 ≡ not (some (elems i l))
  empty_is = rw (some_is i l) (empty_by (ltb (length l) 3) refl)

  pub kind_there : ltb (length l) 3 ≡ false → syntax_kind l ≡ kind_of (elems i l)
  kind_there h = sym (kind_is i l (ltb-false _ _ h))

  pub kind_none : ltb (length l) 3 ≡ true → 0 ≡ kind_of (elems i l)
  kind_none h = rw (elems_end i l (ltb-true _ _ h))

  pub range_there : ltb (length l) 3 ≡ false → ◌≡◌ {A = Range} (record { start = start_of l; end = end_of l }) (range_of (elems i l))
  range_there h = sym (range_is i l (ltb-false _ _ h))

  module _ (low high : ℕ) where
    node_by : (s : Bool) → ltb (length l) 3 ≡ s → (t : Bool) → is_a_token l ≡ t → (not s && not t && between low high (syntax_kind l)) ≡ node_in low high (elems i l)
    node_by true s t e = rw (elems_end i l (ltb-true _ _ s))
    node_by false s true e = rw (elems-token i l (ltb-false _ _ s) e)
    node_by false s false e = rw (elems_node i l (ltb-false _ _ s) e)

    pub node_is : (not (ltb (length l) 3) && not (is_a_token l) && between low high (syntax_kind l)) ≡ node_in low high (elems i l)
    node_is = node_by (ltb (length l) 3) refl (is_a_token l) refl

    token_by : (s : Bool) → ltb (length l) 3 ≡ s → (t : Bool) → is_a_token l ≡ t → (not s && t && between low high (syntax_kind l)) ≡ token_in low high (elems i l)
    token_by true s t e = rw (elems_end i l (ltb-true _ _ s))
    token_by false s true e = rw (elems-token i l (ltb-false _ _ s) e)
    token_by false s false e = rw (elems_node i l (ltb-false _ _ s) e)

    pub token_is : (not (ltb (length l) 3) && is_a_token l && between low high (syntax_kind l)) ≡ token_in low high (elems i l)
    token_is = token_by (ltb (length l) 3) refl (is_a_token l) refl

-- ---- what follows the first element, behind its words

module _ (i : ℕ) (l : List ℕ) where
  pub rest_there : span l * 3 ≤ length l → elems (i + span l) (drop (span l * 3) l) ≡ rest (elems i l)
  rest_there k = sym (rest_are i l (omega (arith, span_pos l)))

  -- no words are behind an element that has fewer than it says
  no_rest : length l < span l * 3 → length l < 3 → rest (elems i l) ≡ none
  no_rest k h = rw (elems_end i l h)

  all_passed : length l < span l * 3 → 3 ≤ length l → rest (elems i l) ≡ none
  all_passed k h = rest_are i l h ∙ elems_end (i + span l) (rest_words l) (omega (arith, length_rest l))

  pub rest_over : length l < span l * 3 → rest (elems i l) ≡ none
  rest_over k = low_or (length l) 3 (no_rest k) (all_passed k)

  pub drop_over : length l < span l * 3 → rest_words l ≡ []
  drop_over k = drop_of_length-le l {i = span l * 3} (omega arith)

  -- the words up to the end are the children's
  pub child_end : take (end_of_first l - 3) (drop 3 l) ≡ child_words l
  child_end =
      low_or (length l) (span l * 3)
      (λ k.
      let e : end_of_first l ≡ length l = min-eq_right (omega arith) in
      rw (e, take_all (length l - 3) (drop 3 l) (omega (arith, length-drop 3 l)), take_all (span l * 3 - 3) (drop 3 l) (omega (arith, length-drop 3 l))))
      (λ k. let e : end_of_first l ≡ span l * 3 = min-eq_left k in rw e)

  pub children_end : 3 ≤ length l → elems (i + 1) (take (end_of_first l - 3) (drop 3 l)) ≡ children (elems i l)
  children_end h = rw child_end (sym (children_are i l h))

-- ---- the first element by itself, up to its end

-- its words and k more
itself_token : (i k a b c : ℕ) (m : List ℕ) → is_a_token (a ∷ b ∷ c ∷ m) ≡ true → length (take k m) < 3 → elems i (a ∷ b ∷ c ∷ take k m) ≡ by_itself (elems i (a ∷ b ∷ c ∷ m))
itself_token i k a b c m t z =
    let d : length (rest_words (a ∷ b ∷ c ∷ take k m)) < 3 = omega (arith, length_rest (a ∷ b ∷ c ∷ take k m), span_pos (a ∷ b ∷ c ∷ take k m)) in
    rw (elems-token i (a ∷ b ∷ c ∷ take k m) (omega arith) t, elems-token i (a ∷ b ∷ c ∷ m) (omega arith) t, elems_end (i + 1) (rest_words (a ∷ b ∷ c ∷ take k m)) d)

itself_node : (i k a b c : ℕ) (m : List ℕ) → is_a_token (a ∷ b ∷ c ∷ m) ≡ false → span (a ∷ b ∷ c ∷ m) * 3 ≡ 3 + k → elems i (a ∷ b ∷ c ∷ take k m) ≡ by_itself (elems i (a ∷ b ∷ c ∷ m))
itself_node i k a b c m t z =
    let s = a ∷ b ∷ c ∷ take k m in
    let q : span s * 3 - 3 ≡ k = omega (arith, z) in
    let d : length (rest_words s) < 3 = omega (arith, length_rest s, length-take k m, z) in
    let e : child_words s ≡ child_words (a ∷ b ∷ c ∷ m) = rw q (take_all k (take k m) (omega (arith, length-take k m))) in
    rw (elems_node i s (omega arith) t, elems_node i (a ∷ b ∷ c ∷ m) (omega arith) t, elems_end (i + span s) (rest_words s) d, e)

itself_words : (i : ℕ) (l : List ℕ) → 3 ≤ length l → (k : ℕ) → span l * 3 ≡ 3 + k → (b : Bool) → is_a_token l ≡ b → elems i (take (suc (suc (suc k))) l) ≡ by_itself (elems i l)
itself_words i [] h k z b t = absurd (omega arith)
itself_words i (x ∷ []) h k z b t = absurd (omega arith)
itself_words i (x ∷ (y ∷ [])) h k z b t = absurd (omega arith)
itself_words i (x ∷ (y ∷ (w ∷ m))) h k z true t = itself_token i k x y w m t (omega (arith, length-take k m, span-token (x ∷ (y ∷ (w ∷ m))) t))
itself_words i (x ∷ (y ∷ (w ∷ m))) h k z false t = itself_node i k x y w m t z

alone : (i : ℕ) (l : List ℕ) → 3 ≤ length l → length (rest_words l) < 3 → (b : Bool) → is_a_token l ≡ b → elems i l ≡ by_itself (elems i l)
alone i l h k true t = rw (elems-token i l h t, elems_end (i + 1) (rest_words l) k)
alone i l h k false t = rw (elems_node i l h t, elems_end (i + span l) (rest_words l) k)

module _ (i : ℕ) (l : List ℕ) where
  itself_inside : 3 ≤ length l → span l * 3 ≤ length l → elems i (take (end_of_first l) l) ≡ by_itself (elems i l)
  itself_inside h k =
      let e : end_of_first l ≡ suc (suc (suc (span l * 3 - 3))) = min-eq_left k ∙ omega (arith, span_pos l) in
      rw e (itself_words i l h (span l * 3 - 3) (omega (arith, span_pos l)) (is_a_token l) refl)

  itself_outside : 3 ≤ length l → length l < span l * 3 → elems i (take (end_of_first l) l) ≡ by_itself (elems i l)
  itself_outside h k =
      let e : end_of_first l ≡ length l = min-eq_right (omega arith) in
      rw (e, take_all (length l) l (omega arith)) (alone i l h (omega (arith, length_rest l)) (is_a_token l) refl)

  itself_none : length l < 3 → elems i (take (end_of_first l) l) ≡ by_itself (elems i l)
  itself_none h = rw (elems_end i l h, elems_end i (take (end_of_first l) l) (omega (arith, length-take (end_of_first l) l)))

  pub itself_end : elems i (take (end_of_first l) l) ≡ by_itself (elems i l)
  itself_end = low_or (length l) 3 itself_none (λ h. low_or (length l) (span l * 3) (itself_outside h) (itself_inside h))

-- ---- how many elements words have

size_step : (n : ℕ) → ((j : ℕ) (k : List ℕ) → length k ≤ n → size (elems j k) ≡ length k / 3) → (i : ℕ) (l : List ℕ) → length l ≤ suc n
    → (s : Bool) → ltb (length l) 3 ≡ s → (t : Bool) → is_a_token l ≡ t → size (elems i l) ≡ length l / 3
unfolding size
size_step n more i l h true s t e = rw (elems_end i l (ltb-true _ _ s)) (omega (arith, ltb-true (length l) 3 s))
size_step n more i l h false s true e =
    let three = ltb-false (length l) 3 s in
    let r = more (i + 1) (rest_words l) (omega (arith, rest_shorter l (omega arith))) in
    rw (elems-token i l three e, r) (omega (arith, length_rest l, span-token l e))
size_step n more i l h false s false e =
    let three = ltb-false (length l) 3 s in
    let c = more (i + 1) (child_words l) (omega (arith, children_shorter l (omega arith))) in
    let r = more (i + span l) (rest_words l) (omega (arith, rest_shorter l (omega arith))) in
    let lc = length-take (span l * 3 - 3) (drop 3 l) in
    rw (elems_node i l three e, c, r) (omega (arith, length_rest l, lc, length-drop 3 l, span_pos l))

size_for : (n i : ℕ) (l : List ℕ) → length l ≤ n → size (elems i l) ≡ length l / 3
unfolding size
size_for zero i l h = rw (elems_end i l (omega arith)) (omega arith)
size_for (suc n) i l h = size_step n (λ j k. size_for n j k) i l h (ltb (length l) 3) refl (is_a_token l) refl

pub size_is : (i : ℕ) (l : List ℕ) → size (elems i l) ≡ length l / 3
size_is i l = size_for (length l) i l (omega arith)

pub width_is : (i : ℕ) (l : List ℕ) → end_of_first l / 3 ≡ size (by_itself (elems i l))
width_is i l =
    let t = length-take (end_of_first l) l in
    omega (arith, ap size (itself_end i l), size_is i (take (end_of_first l) l))

-- ---- the element of a number

module _ (l : List ℕ) (n : ℕ) (w : WellFormed l) where
  at_near : n < size (tree l) → by_itself (elems n (drop (n * 3) l)) ≡ by_itself (element_at n (tree l))
  at_near h =
      let p = drop (n * 3) l in
      sym (itself_end n p) ∙ ap (elems n) (cut p) ∙ itself_at l n w
    where
      cut : (p : List ℕ) → take (end_of_first p) p ≡ take (span p * 3) p
      cut p = low_or (length p) (span p * 3)
          (λ k. let e : end_of_first p ≡ length p = min-eq_right (omega arith) in rw (e, take_all (length p) p (omega arith), take_all (span p * 3) p (omega arith)))
          (λ k. let e : end_of_first p ≡ span p * 3 = min-eq_left k in rw e)

  at_far : (m : ℕ) → size (tree l) ≤ n → length l ≤ m * 3 → by_itself (elems m (drop (m * 3) l)) ≡ by_itself (element_at n (tree l))
  at_far m h k = rw (tree-none l n w h, elems_end m (drop (m * 3) l) (omega (arith, length-drop (m * 3) l)))

  -- m is the number, or how many there are where these are fewer
  pub at_is : (m k : ℕ) → k * 3 ≡ length l → m ≡ min n k → by_itself (elems m (drop (m * 3) l)) ≡ by_itself (element_at n (tree l))
  at_is m k e q =
      let ts = tree-size l w in
      low_or n k
      (λ h. let z : m ≡ n = q ∙ min-eq_left (omega arith) in rw z (at_near (omega arith)))
      (λ h. let z : m ≡ k = q ∙ min-eq_right (omega arith) in at_far m (omega arith) (omega arith))

-- a number is that of a token below the element of another, or not
module _ (l : List ℕ) (n m : ℕ) (h : is_well_formed l ≡ true) where
  pub token_below : (i : ℕ) → is_a_node (drop (n * 3) l) ≡ true → n < m → m < n + size_of (drop (n * 3) l)
      → token_in 1 1023 (elems i (drop (m * 3) l)) ≡ token_in 1 1023 (element_at m (children (element_at n (tree l))))
  token_below i a b c =
      let p = drop (m * 3) l in
      sym (token_is i p 1 1023) ∙ token_is 0 p 1 1023 ∙ sym (token-within n m l (formed_is l h) a b c)

  pub below_no_node : is_a_node (drop (n * 3) l) ≡ false → false ≡ token_in 1 1023 (element_at m (children (element_at n (tree l))))
  below_no_node a = sym (token_not_within n m l (formed_is l h) (rw a))

  pub not_below : (ltb n m && ltb m (n + size_of (drop (n * 3) l))) ≡ false → false ≡ token_in 1 1023 (element_at m (children (element_at n (tree l))))
  not_below a =
      let p = drop (n * 3) l in
      sym (token_not_within n m l (formed_is l h) (and_assoc (is_a_node p) (ltb n m) (ltb m (n + size_of p)) ∙ rw a (and-false (is_a_node p))))
