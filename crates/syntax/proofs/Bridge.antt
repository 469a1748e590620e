-- The bridge from words to the tree: words are those of a well-formed tree exactly if every element is good by itself and its children
-- stand in a row.
-- Assumes nothing.
use mathlib.Core.Path.{◌≡◌, refl, sym, ap, subst, ◌∙◌}
use mathlib.Core.Bool.{Bool, true, false, cond, ◌&&◌, false≢true}
use mathlib.Core.List.{List, [], ◌∷◌, ◌++◌, append_assoc}
use Prim.Native.Nat.{ℕ, zero, suc, ◌+◌, ◌-◌, ◌*◌, ◌/◌, ◌%◌, ◌≤◌, ◌<◌}
use native.Mathlib.Omega.{arith}
use lib.ListN.{length, drop, length-append, length-take, take-append-drop}
use lib.Seq.{take-append-le}
use lib.Dec.{eqb, leb, ltb}
use borrow.Author.Tests.{eqb-true, leb-true, eq-eqb}
use Rattle.words.proofs.TestLaws.{and_both, and_of}
use Rattle.words.specs.Fields.{word_of, kind_at, is_a_node, is_a_token, syntax_kind, size_of, start_of, end_of}
use Rattle.syntax.specs.Parts.{span, child_words, rest_words}
use Rattle.syntax.specs.Trees.{Elems, none, token, node, size, Numbered, words, element_word, elems, is_token_kind, is_node_kind, tiles, formed}
use Rattle.syntax.specs.Rows.{in_row, is_ranged, is_node_head, is_element, every}
use Rattle.syntax.proofs.PartLaws.{span_pos, span-token, span_node, rest_shorter, children_shorter}
use Rattle.syntax.proofs.TreeLaws.{elems_end, elems-token, elems_node}
use Rattle.syntax.proofs.RowLaws.{row_end, row_next, every-next, element-token, element_node}

-- a test, and what holds then
taken : (a b : Bool) → cond a b false ≡ true → (a ≡ true) × (b ≡ true)
taken true b h = (refl, h)
taken false b h = absurd (false≢true h)

pub length-words : (c : Elems) → length (words c) ≡ size c * 3
unfolding words size
length-words none = refl
length-words (token i k s e r) = let h = length-words r in omega arith
length-words (node i k s e cs r) =
    let h = length-words cs in
    let h' = length-words r in
    let a = length-append (words cs) (words r) in
    omega arith

-- the siblings that words in a row are
pub record Built (i from to : ℕ) (l : List ℕ) : Type 0 where
  pub are : words (elems i l) ≡ l
  pub inside : tiles from to (elems i l) ≡ true
  pub good : formed tiles (elems i l) ≡ true
  pub numbered : Numbered i (elems i l)

-- behind whole elements the others are good too
every_drop : (k : ℕ) (a b : List ℕ) → length a ≡ k * 3 → every (a ++ b) ≡ true → every b ≡ true
every_drop zero [] b h e = e
every_drop zero (x ∷ a) b h e = absurd (omega arith)
every_drop (suc k) [] b h e = absurd (omega arith)
every_drop (suc k) (x ∷ []) b h e = absurd (omega arith)
every_drop (suc k) (x ∷ (y ∷ [])) b h e = absurd (omega arith)
every_drop (suc k) (x ∷ (y ∷ (z ∷ a))) b h e = every_drop k a b (omega arith) (and_both (is_element (x ∷ y ∷ z ∷ a ++ b)) (every (a ++ b)) (sym (every-next (x ∷ y ∷ z ∷ a ++ b) (omega arith)) ∙ e)).1

-- what a good element's words say
ranged : (l : List ℕ) → is_element l ≡ true → is_ranged l ≡ true
unfolding is_element
ranged l h = (and_both (is_ranged l) _ h).0

record TokenSays (l : List ℕ) : Type 0 where
  starts : kind_at l 1 ≡ 3
  ends : kind_at l 2 ≡ 4
  one : size_of l ≡ 1
  kind : is_token_kind (syntax_kind l) ≡ true
  full : ltb (start_of l) (end_of l) ≡ true

token_says : (l : List ℕ) → is_element l ≡ true → is_a_token l ≡ true → TokenSays l
token_says l h t =
    let g = and_both (eqb (kind_at l 1) 3) (eqb (kind_at l 2) 4) (ranged l h) in
    let a = and_both (eqb (size_of l) 1 && is_token_kind (syntax_kind l)) (ltb (start_of l) (end_of l)) (sym (element-token l (ranged l h) t) ∙ h) in
    let b = and_both (eqb (size_of l) 1) (is_token_kind (syntax_kind l)) a.0 in
    record { starts = eqb-true _ _ g.0; ends = eqb-true _ _ g.1; one = eqb-true _ _ b.0; kind = b.1; full = a.1 }

record NodeSays (l : List ℕ) : Type 0 where
  starts : kind_at l 1 ≡ 3
  ends : kind_at l 2 ≡ 4
  is : is_a_node l ≡ true
  sized : 1 ≤ size_of l
  kind : is_node_kind (syntax_kind l) ≡ true
  order : leb (start_of l) (end_of l) ≡ true
  row : in_row (child_words l) (start_of l) (end_of l) ≡ true

node_says : (l : List ℕ) → is_element l ≡ true → is_a_token l ≡ false → NodeSays l
node_says l h t =
    let g = and_both (eqb (kind_at l 1) 3) (eqb (kind_at l 2) 4) (ranged l h) in
    let a = and_both (is_node_head l) (in_row (child_words l) (start_of l) (end_of l)) (sym (element_node l (ranged l h) t) ∙ h) in
    let b = and_both (is_a_node l && leb 1 (size_of l) && is_node_kind (syntax_kind l)) (leb (start_of l) (end_of l)) a.0 in
    let d = and_both (is_a_node l && leb 1 (size_of l)) (is_node_kind (syntax_kind l)) b.0 in
    let e = and_both (is_a_node l) (leb 1 (size_of l)) d.0 in
    record { starts = eqb-true _ _ g.0; ends = eqb-true _ _ g.1; is = e.0; sized = leb-true _ _ e.1; kind = d.1; order = b.1; row = a.1 }

-- what a row's first element says
record First (l more : List ℕ) (from to : ℕ) : Type 0 where
  fits : span l * 3 ≤ length l
  start : start_of l ≡ from
  row : in_row (rest_words l) (end_of l) to ≡ true
  element : is_element (l ++ more) ≡ true
  others : every (drop 3 (l ++ more)) ≡ true

first : (l more : List ℕ) (from to : ℕ) → 0 < length l → in_row l from to ≡ true → every (l ++ more) ≡ true → First l more from to
first l more from to p r e =
    let t = taken _ _ (sym (row_next l from to p) ∙ r) in
    let u = and_both (leb (span l * 3) (length l)) (eqb (start_of l) from) t.0 in
    let w = and_both (is_element (l ++ more)) (every (drop 3 (l ++ more))) (sym (every-next (l ++ more) (omega (arith, length-append l more))) ∙ e) in
    record { fits = leb-true _ _ u.0; start = eqb-true _ _ u.1; row = t.1; element = w.0; others = w.1 }

-- a token's words, and a node's
token-word : (w : ℕ) → is_a_token (w ∷ []) ≡ true → size_of (w ∷ []) ≡ 1 → element_word 2 (syntax_kind (w ∷ [])) 1 ≡ w
token-word w t n = omega (arith, eqb-true (kind_at (w ∷ []) 0) 2 t)

node_word : (w n : ℕ) → is_a_node (w ∷ []) ≡ true → size_of (w ∷ []) ≡ n → element_word 1 (syntax_kind (w ∷ [])) n ≡ w
node_word w n t h = omega (arith, eqb-true (kind_at (w ∷ []) 0) 1 t)

range-word : (k w : ℕ) → w / 268435456 ≡ k → word_of k (w % 268435456) ≡ w
range-word k w h = omega arith

-- the first element and what was built of the rest
build_token : (i from to w s e : ℕ) (l more : List ℕ) → First (w ∷ s ∷ e ∷ l) more from to → is_a_token (w ∷ s ∷ e ∷ l) ≡ true
    → Built (i + 1) (end_of (w ∷ s ∷ e ∷ l)) to l → Built i from to (w ∷ s ∷ e ∷ l)
unfolding words tiles formed
build_token i from to w s e l more f t b =
    let p = w ∷ s ∷ e ∷ l in
    let k = token_says (p ++ more) f.element t in
    let q : elems i p ≡ token i (syntax_kind p) (start_of p) (end_of p) (elems (i + 1) l) = elems-token i p (omega arith) t ∙ rw (span-token p t) in
    record {
      are = rw (q, token-word w t k.one, range-word 3 s k.starts, range-word 4 e k.ends, b.are);
      inside = rw q (and_of (eq-eqb _ _ f.start) b.inside);
      good = rw q (and_of (and_of k.kind k.full) b.good);
      numbered = rw q (refl, b.numbered);
    }

-- a node's words are its own three, its children's and the rest
module _ (w s e : ℕ) (l : List ℕ) (t : is_a_token (w ∷ s ∷ e ∷ l) ≡ false) (sized : 1 ≤ size_of (w ∷ s ∷ e ∷ l)) (fits : span (w ∷ s ∷ e ∷ l) * 3 ≤ length (w ∷ s ∷ e ∷ l)) where
  rest_is : rest_words (w ∷ s ∷ e ∷ l) ≡ drop (span (w ∷ s ∷ e ∷ l) * 3 - 3) l
  rest_is =
      let p = w ∷ s ∷ e ∷ l in
      let n : span p * 3 ≡ suc (suc (suc (span p * 3 - 3))) = omega (arith, span_node p t sized) in
      ap (λ (x : ℕ). drop x p) n

  parts_are : child_words (w ∷ s ∷ e ∷ l) ++ rest_words (w ∷ s ∷ e ∷ l) ≡ l
  parts_are = rw rest_is (take-append-drop (span (w ∷ s ∷ e ∷ l) * 3 - 3) l)

  children-length : length (child_words (w ∷ s ∷ e ∷ l)) ≡ (size_of (w ∷ s ∷ e ∷ l) - 1) * 3
  children-length = simp length-take (omega (arith, span_node (w ∷ s ∷ e ∷ l) t sized))

  children-more : (more : List ℕ) → child_words (w ∷ s ∷ e ∷ l ++ more) ≡ child_words (w ∷ s ∷ e ∷ l)
  children-more more = take-append-le (span (w ∷ s ∷ e ∷ l) * 3 - 3) l more (omega arith)

  build_node : (i from to : ℕ) → start_of (w ∷ s ∷ e ∷ l) ≡ from → NodeSays (w ∷ s ∷ e ∷ l)
      → Built (i + 1) (start_of (w ∷ s ∷ e ∷ l)) (end_of (w ∷ s ∷ e ∷ l)) (child_words (w ∷ s ∷ e ∷ l))
      → Built (i + span (w ∷ s ∷ e ∷ l)) (end_of (w ∷ s ∷ e ∷ l)) to (rest_words (w ∷ s ∷ e ∷ l)) → Built i from to (w ∷ s ∷ e ∷ l)
  unfolding words tiles formed
  build_node i from to st k b d =
      let p = w ∷ s ∷ e ∷ l in
      let q = elems_node i p (omega arith) t in
      let cs = elems (i + 1) (child_words p) in
      let n : size_of p ≡ 1 + size cs = omega (arith, length-words cs, ap length b.are, children-length) in
      record {
        are = rw (q, node_word w (1 + size cs) k.is n, range-word 3 s k.starts, range-word 4 e k.ends, b.are, d.are, parts_are);
        inside = rw q (and_of (eq-eqb _ _ st) d.inside);
        good = rw q (and_of (and_of (and_of (and_of k.kind k.order) b.inside) b.good) d.good);
        numbered = rw q (refl, b.numbered, subst (λ (x : ℕ). Numbered (i + x) (elems (i + span p) (rest_words p))) (span_node p t sized ∙ n) d.numbered);
      }

-- what is built of shorter words
abbrev Builds : ℕ → Type 0
Builds m = (i from to : ℕ) (l more : List ℕ) → length l ≤ m → in_row l from to ≡ true → every (l ++ more) ≡ true → Built i from to l

build_first : (m : ℕ) → Builds m → (i from to w s e : ℕ) (l more : List ℕ) → length l + 3 ≤ suc m → First (w ∷ s ∷ e ∷ l) more from to
    → (b : Bool) → is_a_token (w ∷ s ∷ e ∷ l) ≡ b → Built i from to (w ∷ s ∷ e ∷ l)
build_first m builds i from to w s e l more h f true t =
    build_token i from to w s e l more f t (builds (i + 1) (end_of (w ∷ s ∷ e ∷ l)) to l more (omega arith) (rw (span-token (w ∷ s ∷ e ∷ l) t) at f.row) f.others)
build_first m builds i from to w s e l more h f false t =
    let p = w ∷ s ∷ e ∷ l in
    let k = node_says (p ++ more) f.element t in
    let row : in_row (child_words p) (start_of p) (end_of p) ≡ true = rw (children-more w s e l t k.sized f.fits more) at k.row in
    let all : every (child_words p ++ (rest_words p ++ more)) ≡ true =
    subst (λ (x : List ℕ). every x ≡ true) (sym (ap (λ (x : List ℕ). x ++ more) (parts_are w s e l t k.sized f.fits)) ∙ append_assoc (child_words p) (rest_words p) more) f.others in
    let says : NodeSays p = record { starts = k.starts; ends = k.ends; is = k.is; sized = k.sized; kind = k.kind; order = k.order; row = row } in
    let short = children_shorter p (omega arith) in
    let short' = rest_shorter p (omega arith) in
    build_node w s e l t k.sized f.fits i from to f.start says
    (builds (i + 1) (start_of p) (end_of p) (child_words p) (rest_words p ++ more) (omega arith) row all)
    (builds (i + span p) (end_of p) to (rest_words p) more (omega arith) f.row
    (every_drop (size_of p - 1) (child_words p) (rest_words p ++ more) (children-length w s e l t k.sized f.fits) all))

build_none : (i from to : ℕ) → in_row [] from to ≡ true → Built i from to []
unfolding words tiles formed
build_none i from to r =
    record { are = rw (elems_end i [] (omega arith)); inside = rw (elems_end i [] (omega arith)) (sym (row_end [] from to refl) ∙ r); good = rw (elems_end i [] (omega arith)); numbered = rw (elems_end i [] (omega arith)) tt }

pub build : (m : ℕ) → Builds m
build zero i from to [] more h r e = build_none i from to r
build zero i from to (w ∷ l) more h r e = absurd (omega arith)
build (suc m) i from to [] more h r e = build_none i from to r
build (suc m) i from to (w ∷ []) more h r e =
    let f = first (w ∷ []) more from to (omega arith) r e in
    absurd (omega (arith, f.fits, span_pos (w ∷ [])))
build (suc m) i from to (w ∷ (s ∷ [])) more h r e =
    let f = first (w ∷ s ∷ []) more from to (omega arith) r e in
    absurd (omega (arith, f.fits, span_pos (w ∷ s ∷ [])))
build (suc m) i from to (w ∷ (s ∷ (e ∷ l))) more h r g =
    build_first m (λ j f t x y. build m j f t x y) i from to w s e l more (omega arith) (first (w ∷ s ∷ e ∷ l) more from to (omega arith) r g) (is_a_token (w ∷ s ∷ e ∷ l)) refl
