-- The other way: the words of a well-formed tree stand in rows.
-- Assumes nothing.
use mathlib.Core.Path.{◌≡◌, refl, ap, ◌∙◌}
use mathlib.Core.Bool.{true, false, ◌&&◌}
use mathlib.Core.List.{List, [], ◌∷◌, ◌++◌, append_assoc}
use Prim.Native.Nat.{ℕ, ◌+◌, ◌-◌, ◌*◌, ◌/◌, ◌≤◌, ◌<◌}
use native.Mathlib.Omega.{arith}
use lib.ListN.{length, take, length-append}
use lib.Seq.{take_at, drop_at}
use lib.Dec.{eqb, leb, ltb}
use borrow.Author.Tests.{eqb-true, leb-true, ltb-true, eq-eqb, ne_eqb, le-leb, lt-ltb}
use Rattle.words.proofs.TestLaws.{and_both, and_of}
use Rattle.words.specs.Fields.{word_of, is_a_node, is_a_token, syntax_kind, size_of, start_of, end_of}
use Rattle.syntax.specs.Parts.{span, child_words, rest_words}
use Rattle.syntax.specs.Trees.{Elems, none, token, node, size, words, element_word, is_token_kind, is_node_kind, tiles, formed}
use Rattle.syntax.specs.Rows.{in_row, is_ranged, is_element, every}
use Rattle.syntax.proofs.PartLaws.{span-token, span_node}
use Rattle.syntax.proofs.RowLaws.{row_end, row_next, every-next, element-token, element_node}
use Rattle.syntax.proofs.Bridge.{length-words}

-- what well-formedness says of a first element
pub record TokenGood (k s e from to : ℕ) (r : Elems) : Type 0 where
  pub low : 1 ≤ k
  pub high : k ≤ 1023
  pub full : s < e
  pub start : s ≡ from
  pub inside : tiles e to r ≡ true
  pub good : formed tiles r ≡ true

pub token_good : (i k s e from to : ℕ) (r : Elems) → tiles from to (token i k s e r) ≡ true → formed tiles (token i k s e r) ≡ true → TokenGood k s e from to r
unfolding tiles formed
token_good i k s e from to r t g =
    let a = and_both (eqb s from) (tiles e to r) t in
    let b = and_both (is_token_kind k && ltb s e) (formed tiles r) g in
    let d = and_both (is_token_kind k) (ltb s e) b.0 in
    let f = and_both (leb 1 k) (leb k 1023) d.0 in
    record { low = leb-true _ _ f.0; high = leb-true _ _ f.1; full = ltb-true _ _ d.1; start = eqb-true _ _ a.0; inside = a.1; good = b.1 }

pub record NodeGood (k s e from to : ℕ) (cs r : Elems) : Type 0 where
  pub low : 1 ≤ k
  pub high : k ≤ 4095
  pub order : s ≤ e
  pub start : s ≡ from
  pub below : tiles s e cs ≡ true
  pub inside : tiles e to r ≡ true
  pub children : formed tiles cs ≡ true
  pub good : formed tiles r ≡ true

pub node_good : (i k s e from to : ℕ) (cs r : Elems) → tiles from to (node i k s e cs r) ≡ true → formed tiles (node i k s e cs r) ≡ true → NodeGood k s e from to cs r
unfolding tiles formed
node_good i k s e from to cs r t g =
    let a = and_both (eqb s from) (tiles e to r) t in
    let b = and_both (is_node_kind k && leb s e && tiles s e cs && formed tiles cs) (formed tiles r) g in
    let d = and_both (is_node_kind k && leb s e && tiles s e cs) (formed tiles cs) b.0 in
    let f = and_both (is_node_kind k && leb s e) (tiles s e cs) d.0 in
    let h = and_both (is_node_kind k) (leb s e) f.0 in
    let j = and_both (leb 1 k) (leb k 4095) h.0 in
    record { low = leb-true _ _ j.0; high = leb-true _ _ j.1; order = leb-true _ _ h.1; start = eqb-true _ _ a.0; below = f.1; inside = a.1; children = d.1; good = b.1 }

-- siblings that tile a range end no earlier than they start
pub tiles_order : (c : Elems) (from to : ℕ) → tiles from to c ≡ true → formed tiles c ≡ true → from ≤ to
unfolding tiles
tiles_order none from to t g = let e : from ≡ to = eqb-true _ _ t in omega arith
tiles_order (token i k s e r) from to t g =
    let h = token_good i k s e from to r t g in
    let o = tiles_order r e to h.inside h.good in
    omega (arith, h.full, h.start)
tiles_order (node i k s e cs r) from to t g =
    let h = node_good i k s e from to cs r t g in
    let o = tiles_order r e to h.inside h.good in
    omega (arith, h.order, h.start)

-- the fields of the words of a token, and of a node
module _ (k s e : ℕ) (l : List ℕ) (kh : k ≤ 1023) (se : s < e) (eh : e < 268435456) where
  pub token_is : is_a_token (element_word 2 k 1 ∷ word_of 3 s ∷ word_of 4 e ∷ l) ≡ true
  token_is = let q : element_word 2 k 1 / 268435456 ≡ 2 = omega arith in eq-eqb _ _ q

  pub token_not : is_a_node (element_word 2 k 1 ∷ word_of 3 s ∷ word_of 4 e ∷ l) ≡ false
  token_not = let q : element_word 2 k 1 / 268435456 ≡ 2 = omega arith in ne_eqb (element_word 2 k 1 / 268435456) 1 (λ z. omega (arith, q))

  pub token-kind : syntax_kind (element_word 2 k 1 ∷ word_of 3 s ∷ word_of 4 e ∷ l) ≡ k
  token-kind = omega arith

  token-size : size_of (element_word 2 k 1 ∷ word_of 3 s ∷ word_of 4 e ∷ l) ≡ 1
  token-size = omega arith

module _ (h s e : ℕ) (l : List ℕ) (sh : s < 268435456) (eh : e < 268435456) where
  pub start_is : start_of (h ∷ word_of 3 s ∷ word_of 4 e ∷ l) ≡ s
  start_is = omega arith

  pub end_is : end_of (h ∷ word_of 3 s ∷ word_of 4 e ∷ l) ≡ e
  end_is = omega arith

  ranged_is : is_ranged (h ∷ word_of 3 s ∷ word_of 4 e ∷ l) ≡ true
  ranged_is =
      let a : word_of 3 s / 268435456 ≡ 3 = omega arith in
      let b : word_of 4 e / 268435456 ≡ 4 = omega arith in
      and_of (eq-eqb _ _ a) (eq-eqb _ _ b)

module _ (k n s e : ℕ) (l : List ℕ) (kh : k ≤ 4095) (nh : n < 65536) where
  pub node_not : is_a_token (element_word 1 k n ∷ word_of 3 s ∷ word_of 4 e ∷ l) ≡ false
  node_not = let q : element_word 1 k n / 268435456 ≡ 1 = omega arith in ne_eqb (element_word 1 k n / 268435456) 2 (λ z. omega (arith, q))

  pub node_is : is_a_node (element_word 1 k n ∷ word_of 3 s ∷ word_of 4 e ∷ l) ≡ true
  node_is = let q : element_word 1 k n / 268435456 ≡ 1 = omega arith in eq-eqb _ _ q

  pub node_kind : syntax_kind (element_word 1 k n ∷ word_of 3 s ∷ word_of 4 e ∷ l) ≡ k
  node_kind = omega arith

  pub node_size : size_of (element_word 1 k n ∷ word_of 3 s ∷ word_of 4 e ∷ l) ≡ n
  node_size = omega arith

-- the words of siblings in a row
pub row_of : (c : Elems) (from to : ℕ) → tiles from to c ≡ true → formed tiles c ≡ true → to < 268435456 → size c < 65536 → in_row (words c) from to ≡ true
unfolding words size tiles
row_of none from to t g small few = row_end [] from to refl ∙ t
row_of (token i k s e r) from to t g small few =
    let h = token_good i k s e from to r t g in
    let o = tiles_order r e to h.inside h.good in
    let p = element_word 2 k 1 ∷ word_of 3 s ∷ word_of 4 e ∷ words r in
    let is = token_is k s e (words r) h.high h.full (omega arith) in
    let st = start_is (element_word 2 k 1) s e (words r) (omega (arith, h.full)) (omega arith) in
    let en = end_is (element_word 2 k 1) s e (words r) (omega (arith, h.full)) (omega arith) in
    row_next p from to (omega arith) ∙ rw (span-token p is, en, le-leb 3 (length p) (omega arith), eq-eqb _ _ (st ∙ h.start)) (row_of r e to h.inside h.good small (omega arith))
row_of (node i k s e cs r) from to t g small few =
    let h = node_good i k s e from to cs r t g in
    let o = tiles_order r e to h.inside h.good in
    let w = element_word 1 k (1 + size cs) in
    let p = w ∷ word_of 3 s ∷ word_of 4 e ∷ words cs ++ words r in
    let no = node_not k (1 + size cs) s e (words cs ++ words r) h.high (omega arith) in
    let sz = node_size k (1 + size cs) s e (words cs ++ words r) h.high (omega arith) in
    let st = start_is w s e (words cs ++ words r) (omega (arith, h.order)) (omega arith) in
    let en = end_is w s e (words cs ++ words r) (omega (arith, h.order)) (omega arith) in
    let sp : span p ≡ 1 + size cs = span_node p no (omega arith) ∙ sz in
    let lc = length-words cs in
    let la = length-append (words cs) (words r) in
    let dr : rest_words p ≡ words r = drop_at (w ∷ word_of 3 s ∷ word_of 4 e ∷ words cs) (words r) (span p * 3) (omega arith) in
    row_next p from to (omega arith) ∙ rw (dr, en, le-leb (span p * 3) (length p) (omega arith), eq-eqb _ _ (st ∙ h.start)) (row_of r e to h.inside h.good small (omega arith))

-- and each of them good
pub every_of : (c : Elems) (from to : ℕ) (more : List ℕ) → tiles from to c ≡ true → formed tiles c ≡ true → to < 268435456 → size c < 65536
    → every (words c ++ more) ≡ every more
unfolding words size
every_of none from to more t g small few = refl
every_of (token i k s e r) from to more t g small few =
    let h = token_good i k s e from to r t g in
    let o = tiles_order r e to h.inside h.good in
    let p = element_word 2 k 1 ∷ word_of 3 s ∷ word_of 4 e ∷ words r ++ more in
    let is = token_is k s e (words r ++ more) h.high h.full (omega arith) in
    let kd = token-kind k s e (words r ++ more) h.high h.full (omega arith) in
    let sz = token-size k s e (words r ++ more) h.high h.full (omega arith) in
    let st = start_is (element_word 2 k 1) s e (words r ++ more) (omega (arith, h.full)) (omega arith) in
    let en = end_is (element_word 2 k 1) s e (words r ++ more) (omega (arith, h.full)) (omega arith) in
    let rg = ranged_is (element_word 2 k 1) s e (words r ++ more) (omega (arith, h.full)) (omega arith) in
    let el : is_element p ≡ true = element-token p rg is ∙ rw (sz, kd, st, en, le-leb 1 k h.low, le-leb k 1023 h.high, lt-ltb s e h.full) in
    every-next p (omega arith) ∙ rw el (every_of r e to more h.inside h.good small (omega arith))
every_of (node i k s e cs r) from to more t g small few =
    let h = node_good i k s e from to cs r t g in
    let o = tiles_order r e to h.inside h.good in
    let w = element_word 1 k (1 + size cs) in
    let l = words cs ++ words r ++ more in
    let p = w ∷ word_of 3 s ∷ word_of 4 e ∷ l in
    let no = node_not k (1 + size cs) s e l h.high (omega arith) in
    let is = node_is k (1 + size cs) s e l h.high (omega arith) in
    let kd = node_kind k (1 + size cs) s e l h.high (omega arith) in
    let sz = node_size k (1 + size cs) s e l h.high (omega arith) in
    let st = start_is w s e l (omega (arith, h.order)) (omega arith) in
    let en = end_is w s e l (omega (arith, h.order)) (omega arith) in
    let rg = ranged_is w s e l (omega (arith, h.order)) (omega arith) in
    let sp : span p ≡ 1 + size cs = span_node p no (omega arith) ∙ sz in
    let lc = length-words cs in
    let asc = append_assoc (words cs) (words r) more in
    let ch : child_words p ≡ words cs = ap (λ (x : List ℕ). take (span p * 3 - 3) x) asc ∙ take_at (words cs) (words r ++ more) (span p * 3 - 3) (omega arith) in
    let ro = row_of cs s e h.below h.children (omega arith) (omega arith) in
    let el : is_element p ≡ true = element_node p rg no ∙ rw (ch, is, sz, kd, st, en, le-leb 1 (1 + size cs) (omega arith), le-leb 1 k h.low, le-leb k 4095 h.high, le-leb s e h.order) ro in
    every-next p (omega arith) ∙ rw (el, asc, every_of cs s e (words r ++ more) h.below h.children (omega arith) (omega arith)) (every_of r e to more h.inside h.good small (omega arith))
