-- The decoder gives back the tree whose words it is given, so there is one such tree; and a tree is accepted exactly if there is one.
-- Assumes nothing.
use mathlib.Core.Path.{◌≡◌, sym, ap, subst, ◌∙◌}
use mathlib.Core.Logic.{◌↔◌}
use mathlib.Core.Bool.{true, ◌&&◌, false≢true}
use mathlib.Core.List.{List, [], ◌∷◌, ◌++◌}
use Prim.Native.Nat.{ℕ, ◌+◌, ◌-◌, ◌*◌, ◌<◌}
use native.Mathlib.Omega.{arith}
use lib.ListN.{length, drop}
use lib.Seq.{take_at, drop_at}
use borrow.Author.Tests.{le-leb, leb-true}
use Rattle.errors.specs.Refusals.{ok}
use Rattle.words.proofs.TestLaws.{and_both}
use Rattle.words.specs.Fields.{word_of}
use Rattle.words.specs.Texts.{same_text}
use Rattle.words.proofs.TextLaws.{same_equal}
use Rattle.syntax.specs.Parts.{span, child_words, rest_words}
use Rattle.syntax.specs.Trees.{Elems, none, token, node, size, words, element_word, elems, tree, tiles, formed, covers, is_tree_of}
use Rattle.syntax.specs.Rows.{is_root, every}
use Rattle.syntax.specs.Checks.{tree_outcome, TreeOf}
use Rattle.syntax.proofs.PartLaws.{span-token, span_node}
use Rattle.syntax.proofs.TreeLaws.{elems_end, elems-token, elems_node}
use Rattle.syntax.proofs.Bridge.{length-words}
use Rattle.syntax.proofs.Words.{token_good, node_good, tiles_order, token_is, token-kind, node_not, node_kind, node_size, start_is, end_is}
use Rattle.syntax.proofs.Exactly.{complete_of, tree_exactly, tree_built}
use Rattle.syntax.proofs.Places.{Good, good_rest-token, good_rest_node, good_children}
use Rattle.syntax.proofs.CheckLaws.{not_large, within_limits, a_tree, passed}

-- the decoder after the encoder
pub decode-words : (c : Elems) (i : ℕ) → Good i c → elems i (words c) ≡ c
unfolding words size
decode-words none i g = elems_end i [] (omega arith)
decode-words (token j k s e r) i g =
    let h = token_good j k s e g.from g.to r g.inside g.good in
    let o = tiles_order r e g.to h.inside h.good in
    let b : e < 268435456 = omega (arith, g.small) in
    let p = element_word 2 k 1 ∷ word_of 3 s ∷ word_of 4 e ∷ words r in
    let is = token_is k s e (words r) h.high h.full b in
    let kd = token-kind k s e (words r) h.high h.full b in
    let st = start_is (element_word 2 k 1) s e (words r) (omega (arith, h.full)) b in
    let en = end_is (element_word 2 k 1) s e (words r) (omega (arith, h.full)) b in
    let dr : rest_words p ≡ words r = ap (λ (n : ℕ). drop (n * 3) p) (span-token p is) in
    elems-token i p (omega arith) is ∙ rw (dr, kd, st, en, decode-words r (i + 1) (good_rest-token i j k s e r g), g.numbered.0)
decode-words (node j k s e cs r) i g =
    let h = node_good j k s e g.from g.to cs r g.inside g.good in
    let o = tiles_order r e g.to h.inside h.good in
    let b : e < 268435456 = omega (arith, g.small) in
    let n = 1 + size cs in
    let f : n < 65536 = omega (arith, g.few) in
    let l = words cs ++ words r in
    let w = element_word 1 k n in
    let p = w ∷ word_of 3 s ∷ word_of 4 e ∷ l in
    let no = node_not k n s e l h.high f in
    let sz = node_size k n s e l h.high f in
    let kd = node_kind k n s e l h.high f in
    let st = start_is w s e l (omega (arith, h.order)) b in
    let en = end_is w s e l (omega (arith, h.order)) b in
    let sp : span p ≡ n = span_node p no (omega arith) ∙ sz in
    let lc = length-words cs in
    let ch : child_words p ≡ words cs = take_at (words cs) (words r) (span p * 3 - 3) (omega arith) in
    let dr : rest_words p ≡ words r = drop_at (w ∷ word_of 3 s ∷ word_of 4 e ∷ words cs) (words r) (span p * 3) (omega arith) in
    elems_node i p (omega arith) no ∙ rw (ch, dr, sp, kd, st, en, decode-words cs (i + 1) (good_children i j k s e cs r g), decode-words r (i + n) (good_rest_node i j k s e cs r g), g.numbered.0)

-- the tree of accepted words
one-tree : (n : ℕ) (l : List ℕ) → tree_outcome true n l ≡ ok → TreeOf n l
unfolding is_tree_of
one-tree n l h =
    let p = passed true n l h in
    let q = not_large n l p.large in
    let a = and_both (same_text (words (tree l)) l && covers n (tree l)) (formed tiles (tree l)) p.is in
    let b = and_both (same_text (words (tree l)) l) (covers n (tree l)) a.0 in
    record {
      small = q.1;
      few = q.0;
      of = tree l;
      are = same_equal _ _ b.0;
      whole = b.1;
      good = a.1;
      numbered = (tree_built n l q.1 q.0 p.is).numbered;
      shallow = leb-true _ _ p.shallow;
    }

-- a tree over the whole text tiles it
covers-tiles : (n : ℕ) (c : Elems) → covers n c ≡ true → tiles 0 n c ≡ true
unfolding tiles
covers-tiles n none h = absurd (false≢true h)
covers-tiles n (token i k s e r) h = absurd (false≢true h)
covers-tiles n (node i k s e cs none) h = h
covers-tiles n (node i k s e cs (token j k' s' e' r)) h = absurd (false≢true h)
covers-tiles n (node i k s e cs (node j k' s' e' cs' r)) h = absurd (false≢true h)

-- THE DECODER'S TREE IS THE ONE
pub the_tree : (n : ℕ) (l : List ℕ) (t : TreeOf n l) → tree l ≡ t.of
the_tree n l t =
    let lw : size t.of * 3 ≡ length l = sym (length-words t.of) ∙ ap length t.are in
    let g : Good 0 t.of = record { from = 0; to = n; inside = covers-tiles n t.of t.whole; good = t.good; small = omega (arith, t.small); few = omega (arith, t.few); numbered = t.numbered } in
    ap tree (sym t.are) ∙ decode-words t.of 0 g

accepts : (n : ℕ) (l : List ℕ) → TreeOf n l → tree_outcome true n l ≡ ok
accepts n l t =
    let lw : size t.of * 3 ≡ length l = sym (length-words t.of) ∙ ap length t.are in
    let root : (is_root n l && every l) ≡ true = subst (λ (x : List ℕ). (is_root n x && every x) ≡ true) t.are (complete_of n t.of t.small (omega (arith, t.few)) t.whole t.good) in
    a_tree n l (within_limits n l t.few t.small) (tree_exactly n l t.small t.few ∙ root) (rw (the_tree n l t) (le-leb _ _ t.shallow))

-- ACCEPTED EXACTLY IF WELL-FORMED
pub accepted_exactly : (n : ℕ) (l : List ℕ) → (tree_outcome true n l ≡ ok) ↔ TreeOf n l
accepted_exactly n l = (one-tree n l, accepts n l)
