-- Words are those of a well-formed tree exactly if the first element is the root and every element is good by itself. So accepting a tree
-- says both: there is a well-formed tree whose words these are, and whatever is one is accepted.
-- Assumes nothing.
use mathlib.Core.Path.{◌≡◌, refl, sym, ap, subst, ◌∙◌}
use mathlib.Core.Bool.{true, false, ◌&&◌, false≢true}
use mathlib.Core.List.{List, [], ◌∷◌, ◌++◌, append-nil}
use Prim.Native.Nat.{ℕ, ◌+◌, ◌*◌, ◌/◌, ◌≤◌, ◌<◌}
use native.Mathlib.Omega.{arith}
use native.Mathlib.Nat.{le_refl}
use lib.ListN.{length, drop_of_length-le}
use lib.Dec.{eqb}
use borrow.Author.Tests.{eqb-true, eq-eqb, ne_eqb, le-leb}
use Rattle.words.proofs.TestLaws.{and_both, and_of, both_ways}
use Rattle.words.specs.Fields.{kind_at, is_a_node, is_a_token, syntax_kind, size_of, start_of, end_of}
use Rattle.words.specs.Texts.{same_text}
use Rattle.words.proofs.TextLaws.{same_equal, equal_same}
use Rattle.syntax.specs.Parts.{span, child_words, rest_words}
use Rattle.syntax.specs.Trees.{Elems, none, token, node, size, words, element_word, elems, tree, tiles, formed, covers, is_tree_of}
use Rattle.syntax.specs.Rows.{in_row, every, is_root}
use Rattle.syntax.proofs.PartLaws.{span_node}
use Rattle.syntax.proofs.TreeLaws.{elems_end, elems_node}
use Rattle.syntax.proofs.RowLaws.{row_end, row_next, every_end}
use Rattle.syntax.proofs.Bridge.{length-words, Built, build}
use Rattle.syntax.proofs.Words.{node_good, node_is, node_size, start_is, end_is, every_of}

record RootSays (n : ℕ) (l : List ℕ) : Type 0 where
  is : is_a_node l ≡ true
  all : size_of l * 3 ≡ length l
  start : start_of l ≡ 0
  end : end_of l ≡ n

root_says : (n : ℕ) (l : List ℕ) → is_root n l ≡ true → RootSays n l
unfolding is_root
root_says n l h =
    let a = and_both (is_a_node l && eqb (size_of l * 3) (length l) && eqb (start_of l) 0) (eqb (end_of l) n) h in
    let b = and_both (is_a_node l && eqb (size_of l * 3) (length l)) (eqb (start_of l) 0) a.0 in
    let d = and_both (is_a_node l) (eqb (size_of l * 3) (length l)) b.0 in
    record { is = d.0; all = eqb-true _ _ d.1; start = eqb-true _ _ b.1; end = eqb-true _ _ a.1 }

node_there : (l : List ℕ) → is_a_node l ≡ true → 0 < length l
node_there [] h = absurd (false≢true h)
node_there (w ∷ l) h = omega arith

no_token : (l : List ℕ) → is_a_node l ≡ true → is_a_token l ≡ false
no_token l h = let q : kind_at l 0 ≡ 1 = eqb-true _ _ h in ne_eqb (kind_at l 0) 2 (λ z. omega (arith, q))

root_built : (n : ℕ) (l : List ℕ) → is_root n l ≡ true → every l ≡ true → Built 0 0 n l
root_built n l h e =
    let r = root_says n l h in
    let sp : span l ≡ size_of l = span_node l (no_token l r.is) (omega (arith, r.all, node_there l r.is)) in
    let dr : rest_words l ≡ [] = drop_of_length-le l {i = span l * 3} (omega (arith, r.all)) in
    let row : in_row l 0 n ≡ true =
    row_next l 0 n (node_there l r.is) ∙ rw (le-leb (span l * 3) (length l) (omega (arith, r.all)), eq-eqb _ _ r.start, dr) (row_end [] (end_of l) n refl ∙ eq-eqb _ _ r.end) in
    build (length l) 0 0 n l [] (le_refl (length l)) row (rw (append-nil l) e)

sound : (n : ℕ) (l : List ℕ) → is_root n l ≡ true → every l ≡ true → is_tree_of tiles n l ≡ true
unfolding is_tree_of
sound n l h e =
    let r = root_says n l h in
    let p = node_there l r.is in
    let t = no_token l r.is in
    let sp : span l ≡ size_of l = span_node l t (omega (arith, r.all)) in
    let b = root_built n l h e in
    let dr : rest_words l ≡ [] = drop_of_length-le l {i = span l * 3} (omega (arith, r.all)) in
    let q : tree l ≡ node 0 (syntax_kind l) (start_of l) (end_of l) (elems (0 + 1) (child_words l)) none =
    elems_node 0 l (omega (arith, r.all)) t ∙ rw (dr, elems_end (0 + span l) [] (omega arith)) in
    let same : same_text (words (tree l)) l ≡ true = rw b.are (equal_same l) in
    let cov : covers n (tree l) ≡ true = rw q (and_of (eq-eqb _ _ r.start) (eq-eqb _ _ r.end)) in
    and_of (and_of same cov) b.good

pub complete_of : (n : ℕ) (c : Elems) → n ≤ 65535 → size c ≤ 16383 → covers n c ≡ true → formed tiles c ≡ true → (is_root n (words c) && every (words c)) ≡ true
unfolding is_root words tiles size
complete_of n none small few v g = absurd (false≢true v)
complete_of n (token i k s e r) small few v g = absurd (false≢true v)
complete_of n (node i k s e cs (token j k' s' e' r)) small few v g = absurd (false≢true v)
complete_of n (node i k s e cs (node j k' s' e' cs' r)) small few v g = absurd (false≢true v)
complete_of n (node i k s e cs none) small few v g =
    let u = and_both (eqb s 0) (eqb e n) v in
    let s0 : s ≡ 0 = eqb-true _ _ u.0 in
    let en : e ≡ n = eqb-true _ _ u.1 in
    let c = node i k s e cs none in
    let t : tiles 0 n c ≡ true = and_of u.0 u.1 in
    let h = node_good i k s e 0 n cs none t g in
    let w = element_word 1 k (1 + size cs) in
    let l = words cs ++ [] in
    let z = node_size k (1 + size cs) s e l h.high (omega arith) in
    let lw = length-words c in
    let whole : size_of (words c) * 3 ≡ length (words c) = omega (arith, z, lw) in
    let all : every (words c ++ []) ≡ true = every_of c 0 n [] t g (omega arith) (omega arith) ∙ every_end [] refl in
    and_of (and_of (and_of (and_of (node_is k (1 + size cs) s e l h.high (omega arith)) (eq-eqb _ _ whole)) (eq-eqb _ _ (start_is w s e l (omega arith) (omega arith) ∙ s0))) (eq-eqb _ _ (end_is w s e l (omega arith) (omega arith) ∙ en))) (rw (append-nil (words c)) at all)

complete : (n : ℕ) (l : List ℕ) → n ≤ 65535 → length l / 3 ≤ 16383 → is_tree_of tiles n l ≡ true → (is_root n l && every l) ≡ true
unfolding is_tree_of
complete n l small few h =
    let a = and_both (same_text (words (tree l)) l && covers n (tree l)) (formed tiles (tree l)) h in
    let b = and_both (same_text (words (tree l)) l) (covers n (tree l)) a.0 in
    let q : words (tree l) ≡ l = same_equal _ _ b.0 in
    let lw : size (tree l) * 3 ≡ length l = sym (length-words (tree l)) ∙ ap length q in
    subst (λ (x : List ℕ). (is_root n x && every x) ≡ true) q (complete_of n (tree l) small (omega (arith, lw)) b.1 a.1)

-- THE BRIDGE
pub tree_exactly : (n : ℕ) (l : List ℕ) → n ≤ 65535 → length l / 3 ≤ 16383 → is_tree_of tiles n l ≡ (is_root n l && every l)
tree_exactly n l small few =
    both_ways (is_tree_of tiles n l) (is_root n l && every l) (complete n l small few) (λ h. let r = and_both (is_root n l) (every l) h in sound n l r.0 r.1)

-- what an accepted tree is
pub tree_built : (n : ℕ) (l : List ℕ) → n ≤ 65535 → length l / 3 ≤ 16383 → is_tree_of tiles n l ≡ true → Built 0 0 n l
tree_built n l small few h = let r = and_both (is_root n l) (every l) (complete n l small few h) in root_built n l r.0 r.1
