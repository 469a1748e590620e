-- The element of a number by itself: as many words from three times its number on as it has with all below it.
-- Assumes nothing.
use mathlib.Core.Path.{◌≡◌, refl, sym, ap, ◌∙◌}
use mathlib.Core.Bool.{true, ◌&&◌, false≢true}
use mathlib.Core.List.{List, ◌++◌, append_assoc, append-nil}
use Prim.Native.Nat.{ℕ, ◌+◌, ◌*◌, ◌≤◌, ◌<◌}
use native.Mathlib.Omega.{arith}
use native.Mathlib.Nat.{add-zero}
use lib.ListN.{length, take, drop, length-take, length-drop}
use lib.Seq.{take_at}
use lib.Dec.{leb, ltb}
use borrow.Author.Tests.{eq-eqb}
use Rattle.words.proofs.TestLaws.{and_both, and_of, low_or}
use Rattle.syntax.specs.Parts.{span}
use Rattle.syntax.specs.Trees.{Elems, none, token, node, size, words, elems, tree, is_token_kind, is_node_kind, tiles, formed}
use Rattle.syntax.specs.Accessors.{rest, some, element_at, by_itself}
use Rattle.syntax.specs.Checks.{WellFormed}
use Rattle.syntax.proofs.PartLaws.{span-token, span_node}
use Rattle.syntax.proofs.TreeLaws.{elems_end}
use Rattle.syntax.proofs.Bridge.{length-words}
use Rattle.syntax.proofs.Words.{token_good, node_good, tiles_order}
use Rattle.syntax.proofs.Places.{Good, looks, Stands, tree-size, tree-stands, tree-none}
use Rattle.syntax.proofs.Unique.{decode-words}

-- the first of a well-formed sequence by itself is well-formed
good_itself : (n : ℕ) (c : Elems) → Good n c → Good n (by_itself c)
unfolding size tiles formed
good_itself n none g = g
good_itself n (token j k s e r) g =
    let h = token_good j k s e g.from g.to r g.inside g.good in
    let o = tiles_order r e g.to h.inside h.good in
    record { from = s; to = e; inside = and_of (eq-eqb s s refl) (eq-eqb e e refl); good = and_of (and_both (is_token_kind k && ltb s e) (formed tiles r) g.good).0 refl; small = omega (arith, g.small); few = omega arith; numbered = (g.numbered.0, tt) }
good_itself n (node j k s e cs r) g =
    let h = node_good j k s e g.from g.to cs r g.inside g.good in
    let o = tiles_order r e g.to h.inside h.good in
    record { from = s; to = e; inside = and_of (eq-eqb s s refl) (eq-eqb e e refl); good = and_of (and_both (is_node_kind k && leb s e && tiles s e cs && formed tiles cs) (formed tiles r) g.good).0 refl; small = omega (arith, g.small); few = omega (arith, g.few); numbered = (g.numbered.0, g.numbered.1, tt) }

-- a sequence's words are those of its first element by itself and of the rest
words_itself : (c : Elems) → words c ≡ words (by_itself c) ++ words (rest c)
unfolding words
words_itself none = refl
words_itself (token j k s e r) = refl
words_itself (node j k s e cs r) = rw (append-nil (words cs))

-- its words say how many elements it has
span_itself : (n : ℕ) (c : Elems) (more : List ℕ) → Good n c → some c ≡ true → span (words c ++ more) ≡ size (by_itself c)
unfolding size
span_itself n none more g t = absurd (false≢true t)
span_itself n (token j k s e r) more g t = span-token (words (token j k s e r) ++ more) (looks n (token j k s e r) more g t).0
span_itself n (node j k s e cs r) more g t =
    let h = looks n (node j k s e cs r) more g t in
    span_node (words (node j k s e cs r) ++ more) h.not (omega (arith, h.sized)) ∙ h.sized ∙ sym (add-zero (1 + size cs))

-- so many of them are its words
module _ (n : ℕ) (c : Elems) (p : List ℕ) (h : Stands n c p) where
  span_there : span p ≡ size (by_itself c)
  span_there = ap span h.are ∙ span_itself n c h.more h.good h.there

  parts_there : p ≡ words (by_itself c) ++ (words (rest c) ++ h.more)
  parts_there = h.are ∙ ap (λ (x : List ℕ). x ++ h.more) (words_itself c) ∙ append_assoc (words (by_itself c)) (words (rest c)) h.more

  itself_there : elems n (take (span p * 3) p) ≡ by_itself c
  itself_there =
      let t : take (span p * 3) p ≡ words (by_itself c) = ap (λ (x : List ℕ). take (span p * 3) x) parts_there ∙ take_at (words (by_itself c)) (words (rest c) ++ h.more) (span p * 3) (omega (arith, span_there, length-words (by_itself c))) in
      ap (elems n) t ∙ decode-words (by_itself c) n (good_itself n c h.good)

-- the element of a number by itself, and where there is none
module _ (l : List ℕ) (n : ℕ) (w : WellFormed l) where
  none-at : size (tree l) ≤ n → (p : List ℕ) → length p < 3 → elems n p ≡ by_itself (element_at n (tree l))
  none-at h p short = rw (elems_end n p short, tree-none l n w h)

  pub itself_at : elems n (take (span (drop (n * 3) l) * 3) (drop (n * 3) l)) ≡ by_itself (element_at n (tree l))
  itself_at =
      let p = drop (n * 3) l in
      low_or n (size (tree l)) (λ near. itself_there n (element_at n (tree l)) p (tree-stands l n w near))
      (λ far. none-at far (take (span p * 3) p) (simp (length-take, length-drop) (omega (arith, tree-size l w))))
