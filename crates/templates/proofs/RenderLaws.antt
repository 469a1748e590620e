-- The pieces of siblings, from their first element and from what follows it.
-- Assumes nothing.
use mathlib.Core.Path.{◌≡◌, refl, sym, ap, ◌∙◌}
use mathlib.Core.Bool.{Bool, true, false, cond, ◌&&◌, false≢true}
use mathlib.Core.List.{List, [], ◌∷◌, ◌++◌, append_assoc}
use Prim.Native.Nat.{ℕ, ◌+◌, ◌*◌, ◌≤◌, ◌<◌}
use native.Mathlib.Omega.{arith}
use lib.Dec.{eqb, leb}
use lib.ListN.{length, take, set, length-set}
use lib.Seq.{length-take-le}
use borrow.Rule.Slice.PartMut.{put_mid, post_of}
use Rattle.std.proofs.Math.Seq.{take-append-add}
use Rattle.std.proofs.lemmas.List.{take-append-le}
use borrow.Author.Tests.{eq-eqb, ne_eqb, eqb-true, le-leb, leb-true}
use Rattle.std.specs.Prelude.{Some, None}
use Rattle.words.specs.Fields.{is_a_token}
use Rattle.words.specs.Texts.{part}
use Rattle.words.proofs.TestLaws.{both_ways, and_both, and_of}
use Rattle.rust_code.specs.StandIns.{stand_in_position}
use Rattle.syntax.specs.declared.parts.Part.{Part}
use Rattle.syntax.specs.Trees.{Elems, none, token, node, size, elems, tree, tiles, formed}
use Rattle.syntax.specs.Accessors.{children, rest, range_of, some, between, node_in, find_node, by_itself}
use Rattle.syntax.specs.Siblings.{kind_of}
use Rattle.syntax.specs.Views.{elems_of, IsWithin}
use Rattle.syntax.specs.Checks.{is_well_formed}
use Rattle.syntax.proofs.FormedLaws.{formed_is}
use Rattle.syntax.proofs.Words.{token_good, node_good, tiles_order}
use Rattle.syntax.proofs.Exactly.{tree_built}
use Rattle.syntax.proofs.ViewLaws.{size_is}
use Rattle.syntax.proofs.TreeLaws.{elems-token, elems_node}
use Rattle.syntax.proofs.AccessorLaws.{some_is}
use Rattle.templates.specs.declared.Piece.{Piece}
use Rattle.templates.specs.declared.Piece.TheVariants.{Text, Path, Hole}
use Rattle.templates.specs.Pieces.{receiver_below, is_receiver, Template, token_piece, everything, first_segment, but_names, render}
use Rattle.templates.specs.Rendering.{mode_of, element_pieces, AreLow, Room}

-- ---- a token

module _ (t : Template) (rs : List ℕ) (i k s e : ℕ) where
  pub token_other : (k ≡ 1 → ⊥) → token_piece t rs i k s e ≡ Text s e
  token_other h = rw (ne_eqb k 1 h)

  pub token_name : k ≡ 1 → stand_in_position t.placeholders.text t.placeholders.vars (part t.code s e) ≡ None → token_piece t rs i k s e ≡ Text s e
  token_name h n = rw (eq-eqb k 1 h, n)

  pub token_hole : (slot : ℕ) → k ≡ 1 → stand_in_position t.placeholders.text t.placeholders.vars (part t.code s e) ≡ Some slot → token_piece t rs i k s e ≡ Hole slot (is_receiver rs i)
  token_hole slot h n = rw (eq-eqb k 1 h, n)

-- ---- the pieces of siblings

between-same : (a k : ℕ) → between a a k ≡ eqb k a
between-same a k =
    both_ways (between a a k) (eqb k a)
    (λ h. let p = and_both (leb a k) (leb k a) h in eq-eqb k a (omega (arith, leb-true a k p.0, leb-true k a p.1)))
    (λ h. let e = eqb-true k a h in and_of (le-leb a k (omega arith)) (le-leb k a (omega arith)))

-- the first element and what follows it
pub render_first : (t : Template) (b : Bool) (rs : List ℕ) (c : Elems) → some c ≡ true → render t (mode_of b) rs c ≡ element_pieces t b rs c ++ render t (mode_of b) rs (rest c)
unfolding render
render_first t b rs none h = absurd (false≢true h)
render_first t true rs (token i k s e r) h = refl
render_first t false rs (token i k s e r) h = refl
render_first t true rs (node i k s e cs r) h = refl
render_first t false rs (node i k s e cs r) h = refl

pub render_none : (t : Template) (b : Bool) (rs : List ℕ) (c : Elems) → some c ≡ false → render t (mode_of b) rs c ≡ []
unfolding render
render_none t true rs none h = refl
render_none t false rs none h = refl
render_none t b rs (token i k s e r) h = absurd (cc)
render_none t b rs (node i k s e cs r) h = absurd (cc)

-- "Emit everything except for the segment's name-ref"
render_segment : (t : Template) (rs : List ℕ) (c : Elems) → render t first_segment rs c ≡ render t but_names rs (children (find_node 3 3 c))
unfolding render find_node
render_segment t rs none = refl
render_segment t rs (token i k s e r) = render_segment t rs r
render_segment t rs (node i k s e cs r) = rw (between-same 3 k) (by (eqb k 3) (render_segment t rs r))
  where
    by : (b : Bool) → render t first_segment rs r ≡ render t but_names rs (children (find_node 3 3 r))
        → cond b (render t but_names rs cs) (render t first_segment rs r) ≡ render t but_names rs (children (cond b (node i k s e cs r) (find_node 3 3 r)))
    by true h = refl
    by false h = h

-- ---- an element

module _ (t : Template) (b : Bool) (rs : List ℕ) where
  module _ (i : ℕ) (l : List ℕ) (h : 3 ≤ length l) where
    pub token_pieces : is_a_token l ≡ true → element_pieces t b rs (elems i l) ≡ token_piece t rs i (kind_of (elems i l)) (range_of (elems i l)).start (range_of (elems i l)).end ∷ []
    token_pieces k = rw (elems-token i l h k)

    -- another node: as a path, or by its children
    module _ (k : is_a_token l ≡ false) (n : (b && node_in 4 4 (elems i l)) ≡ false) where
      named : (c : Elems) (j kind s e : ℕ) (cs r : Elems) → c ≡ node j kind s e cs r → (b && node_in 4 4 c) ≡ false → (b && eqb kind 4) ≡ false
      named c j kind s e cs r q n = ap (λ (x : Bool). b && x) (sym (between-same 4 kind)) ∙ (rw q at n)

      pub path_pieces : t.rendered i ≡ true
          → element_pieces t b rs (elems i l) ≡ Path i ∷ render t but_names (receiver_below (kind_of (elems i l)) (children (elems i l)) rs) (children (find_node 3 3 (children (elems i l))))
      path_pieces p =
          let q = elems_node i l h k in
          let m = named (elems i l) _ _ _ _ _ _ q n in
          rw (q, m, p, render_segment t _ _)

      pub node_pieces : t.rendered i ≡ false → element_pieces t b rs (elems i l) ≡ render t everything (receiver_below (kind_of (elems i l)) (children (elems i l)) rs) (children (elems i l))
      node_pieces p =
          let q = elems_node i l h k in
          let m = named (elems i l) _ _ _ _ _ _ q n in
          rw (q, m, p)

-- ---- laying

pub first_laid : (p : Piece) (out : List Piece) → 0 < length out → take 1 (set out 0 p) ≡ p ∷ []
first_laid p [] h = absurd (omega arith)
first_laid p (x ∷ out) h = refl

-- pieces laid behind others
pub laid_behind : (a k m : ℕ) (xs ys : List Piece) → a ≤ length xs → m ≤ length ys → take (a + m) (put_mid a k xs ys) ≡ take a xs ++ take m ys
laid_behind a k m xs ys h l =
    ap (λ (n : ℕ). take (n + m) (put_mid a k xs ys)) (sym (length-take-le a xs h)) ∙ take-append-add (take a xs) (ys ++ post_of a k xs) m
    ∙ ap (λ (zs : List Piece). take a xs ++ zs) (take-append-le m ys (post_of a k xs) l)

-- behind the piece of a path
pub laid_path : (p : Piece) (k r : ℕ) (out new ps : List Piece) → 0 < length out → r ≤ length new → take r new ≡ ps → take (1 + r) (put_mid 1 k (set out 0 p) new) ≡ p ∷ ps
laid_path p k r out new ps h l e =
    laid_behind 1 k r (set out 0 p) new (omega (arith, length-set out 0 p)) l ∙ rw (first_laid p out h, e)

-- one more of siblings
pub next_laid : (t : Template) (b : Bool) (rs : List ℕ) (old next : Elems) (ps more whole : List Piece) → some old ≡ true → next ≡ rest old
    → more ≡ ps ++ element_pieces t b rs old → ps ++ render t (mode_of b) rs old ≡ whole → more ++ render t (mode_of b) rs next ≡ whole
next_laid t b rs old next ps more whole s n m w =
    rw (m, n) (append_assoc ps (element_pieces t b rs old) (render t (mode_of b) rs (rest old))) ∙ ap (λ (qs : List Piece). ps ++ qs) (sym (render_first t b rs old s)) ∙ w

-- ---- sizes and ranges

pub size_whole : (c : Elems) → size c ≡ size (by_itself c) + size (rest c)
unfolding size
size_whole none = refl
size_whole (token i k s e r) = omega arith
size_whole (node i k s e cs r) = omega arith

pub size_below : (c : Elems) → some c ≡ true → size (children c) + 1 ≤ size (by_itself c)
unfolding size
size_below none h = absurd (false≢true h)
size_below (token i k s e r) h = omega arith
size_below (node i k s e cs r) h = omega arith

pub size_found : (low high : ℕ) (c : Elems) → size (children (find_node low high c)) ≤ size c
unfolding size find_node
size_found low high none = omega arith
size_found low high (token i k s e r) = omega (arith, size_found low high r)
size_found low high (node i k s e cs r) = by (between low high k) (size_found low high r)
  where
    by : (b : Bool) → size (children (find_node low high r)) ≤ size r → size (children (cond b (node i k s e cs r) (find_node low high r))) ≤ size (node i k s e cs r)
    by true h = omega arith
    by false h = omega (arith, h)

pub low_children : (c : Elems) → AreLow c → AreLow (children c)
low_children none h = tt
low_children (token i k s e r) h = tt
low_children (node i k s e cs r) h = h.2

pub low_rest : (c : Elems) → AreLow c → AreLow (rest c)
low_rest none h = tt
low_rest (token i k s e r) h = h.2
low_rest (node i k s e cs r) h = h.3

pub low_found : (low high : ℕ) (c : Elems) → AreLow c → AreLow (find_node low high c)
unfolding find_node
low_found low high none h = tt
low_found low high (token i k s e r) h = low_found low high r h.2
low_found low high (node i k s e cs r) h = by (between low high k) (low_found low high r h.3)
  where
    by : (b : Bool) → AreLow (find_node low high r) → AreLow (cond b (node i k s e cs r) (find_node low high r))
    by true f = h
    by false f = f

pub low_range : (c : Elems) → AreLow c → ((range_of c).start ≤ 65535) × ((range_of c).end ≤ 65535)
low_range none h = (omega arith, omega arith)
low_range (token i k s e r) h = (h.0, h.1)
low_range (node i k s e cs r) h = (h.0, h.1)

are_low : (c : Elems) (from to : ℕ) → tiles from to c ≡ true → formed tiles c ≡ true → to ≤ 65535 → AreLow c
are_low none from to a b h = tt
are_low (token i k s e r) from to a b h =
    let g = token_good i k s e from to r a b in
    let o = tiles_order r e to g.inside g.good in
    (omega (arith, g.full), omega arith, are_low r e to g.inside g.good h)
are_low (node i k s e cs r) from to a b h =
    let g = node_good i k s e from to cs r a b in
    let o = tiles_order r e to g.inside g.good in
    (omega (arith, g.order), omega arith, are_low cs s e g.below g.children (omega arith), are_low r e to g.inside g.good h)

pub tree_low : (l : List ℕ) → is_well_formed l ≡ true → AreLow (tree l)
tree_low l h =
    let w = formed_is l h in
    let b = tree_built w.bytes l w.small w.few w.is in
    are_low (tree l) 0 w.bytes b.inside b.good w.small

-- ---- room

-- a part has few elements
pub few_elements : (part : Part) → part.number * 3 + length part.words.now ≤ 49149 → size (elems_of part) ≤ 16383
few_elements part h = omega (arith, size_is part.number part.words.now)

-- an element that is there is at least one
pub there : (c : Part) → 3 ≤ length c.words.now → some (elems_of c) ≡ true
there c h = some_is c.number c.words.now ∙ le-leb 3 (length c.words.now) h

pub one_there : (c : Part) → 3 ≤ length c.words.now → 1 ≤ size (by_itself (elems_of c))
one_there c h = omega (arith, size_below (elems_of c) (there c h))

module _ (c : Part) (out : List Piece) (room : Room c (size (by_itself (elems_of c))) out) (h : 3 ≤ length c.words.now) where
  -- its children
  pub room_children : (part : Part) → IsWithin part c → elems_of part ≡ children (elems_of c) → Room part (size (elems_of part)) out
  room_children part w e = record {
    few = omega (arith, w.1, room.few);
    low = rw e (low_children (elems_of c) room.low);
    within = rw e (omega (arith, size_below (elems_of c) (there c h), room.within));
  }

  -- those of a node among them, behind a piece
  pub room_found : (part found : Part) (rest : List Piece) → IsWithin part found → IsWithin found c → elems_of part ≡ children (elems_of found) → elems_of found ≡ find_node 3 3 (children (elems_of c))
      → length out ≤ length rest + 1 → Room part (size (elems_of part)) rest
  room_found part found rest v w e f l = record {
    few = omega (arith, v.1, w.1, room.few);
    low = rw (e, f) (low_children (find_node 3 3 (children (elems_of c))) (low_found 3 3 (children (elems_of c)) (low_children (elems_of c) room.low)));
    within = rw (e, f) (omega (arith, l, size_found 3 3 (children (elems_of c)), size_below (elems_of c) (there c h), room.within));
  }

-- the first of siblings, behind pieces of those before it
pub room_first : (whole first old : Part) (out rest : List Piece) (n : ℕ) → first ≡ old → IsWithin old whole → AreLow (elems_of old) → n + size (elems_of old) ≤ size (elems_of whole)
    → Room whole (size (elems_of whole)) out → length out ≤ length rest + n → Room first (size (by_itself (elems_of first))) rest
room_first whole first old out rest n e w low few room l = rw e (record {
  few = omega (arith, w.1, room.few);
  low = low;
  within = omega (arith, few, l, size_whole (elems_of old), room.within);
})

pub first_there : (first old : Part) → first ≡ old → some (elems_of old) ≡ true → 3 ≤ length first.words.now
first_there first old e s = rw e (leb-true 3 (length old.words.now) (sym (some_is old.number old.words.now) ∙ s))
