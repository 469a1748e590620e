-- Every piece of a well-formed template lies in its text, its tree and its pattern's placeholders.
-- Assumes nothing.
use mathlib.Core.Path.{◌≡◌, refl, ap}
use mathlib.Core.Bool.{Bool, true, false, cond}
use mathlib.Core.List.{List, [], ◌∷◌, ◌++◌}
use Prim.Native.Nat.{ℕ, ◌+◌, ◌/◌, ◌≤◌, ◌<◌}
use native.Mathlib.Omega.{arith}
use lib.Dec.{eqb, ltb}
use Rattle.std.specs.Prelude.{Option, Some, None, IfSome}
use Rattle.std.specs.List.{position_or_len}
use Rattle.parsing.specs.Reading.{Var}
use Rattle.rust_code.specs.StandIns.{has_stand_in, stand_in_position}
use lib.ListN.{length}
use borrow.Author.Tests.{ltb-true}
use Rattle.words.specs.Texts.{part}
use Rattle.syntax.specs.Trees.{Elems, none, token, node, size, Numbered, tree, tiles, formed, is_tree_of}
use Rattle.syntax.proofs.Words.{token_good, node_good, tiles_order}
use Rattle.syntax.proofs.Bridge.{length-words}
use Rattle.syntax.proofs.Exactly.{tree_built}
use Rattle.paths.specs.Steps.{Side}
use Rattle.templates.specs.declared.Piece.{Piece}
use Rattle.templates.specs.declared.Piece.TheVariants.{Text, Path}
use Rattle.templates.specs.Pieces.{receiver_below, is_receiver, Template, template_of, ident_piece, token_piece, Mode, everything, first_segment, but_names, node_pieces, render, pieces, Fits, AllFit}

low_if : (b : Bool) (i n : ℕ) → (b ≡ true → i < n) → IfSome (cond b (Some i) None) (λ slot. slot < n)
low_if true i n h = h refl
low_if false i n h = tt

stand_in_within : (text : List ℕ) (vs : List Var) (x : List ℕ) → IfSome (stand_in_position text vs x) (λ slot. slot < length vs)
stand_in_within text vs x = low_if (ltb (position_or_len (has_stand_in text x) vs) (length vs)) _ (length vs) (λ t. ltb-true _ _ t)

module _ (bytes n slots : ℕ) where
  fit_append : (ps qs : List Piece) → AllFit bytes n slots ps → AllFit bytes n slots qs → AllFit bytes n slots (ps ++ qs)
  fit_append [] qs a b = b
  fit_append (p ∷ ps) qs a b = (a.0, fit_append ps qs a.1 b)

  fit_either : (b : Bool) (ps qs : List Piece) → AllFit bytes n slots ps → AllFit bytes n slots qs → AllFit bytes n slots (cond b ps qs)
  fit_either true ps qs x y = x
  fit_either false ps qs x y = y

module _ (t : Template) (bytes n : ℕ) where
  abbrev slots : ℕ
  slots = length t.placeholders.vars

  fit_ident : (name : List ℕ) (s e : ℕ) (r : Bool) → s ≤ e → e ≤ bytes → Fits bytes n slots (ident_piece (stand_in_position t.placeholders.text t.placeholders.vars name) s e r)
  fit_ident name s e r h k = by (stand_in_position t.placeholders.text t.placeholders.vars name) (stand_in_within t.placeholders.text t.placeholders.vars name)
    where
      by : (o : Option ℕ) → IfSome o (λ slot. slot < slots) → Fits bytes n slots (ident_piece o s e r)
      by None q = (h, k)
      by (Some slot) q = q

  fit_token : (rs : List ℕ) (i k s e : ℕ) → s ≤ e → e ≤ bytes → Fits bytes n slots (token_piece t rs i k s e)
  fit_token rs i k s e h l = by (eqb k 1)
    where
      by : (b : Bool) → Fits bytes n slots (cond b (ident_piece (stand_in_position t.placeholders.text t.placeholders.vars (part t.code s e)) s e (is_receiver rs i)) (Text s e))
      by true = fit_ident (part t.code s e) s e (is_receiver rs i) h l
      by false = (h, l)

  fit_node : (i : ℕ) (below : Mode → List Piece) → i < n → ((m : Mode) → AllFit bytes n slots (below m)) → AllFit bytes n slots (node_pieces t i below)
  fit_node i below h f = fit_either bytes n slots (t.rendered i) (Path i ∷ below first_segment) (below everything) (h, f first_segment) (f everything)

  render_fit : (c : Elems) (i from to : ℕ) → tiles from to c ≡ true → formed tiles c ≡ true → to ≤ bytes → Numbered i c → i + size c ≤ n
      → (m : Mode) (rs : List ℕ) → AllFit bytes n slots (render t m rs c)
  unfolding render size
  render_fit none i from to a b h u l everything rs = tt
  render_fit none i from to a b h u l first_segment rs = tt
  render_fit none i from to a b h u l but_names rs = tt
  render_fit (token j k s e r) i from to a b h u l m rs =
      let g = token_good j k s e from to r a b in
      let o = tiles_order r e to g.inside g.good in
      by m (fit_token rs j k s e (omega (arith, g.full)) (omega arith)) (render_fit r (i + 1) e to g.inside g.good h u.1 (omega arith) m rs)
    where
      by : (m : Mode) → Fits bytes n slots (token_piece t rs j k s e) → AllFit bytes n slots (render t m rs r) → AllFit bytes n slots (render t m rs (token j k s e r))
      by everything x y = (x, y)
      by first_segment x y = y
      by but_names x y = (x, y)
  render_fit (node j k s e cs r) i from to a b h u l m rs =
      let g = node_good j k s e from to cs r a b in
      let o = tiles_order r e to g.inside g.good in
      by m (omega (arith, u.0))
      (λ m rs. render_fit cs (i + 1) s e g.below g.children (omega arith) u.1 (omega arith) m rs)
      (render_fit r (i + (1 + size cs)) e to g.inside g.good h u.2 (omega arith) m rs)
    where
      own : List Piece
      own = node_pieces t j (λ m. render t m (receiver_below k cs rs) cs)

      by : (m : Mode) → j < n → ((m : Mode) (rs : List ℕ) → AllFit bytes n slots (render t m rs cs)) → AllFit bytes n slots (render t m rs r)
          → AllFit bytes n slots (render t m rs (node j k s e cs r))
      by everything x f y = fit_append bytes n slots own (render t everything rs r) (fit_node j (λ m. render t m (receiver_below k cs rs) cs) x (λ m. f m (receiver_below k cs rs))) y
      by first_segment x f y = fit_either bytes n slots (eqb k 3) (render t but_names rs cs) (render t first_segment rs r) (f but_names rs) y
      by but_names x f y =
          fit_append bytes n slots (cond (eqb k 4) [] own) (render t but_names rs r)
          (fit_either bytes n slots (eqb k 4) [] own tt (fit_node j (λ m. render t m (receiver_below k cs rs) cs) x (λ m. f m (receiver_below k cs rs)))) y

-- a template whose tree is well-formed over a text of so many bytes
pub pieces_fit : (x : Side) (bytes : ℕ) (l : List ℕ) → bytes ≤ 65535 → length l / 3 ≤ 16383 → is_tree_of tiles bytes l ≡ true
    → AllFit bytes (length l / 3) (length x.placeholders.vars) (pieces x (tree l))
pieces_fit x bytes l small few is =
    let b = tree_built bytes l small few is in
    render_fit (template_of x (tree l)) bytes (length l / 3) (tree l) 0 0 bytes b.inside b.good (omega arith) b.numbered
    (omega (arith, length-words (tree l), ap length b.are)) everything []
