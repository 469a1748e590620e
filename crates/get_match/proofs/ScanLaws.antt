-- The heads of a well-formed tree's nodes.
-- Assumes nothing.
use Rattle.std.proofs.Common.{◌≡◌, ℕ, ◌+◌, ◌-◌, ◌*◌, ◌/◌, ◌<◌, ◌≤◌, true, leb, List, length, take, drop, sym, ap, ◌∙◌, subst, arith, length-drop, take_all, drop-drop, eqb-true, leb-true}
use mathlib.Core.Bool.{false≢true}
use Rattle.words.specs.Fields.{word_at, kind_at}
use Rattle.words.proofs.TestLaws.{and_both, low_or}
use Rattle.syntax.specs.Trees.{Elems, none, token, node, tree, size}
use Rattle.syntax.specs.Accessors.{element_at, node_in}
use Rattle.syntax.specs.Checks.{WellFormed}
use Rattle.syntax.proofs.Places.{Looks, looks, Stands, tree-stands, tree-none}

-- a node's head has its kind right above its size, and above that 1
pub record HeadOf (w low high : ℕ) : Type 0 where
  pub kind : ℕ
  pub head : w / 65536 ≡ 4096 + kind
  pub small : kind < 4096
  pub from : low ≤ kind
  pub to : kind ≤ high

looks_head : (low high n : ℕ) (c : Elems) (p : List ℕ) → Looks n c p → node_in low high c ≡ true → HeadOf (word_at p 0) low high
looks_head low high n none p h is = absurd h
looks_head low high n (token i k s e r) p h is = absurd (false≢true is)
looks_head low high n (node i k s e cs r) p h is =
    let b = and_both (leb low k) (leb k high) is in
    let one = eqb-true (kind_at p 0) 1 h.is in
    record {
      kind = k;
      head = omega (arith, one, h.kind);
      small = omega (arith, h.kind);
      from = leb-true low k b.0;
      to = leb-true k high b.1;
    }

looks_there : (n : ℕ) (c : Elems) (p : List ℕ) → Stands n c p → Looks n c p
looks_there n c p s = subst (λ (q : List ℕ). Looks n c q) (sym s.are) (looks n c s.more s.good s.there)

pub head_is_lem : (l : List ℕ) (low high e : ℕ) → WellFormed l → node_in low high (element_at e (tree l)) ≡ true → HeadOf (word_at (drop (e * 3) l) 0) low high
head_is_lem l low high e w is =
    low_or e (size (tree l)) (λ near. looks_head low high e (element_at e (tree l)) (drop (e * 3) l) (looks_there e (element_at e (tree l)) (drop (e * 3) l) (tree-stands l e w near)) is)
    (λ far. absurd (false≢true (rw (tree-none l e w far) at is)))

-- the part behind one element more
pub three_behind : (l c : List ℕ) (e : ℕ) → c ≡ drop (e * 3) l → take (length c - 3) (drop 3 c) ≡ drop ((e + 1) * 3) l
three_behind l c e is =
    let q : e * 3 + 3 ≡ (e + 1) * 3 = omega arith in
    take_all (length c - 3) (drop 3 c) (simp length-drop (omega arith))
    ∙ ap (λ (x : List ℕ). drop 3 x) is ∙ drop-drop 3 (e * 3) l ∙ ap (λ (n : ℕ). drop n l) q
