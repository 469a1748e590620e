-- Words are well-formed exactly if they pass the test of a tree.
-- Assumes nothing.
use mathlib.Core.Path.{◌≡◌, refl, sym, ◌∙◌}
use mathlib.Core.Bool.{Bool, true, false, not, ◌&&◌, false≢true}
use mathlib.Core.List.{List}
use Prim.Native.Nat.{ℕ, ◌*◌, ◌/◌, ◌≤◌}
use native.Mathlib.Omega.{arith}
use lib.ListN.{length}
use lib.Dec.{eqb, ltb}
use borrow.Author.Tests.{eqb-true, ltb-false, le-ltb}
use Rattle.words.specs.Fields.{is_a_node, size_of, start_of, end_of}
use Rattle.words.proofs.TestLaws.{and_both, and_of}
use Rattle.syntax.specs.Trees.{tree, tiles, is_tree_of, depth}
use Rattle.syntax.specs.Rows.{every, is_root}
use Rattle.syntax.specs.Checks.{is_too_large, is_well_formed, WellFormed}
use Rattle.syntax.proofs.CheckLaws.{not_large, within_limits}
use Rattle.syntax.proofs.Exactly.{tree_exactly}
use Rattle.syntax.proofs.Places.{tree-size}

-- a tree's text ends where its root does
root_end : (n : ℕ) (l : List ℕ) → is_root n l ≡ true → end_of l ≡ n
unfolding is_root
root_end n l h = eqb-true _ _ (and_both (is_a_node l && eqb (size_of l * 3) (length l) && eqb (start_of l) 0) (eqb (end_of l) n) h).1

end_is : (l : List ℕ) (w : WellFormed l) → end_of l ≡ w.bytes
end_is l w = root_end w.bytes l (and_both (is_root w.bytes l) (every l) (sym (tree_exactly w.bytes l w.small w.few) ∙ w.is)).0

pub is_formed : (l : List ℕ) → WellFormed l → is_well_formed l ≡ true
unfolding is_well_formed
is_formed l w =
    let small : not (is_too_large (end_of l) l) ≡ true = rw (end_is l w, within_limits w.bytes l w.few w.small) in
    let is : is_tree_of tiles (end_of l) l ≡ true = rw (end_is l w) w.is in
    let shallow : not (ltb 128 (depth (tree l))) ≡ true = rw (le-ltb 128 (depth (tree l)) w.shallow) in
    and_of (and_of small is) shallow

not_true : (b : Bool) → not b ≡ true → b ≡ false
not_true true h = absurd (false≢true h)
not_true false h = refl

pub formed_is : (l : List ℕ) → is_well_formed l ≡ true → WellFormed l
unfolding is_well_formed
formed_is l h =
    let n = end_of l in
    let a = and_both (not (is_too_large n l) && is_tree_of tiles n l) (not (ltb 128 (depth (tree l)))) h in
    let b = and_both (not (is_too_large n l)) (is_tree_of tiles n l) a.0 in
    let q = not_large n l (not_true (is_too_large n l) b.0) in
    record { bytes = n; small = q.1; few = q.0; is = b.1; shallow = ltb-false _ _ (not_true (ltb 128 (depth (tree l))) a.1) }

-- how many elements it has
pub whole : (l : List ℕ) → is_well_formed l ≡ true → length l / 3 * 3 ≡ length l
whole l h = omega (arith, tree-size l (formed_is l h))

pub few : (l : List ℕ) → is_well_formed l ≡ true → length l / 3 ≤ 16383
few l h = (formed_is l h).few
