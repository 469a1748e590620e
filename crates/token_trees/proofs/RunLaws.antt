-- Laws of a placeholder's run: one element of the code is its end, stops it, uses up an element of the pattern, or is taken.
-- Assumes nothing.
use mathlib.Core.Path.{◌≡◌, refl}
use mathlib.Core.Bool.{Bool, true, false}
use mathlib.Core.List.{List}
use Prim.Native.Nat.{ℕ}
use Rattle.std.proofs.Common.{Some, None}
use Rattle.words.specs.Fields.{is_a_token as tokenWords}
use Rattle.syntax.specs.Trees.{Elems, none, token, elems}
use Rattle.syntax.specs.Accessors.{rest, some}
use Rattle.syntax.specs.Siblings.{is_a_node, skip_trivia}
use Rattle.syntax.specs.declared.kinds.ElementKind.TheVariants.{Node, Token}
use Rattle.syntax.proofs.TreeLaws.{elems-token, elems_node}
use Rattle.syntax.proofs.AccessorLaws.{no_sibling}
use Rattle.syntax.proofs.SiblingLaws.{long_some}
use Rattle.token_trees.specs.Runs.{is_stop, run_from}

pub run_end : (code text : List ℕ) (stop last ps c : Elems) → some c ≡ false → run_from code text stop last ps c ≡ record { stop = None; last = last; pattern = ps; code = none }
unfolding run_from
run_end code text stop last ps c h = rw (no_sibling c h)

module _ (code text : List ℕ) (stop last ps : Elems) (j : ℕ) (l : List ℕ) (h : some (elems j l) ≡ true) where
  module _ (t : is_stop code text stop (elems j l) ≡ true) where
    pub stops_at_token : tokenWords l ≡ true → run_from code text stop last ps (elems j l) ≡ record { stop = Some Token; last = last; pattern = ps; code = elems j l }
    unfolding run_from
    stops_at_token e = let q = elems-token j l (long_some j l h) e in let u = rw q at t in rw (q, u)

    pub stops_at_node : tokenWords l ≡ false → is_a_node (skip_trivia ps) ≡ true → run_from code text stop last ps (elems j l) ≡ record { stop = Some Node; last = last; pattern = ps; code = elems j l }
    unfolding run_from
    stops_at_node e n = let q = elems_node j l (long_some j l h) e in let u = rw q at t in rw (q, u, n)

    pub uses_up : tokenWords l ≡ false → is_a_node (skip_trivia ps) ≡ false
        → run_from code text stop last ps (elems j l) ≡ run_from code text stop (elems j l) (rest (skip_trivia ps)) (rest (elems j l))
    unfolding run_from
    uses_up e n = let q = elems_node j l (long_some j l h) e in let u = rw q at t in rw (q, u, n)

  taken : is_stop code text stop (elems j l) ≡ false → (b : Bool) → tokenWords l ≡ b → run_from code text stop last ps (elems j l) ≡ run_from code text stop (elems j l) ps (rest (elems j l))
  unfolding run_from
  taken t true e = let q = elems-token j l (long_some j l h) e in let u = rw q at t in rw (q, u)
  taken t false e = let q = elems_node j l (long_some j l h) e in let u = rw q at t in rw (q, u)

  pub goes_on : is_stop code text stop (elems j l) ≡ false → run_from code text stop last ps (elems j l) ≡ run_from code text stop (elems j l) ps (rest (elems j l))
  goes_on t = taken t (tokenWords l) refl
