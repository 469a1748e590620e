-- `walk_nodes::find_nodes` meets its contract: what matches before the next node is found.
use mathlib.Core.Path.{refl, ◌∙◌}
use Prim.Native.Nat.{◌+◌}
use native.Mathlib.Omega.{arith}
use Rattle.syntax.proofs.ViewLaws.{size_is}
use Rattle.walk_nodes.proofs.NodeLaws.{bound_of, walk_starts, walk_on, walk_low, walk_same, walk_more, walk_many}
use Rattle.walk_nodes.proofs.find_nodes.Goals as goal
use Rattle.walk_nodes.proofs.find_nodes.Goals.{then-is_match+in_ok-push, else-is_match}

pub loop-next-init : goal.loop-next-init
loop-next-init c = let v = c.find-next in let k = c.kinds_of-fitting in (
  refl,
  bound_of _ _ v.result v.ensures.in_bounds,
  walk_on _ _ _ _ _ _ _ 0 _ (walk_starts _ _ _ _ _ _ _) (omega arith) k.result (rw (← c.root.ensures.value) k.ensures)
      v.result _ (size_is 0 c.args.x.now.tree.words.now) v.ensures.in_bounds v.ensures.passed,
)

pub loop-next-preserved : goal.loop-next-preserved
loop-next-preserved c = let v = c.find-next-in-Some in let k = c.kinds_of-fitting in let m = c.is_match in let l = c.loop-next in let node = c.in-Some.node in (
  m.ensures.out_len_unchanged ∙ l.invariant.0,
  bound_of _ _ v.result v.ensures.in_bounds,
  walk_on _ _ _ _ _ _ _ (node + 1) _
      (elim c.if-is_match.branch [
        | then-is_match+in_ok-push w ↦ rw w.found-is (walk_more _ _ _ _ _ _ _ _ _ l.invariant.2 node c.in-Some.is _ m.ensures.value w.if-is_match.true _ w.in_ok-push.ensures.pushed)
        | else-is_match w ↦ rw w.found-is (walk_same _ _ _ _ _ _ _ _ _ l.invariant.2 node c.in-Some.is _ m.ensures.value w.if-is_match.false)
      ])
      (walk_low _ _ _ _ _ _ _ _ _ l.invariant.2 node c.in-Some.is) k.result (rw (← c.root.ensures.value) k.ensures)
      v.result _ (size_is 0 c.args.x.now.tree.words.now) v.ensures.in_bounds v.ensures.passed,
)

pub returns-in_err-push-clause-finds : goal.returns-in_err-push-clause-finds
returns-in_err-push-clause-finds c = let l = c.loop-next in
    rw c.from_residual.ensures (walk_many _ _ _ _ _ _ _ _ _ l.invariant.2 c.in-Some.node c.in-Some.is _ c.is_match.ensures.value c.if-is_match.true _ c.in_err-push.ensures.full.1)
