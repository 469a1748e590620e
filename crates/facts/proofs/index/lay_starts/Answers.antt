-- `facts::index::lay_starts` meets its contract.
use mathlib.Core.Path.{◌∙◌}
use Prim.Native.Nat.{◌*◌, ◌+◌}
use native.Mathlib.Omega.{arith}
use lib.ListN.{length-set}
use Rattle.facts.proofs.StartLaws.{start_few, start_laid, below_rises}
use Rattle.facts.proofs.index.lay_starts.Goals as goal

pub overflow_cast-starts : goal.overflow_cast-starts
overflow_cast-starts c = omega (arith, start_few (c.loop-element.element * 70368744177664) c.args.index.now c.requires.1, c.pass_lower-place.ensures)

pub loop-element-preserved : goal.loop-element-preserved
loop-element-preserved c =
    let l = c.loop-element in
    let place = c.pass_lower-place.result in (
      length-set l.starts l.element place ∙ l.invariant.0,
      omega (arith, c.pass_lower-place.ensures, below_rises (l.element * 70368744177664) ((l.element + 1) * 70368744177664) c.args.index.now (omega arith)),
      λ e. start_laid l.starts c.args.index.now l.element place e (omega (arith, l.invariant.0, c.loop-element-test.true)) c.pass_lower-place.ensures l.invariant.2,
    )
