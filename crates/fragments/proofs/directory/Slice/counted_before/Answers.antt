-- `fragments::directory::Slice::counted_before` meets its contract.
use Rattle.std.proofs.Common.{sym, arith}
use Rattle.fragments.proofs.DirectoryLaws.{before_start, before-next}
use Rattle.fragments.proofs.directory.Slice.counted_before.Goals as goal

pub loop-i-init : goal.loop-i-init
loop-i-init c = (sym (before_start _ c.args.row.now), omega arith)

pub loop-i-preserved : goal.loop-i-preserved
loop-i-preserved c = (
  rw (c.loop-i.invariant.0, c.count_at-sum.ensures.value) (sym (before-next _ c.loop-i.i c.args.row.now)),
  omega (arith, c.loop-i.invariant.1, c.count_at-sum.ensures.upper_bound),
)
