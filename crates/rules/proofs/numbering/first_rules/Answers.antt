-- `rules::numbering::first_rules` meets its contract.
use Rattle.std.proofs.Common.{sym, arith}
use borrow.Author.Tests.{eqb-true}
use Rattle.rules.proofs.FirstLaws.{no_room, pair_added, pairs_added, length_first}
use Rattle.rules.proofs.numbering.first_rules.Goals as goal

pub returns-then-is_full : goal.returns-then-is_full
returns-then-is_full c = no_room _ c.loop-n.first.items _ (eqb-true _ _ (sym c.if-is_full.ensures.value)) c.loop-n.invariant.2

pub loop-n-preserved : goal.loop-n-preserved
loop-n-preserved c =
    let l = c.loop-n in
    let a = (rw c.in-Some.ensures.steps at l.invariant) in
    (omega (arith, a.0), rw c.add_rules.ensures (length_first _), rw c.add_rules.ensures (pair_added _ l.first.items l.n c.in-Some.pair c.next.new.self a.2))

pub returns : goal.returns
returns c =
    let a = (rw c.in-None.ensures.steps.0 at c.loop-n.invariant) in
    pairs_added _ c.loop-n.first.items c.loop-n.n a.1 a.2
