-- `collections::link_rows` meets its contract.
use Rattle.collections.proofs.LinkLaws.{linked_none, linked_by, linked_next}
use Rattle.collections.proofs.link_rows.Goals as goal
use Rattle.collections.proofs.link_rows.Goals.{in-Inside, in_default}

pub loop-j-init : goal.loop-j-init
loop-j-init c = linked_none c.args.rows.now c.requires.by_index

pub loop-j-preserved : goal.loop-j-preserved
loop-j-preserved c =
    let l = c.loop-j in
    elim c.match-rows-j.branch [
      | in-Inside w ↦ (rw w.rows-is (linked_next c.args.rows.now l.j c.loop-j-test.true l.rows l.invariant w.in-Inside.row _ w.in-Inside.is c.requires.held))
      | in_default w ↦ (rw w.rows-is (linked_by c.args.rows.now l.j c.loop-j-test.true l.rows l.invariant w.in_default.not-Inside))
    ]
