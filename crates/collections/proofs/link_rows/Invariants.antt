-- `collections::link_rows` meets its contract. The loop's invariant: the rows passed are linked.
use Rattle.collections.proofs.LinkLaws.{LinkedTo}
use Rattle.collections.proofs.link_rows.Given as goal

abbrev pub invariant-loop-j : goal.invariant-loop-j
invariant-loop-j l = LinkedTo l.j l.initial.rows l.rows
