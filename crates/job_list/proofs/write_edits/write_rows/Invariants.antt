-- `write_edits::write_rows` meets its contract. The invariant: in every world that is shown, the edits of the rows passed stand in the buffer.
use lib.ListN.{length}
use mathlib.Core.Path.{◌≡◌}
use Rattle.render_replace.specs.Worlds.{AtHand}
use Rattle.job_list.proofs.EditsLaws.{Laying}
use Rattle.job_list.proofs.write_edits.write_rows.Given as goal

abbrev pub invariant-loop-k : goal.invariant-loop-k
invariant-loop-k g l = Laying l.handed l.initial.out l.out l.k l.at × (length l.frames ≡ length l.initial.frames) × AtHand l.handed.rules l.at_hand l.tables.pieces
