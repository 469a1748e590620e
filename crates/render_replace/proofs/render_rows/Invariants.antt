-- `render_replace::render_rows` meets its contract: every world in which row k0 stood at the first place has the row at hand stand at the
-- present one.
use Rattle.render_replace.specs.Worlds.{AtHand}
use Rattle.render_replace.specs.Stacks.{work_left}
use Rattle.render_replace.proofs.RunLaws.{Going}
use Rattle.render_replace.proofs.render_rows.Given as goal

abbrev pub invariant-loop-turned : goal.invariant-loop-turned
invariant-loop-turned g l = Going l.handed l.k0 l.initial.frames l.initial.out l.begin l.frames l.out l.k l.at × AtHand l.handed.rules l.at_hand l.tables.pieces

abbrev pub decreases-loop-turned : goal.decreases-loop-turned
decreases-loop-turned g l = work_left l.frames l.k
