-- `replacing::steps::take_steps` meets its contract.
use Prim.Native.Nat.{◌+◌, ◌-◌, ◌*◌}
use lib.ListN.{length}
use Rattle.rows.specs.Frames.{frame_of, came}
use Rattle.replacing.proofs.StepLaws.{Went}
use Rattle.replacing.proofs.steps.take_steps.Given as goal

abbrev pub invariant-loop-matches : goal.invariant-loop-matches
invariant-loop-matches g l = Went l.matches (g.T.Template.fragments l.template) l.k l.initial.frames l.initial.out l.begin l.frames l.out l.at

abbrev pub decreases-loop-matches : goal.decreases-loop-matches
decreases-loop-matches g l = 2048 * (length (g.T.Template.fragments l.template) + 1) - came (frame_of l.frames l.k)
