-- The siblings fail if those that are left do.
use lib.ListN.{length}
use Rattle.syntax.specs.Views.{elems_of}
use Rattle.matcher.specs.Matcher.{matcher_of}
use Rattle.get_match.specs.FirstPhase.{SiblingsFail, FailsIf}
use Rattle.get_match.proofs.first_phase.checking.check_siblings.Given as goal

abbrev pub invariant-loop-t : goal.invariant-loop-t
invariant-loop-t l = FailsIf (matcher_of l.x) (elems_of l.t.p) (elems_of l.t.c) (SiblingsFail (matcher_of l.x) (elems_of l.p) (elems_of l.c))

abbrev pub decreases-loop-t : goal.decreases-loop-t
decreases-loop-t l = length l.t.c.words.now
