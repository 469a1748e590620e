-- `lay_marks` meets its contract.
use Rattle.std.proofs.Common.{arith}
use Rattle.std.proofs.lemmas.Option.{slice_get_within}
use Rattle.paths.specs.Steps.{root_of}
use Rattle.prepared.proofs.MarkLaws.{says_more}
use Rattle.prepared.proofs.marking.lay_marks.Goals as goal

pub loop-element-preserved : goal.loop-element-preserved
loop-element-preserved c =
    let x = c.args.resolved.now in let l = c.loop-element in
    says_more x.side (root_of x) l.marks l.element c.mark_of.result (omega (arith, l.auto.marks, c.loop-element-test.true)) c.mark_of.ensures l.invariant

pub returns-clause-says : goal.returns-clause-says
returns-clause-says c = λ e m h. let l = c.loop-element in l.invariant e m (omega (arith, l.auto.marks, slice_get_within l.marks e m h, c.loop-element-test.false)) h
