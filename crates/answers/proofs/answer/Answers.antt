-- `answers::answer` meets its contract.
use mathlib.Core.Path.{◌∙◌}
use Rattle.answers.proofs.AnswerLaws.{ends_fitting, ends_too_long, ended_by}
use Rattle.answers.proofs.answer.Goals as goal

pub returns-then-out-state : goal.returns-then-out-state
returns-then-out-state c = let t = c.in-Some.state in let after = c.args.out.now in let ends = ends_too_long t after c.if-out-state.true in rw c.in-Some.is (record {
  value = λ a before g. c.refuse.ensures.value ∙ (ends a before g).0;
  out_after = λ a before g. c.refuse.ensures.out_after ∙ ended_by _ after _ 0 ends c.requires a before g;
})

pub returns : goal.returns
returns c = let t = c.in-Some.state in let after = c.args.out.now in let ends = ends_fitting t after c.if-out-state.false in rw c.in-Some.is (record {
  value = λ a before g. (ends a before g).0;
  out_after = λ a before g. c.finish-2.ensures ∙ ended_by _ after _ t.noted ends c.requires a before g;
})
