-- `replacing::steps::take_steps` meets its contract.
use mathlib.Core.Path.{sym, ◌∙◌}
use native.Mathlib.Omega.{arith}
use Rattle.std.proofs.Common.{rules}
use Rattle.replacing.proofs.StepLaws.{keeps_trans, went_on, steps_end}
use Rattle.replacing.proofs.steps.take_steps.Goals as goal

pub returns-in_err-behind-clause-keeps : goal.returns-in_err-behind-clause-keeps
returns-in_err-behind-clause-keeps g c = let i = c.loop-matches.invariant in
    keeps_trans _ _ _ _ _ _ _ _ _ i.later i.keeps c.take_step.ensures.keeps

pub returns-in-Nested-clause-keeps : goal.returns-in-Nested-clause-keeps
returns-in-Nested-clause-keeps g c = let i = c.loop-matches.invariant in
    keeps_trans _ _ _ _ _ _ _ _ _ i.later i.keeps c.take_step.ensures.keeps

pub loop-matches-preserved : goal.loop-matches-preserved
loop-matches-preserved g c = let p = c.requires.at_step in
    went_on _ _ _ _ _ _ _ _ _ c.loop-matches.invariant p.0 p.1 _ _ _ (search rules) c.take_step.ensures.keeps

pub returns-clause-steps_left : goal.returns-clause-steps_left
returns-clause-steps_left g c = let i = c.loop-matches.invariant in
    steps_end _ _ _ _ _ _ _ _ _ i _ _ (omega (arith, c.requires.frames_for.0.here, i.keeps.frames_length)) c.len.ensures
    (sym c.goes_on.ensures ∙ c.loop-matches-test.false)
