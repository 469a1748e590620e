-- `replacing::steps::take_step` meets its contract.
use mathlib.Core.Path.{refl}
use Rattle.std.proofs.Common.{rules}
use Rattle.replacing.proofs.StepLaws.{next_at, piece_ends}
use Rattle.replacing.proofs.steps.take_step.Goals as goal

pub put_piece-requires-clause-at_piece : goal.put_piece-requires-clause-at_piece
put_piece-requires-clause-at_piece g c = let a = c.args in let p = c.requires.at_step in (
  p.0,
  next_at a.matches _ a.k a.frames.now a.out.now a.at _ _ _ c.requires.frames_for.0.here c.in-None.is c.requires.frames_for.3 c.fragment-fragment.ensures p.0 p.1,
)

pub returns-in_err-behind-in-None-clause-step_left : goal.returns-in_err-behind-in-None-clause-step_left
returns-in_err-behind-in-None-clause-step_left g c = let a = c.args in
    piece_ends a.matches _ a.k a.frames.now a.out.now a.at _ _ _ c.requires.frames_for.0.here c.in-None.is c.requires.frames_for.3 c.fragment-fragment.ensures
    _ _ _ _ c.put_piece.ensures.piece_left refl c.in_err-behind-in-None.field-0.0 _ (search rules) (search rules)
