-- `replacing::pieces::put_hole` meets its contract.
use mathlib.Core.Path.{refl, ap}
use Rattle.rows.specs.declared.frames.Frame.{Frame}
use Rattle.replacing.proofs.PieceLaws.{kept_lays}
use Rattle.replacing.proofs.pieces.put_hole.Goals as goal

pub returns-in_err-end-in-Some-clause-keeps : goal.returns-in_err-end-in-Some-clause-keeps
returns-in_err-end-in-Some-clause-keeps c = kept_lays _ _ _ _ _ _ _ _ _ _ _ refl c.in_ok-behind.ensures.ok_part c.put_prefix.ensures c.put_again.ensures

pub returns-in_ok-end-in-Some-clause-keeps : goal.returns-in_ok-end-in-Some-clause-keeps
returns-in_ok-end-in-Some-clause-keeps c =
    kept_lays _ _ _ _ _ _ _ _ _ _ _ (ap (λ (f : Frame). f.begin) c.pass_piece.ensures) c.in_ok-behind.ensures.ok_part c.put_prefix.ensures c.put_again.ensures
