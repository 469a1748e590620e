-- `write_edits::write_rows` meets its contract.
use mathlib.Core.Path.{refl, ◌∙◌}
use Rattle.std.proofs.Common.{rules}
use Rattle.job_list.proofs.EditsLaws.{laying_none, laying_next, laying_ends}
use Rattle.job_list.proofs.write_edits.write_rows.Goals as goal

pub loop-k-init : goal.loop-k-init
loop-k-init g c = (laying_none c.args.handed.now c.args.out.now, refl, c.requires.at_hand)

pub returns-in_err-at-clause-edits_left : goal.returns-in_err-at-clause-edits_left
returns-in_err-at-clause-edits_left g c = let l = c.loop-k in let w = c.write_edit in
    laying_ends c.args.handed.now c.args.out.now l.out l.k l.at l.invariant.0 w.new.out w.ensures.out_unchanged.0 w.ensures.out_unchanged.1 (search rules)
    c.in_err-at.field-0.0 w.result _ (search rules) (search rules) w.ensures.edit_left

pub loop-k-preserved : goal.loop-k-preserved
loop-k-preserved g c = let l = c.loop-k in let w = c.write_edit in let s = c.requires.shown in (
  laying_next c.args.handed.now c.args.out.now l.out l.k l.at l.invariant.0 w.new.out w.ensures.out_unchanged.0 w.ensures.out_unchanged.1 s.0 s.1
      c.in_ok-at.at w.result (search rules) w.ensures.edit_left,
  w.ensures.frames_len ∙ l.invariant.1,
  w.ensures.at_hand,
)
