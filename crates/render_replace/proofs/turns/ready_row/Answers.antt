-- `render_replace::turns::ready_row` meets its contract.
use Rattle.std.proofs.Common.{rules}
use Rattle.render_replace.proofs.RowLaws.{row_left}
use Rattle.render_replace.proofs.turns.ready_row.Goals as goal

pub returns-clause-row_left : goal.returns-clause-row_left
returns-clause-row_left g c = let r = c.make_ready-template in
    row_left _ _ _ _ _ _ r.result r.new.pieces _ _ _ (search rules) (search rules) (search rules) (search rules) _ (search rules) _ (search rules) c.render_row.ensures.steps_end
