-- `render_replace::turns::take_turn` meets its contract.
use Rattle.std.proofs.Common.{rules}
use Rattle.render_replace.proofs.TurnLaws.{ends_turn, ends_keeps, goes_in_keeps, row_keeps}
use Rattle.render_replace.proofs.turns.take_turn.Goals as goal

pub returns-in_err-behind-clause-turn_keeps : goal.returns-in_err-behind-clause-turn_keeps
returns-in_err-behind-clause-turn_keeps g c = let p = c.requires.at_turn in let r = c.ready_row.ensures in
    ends_keeps _ _ _ _ _ _ _ _ r.keeps r.low _ r.row_left p.0 p.1 c.in_err-behind.field-0.0 _ (search rules)

pub returns-in_err-behind-clause-turn_left : goal.returns-in_err-behind-clause-turn_left
returns-in_err-behind-clause-turn_left g c = let r = c.ready_row.ensures in
    ends_turn _ _ _ _ _ _ _ _ r.keeps r.low _ r.row_left c.in_err-behind.field-0.0 _ (search rules) (search rules)

pub returns-in-At-clause-turn_keeps : goal.returns-in-At-clause-turn_keeps
returns-in-At-clause-turn_keeps g c = let p = c.requires.at_turn in let r = c.ready_row.ensures in
    row_keeps _ _ _ _ _ _ _ _ r.keeps r.low _ (search rules) _ _ c.end_row.ensures.ended p.0 p.1

pub returns-in-Nested-clause-turn_keeps : goal.returns-in-Nested-clause-turn_keeps
returns-in-Nested-clause-turn_keeps g c = let p = c.requires.at_turn in let r = c.ready_row.ensures in
    goes_in_keeps _ _ _ _ _ _ _ _ r.keeps r.low _ _ (search rules) p.0 p.1
