-- `rules::stages::check_side` meets its contract.
use Rattle.std.proofs.Common.{sym}
use Rattle.std.proofs.lemmas.Result.{err_from_is_err_and}
use Rattle.rules.proofs.StageLaws.{side_refused}
use Rattle.rules.proofs.stages.check_side.Goals as goal

pub returns-in_err-has_right_text : goal.returns-in_err-has_right_text
returns-in_err-has_right_text c =
    let p = err_from_is_err_and c.from_residual.result c.from_residual.ensures.1 in
    rw (p.1, p.2) (sym (side_refused c.args.fact_bytes c.args.pair.now c.args.side _ (rw (← c.given_list.ensures, ← c.code-code.ensures) (sym c.in_err-has_right_text.ensures))))
