-- `resolving::resolve_in` meets its contract.
use Rattle.std.proofs.Common.{rules, sym, arith}
use Rattle.std.proofs.lemmas.Result.{err_from_is_err_and}
use Rattle.resolving.specs.Resolving.{in_rules}
use Rattle.rules.proofs.StageLaws.{trees_pass}
use Rattle.resolving.proofs.AskLaws.{refused, unresolved, resolves}
use Rattle.resolving.proofs.resolve_in.Goals as goal

pub returns-in_err-check_rules : goal.returns-in_err-check_rules
returns-in_err-check_rules g c =
    let e = err_from_is_err_and c.from_residual.result c.from_residual.ensures.1 in
    rw (e.1, e.2) (refused c.args.rules _ _ c.in_err-check_rules.ensures)

pub new-requires : goal.new-requires
new-requires g c = (search rules, (omega arith, (trees_pass _ c.args.rules.pairs (sym c.in_ok-check_rules.ensures), c.requires.room)))

pub returns-in_err-rules : goal.returns-in_err-rules
returns-in_err-rules g c =
    let e = err_from_is_err_and c.from_residual-in_err-rules.result c.from_residual-in_err-rules.ensures.1 in
    rw (e.1, e.2) (unresolved c.args.rules _ c.in_ok-check_rules.ensures _ c.in_err-rules.ensures)

pub returns : goal.returns
returns g c =
    let a = c.args in
    let k = resolves a.rules (in_rules a.rules a.asked.rule a.asked.side a.asked.element) c.in_ok-check_rules.ensures _ c.in_ok-rules.ensures in
    rw (c.find_in_rules.ensures, k.0) k.1
