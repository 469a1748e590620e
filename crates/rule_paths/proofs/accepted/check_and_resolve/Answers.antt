-- `rule_paths::accepted::check_and_resolve` meets its contract.
use Rattle.std.proofs.Common.{rules, sym, arith}
use Rattle.std.proofs.lemmas.Result.{err_from_is_err_and}
use Rattle.checks.specs.Given.{given_in}
use Rattle.checks.proofs.GivenLaws.{trees_accepted}
use Rattle.rule_paths.proofs.AcceptedLaws.{given_refuses}
use Rattle.rule_paths.proofs.accepted.check_and_resolve.Goals as goal

pub returns-in_err-file-clause-value : goal.returns-in_err-file-clause-value
returns-in_err-file-clause-value g c =
    let e = err_from_is_err_and c.from_residual.result c.from_residual.ensures.1 in
    rw (e.1, e.2) (given_refuses c.args.rules (given_in c.args.file) _ c.in_err-file.ensures.value)

pub new-requires : goal.new-requires
new-requires g c = (search rules, (omega arith, (trees_accepted _ _ (sym c.in_ok-file.ensures.value), c.requires.room)))
