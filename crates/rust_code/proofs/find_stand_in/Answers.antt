-- `find_stand_in` meets its contract.
use Rattle.std.proofs.Common.{sym, ◌∙◌}
use Rattle.parsing.specs.Vars.{vars_of}
use Rattle.rust_code.proofs.StandInLaws.{by_name, by_none}
use Rattle.rust_code.proofs.find_stand_in.Goals as goal

pub returns-in_err-name : goal.returns-in_err-name
returns-in_err-name c = c.from_residual.ensures ∙ sym (by_none c.args.pattern.now.text.now (vars_of c.args.pattern.now) c.args.x.now c.in_err-name.ensures.cases)

pub returns : goal.returns
returns c = c.find_name.ensures ∙ rw c.in_ok-name.ensures.cases.1 (sym (by_name c.args.pattern.now.text.now (vars_of c.args.pattern.now) c.args.x.now c.in_ok-name.ensures.cases.0))
