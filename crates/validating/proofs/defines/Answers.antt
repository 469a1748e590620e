-- `defines` meets its contract.
use Rattle.std.proofs.Common.{◌∙◌, sym}
use Rattle.parsing.specs.Vars.{vars_of}
use Rattle.parsing.proofs.PatternLaws.{name_found}
use Rattle.validating.proofs.defines.Goals as goal

pub returns : goal.returns
returns c = c.is_some.ensures ∙ rw (c.find_name.ensures, c.of-name.ensures) (sym (name_found c.args.pattern.now.text.now (vars_of c.args.pattern.now) _))
