-- `rule_paths::passed::PassedPair::check_template` meets its contract.
use Rattle.std.proofs.Common.{sym, ◌∙◌}
use Rattle.rule_paths.proofs.FailLaws.{template_in}
use Rattle.rule_paths.proofs.passed.PassedPair.check_template.Goals as goal

pub returns : goal.returns
returns g c = c.check.ensures ∙ rw (← c.self.view_is, ← c.template_tree-template.ensures, template_in c.self.inside.pair c.args.form _ _ (sym c.template_form.ensures ∙ c.in-Some.is))
