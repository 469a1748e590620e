-- `have_templates` meets its contract.
use Rattle.std.proofs.Common.{rules, tests, ◌∙◌}
use Rattle.std.proofs.lemmas.Iterator.Consumers.{YieldsList-from_first}
use Rattle.std.proofs.lemmas.Iterator.Search.{all_from_yields_List}
use Rattle.fragments.specs.declared.forms.Side.TheVariants.{Template}
use Rattle.fragments.specs.Pairs.{is_given, pairs_in}
use Rattle.job_checks.proofs.TemplateLaws.{given_rules}
use Rattle.job_checks.proofs.have_templates.Goals as goal

pub returns : goal.returns
returns c = λ passed.
    let ps = pairs_in c.args.pairs.now in
    all_from_yields_List (is_given Template) _ _ c.all.result c.all.ensures.ran (YieldsList-from_first (λ x. x) (λ it. it) ps (cc)) (λ x b q k. search (rules, tests))
    ∙ given_rules ps passed
