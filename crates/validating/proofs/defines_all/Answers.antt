-- `defines_all` meets its contract.
use Rattle.std.proofs.Common.{rules, tests, ◌∙◌, sym}
use Rattle.std.proofs.lemmas.Iterator.{YieldsList-from_slice}
use Rattle.std.proofs.lemmas.Iterator.Search.{all_from_yields_List}
use Rattle.parsing.specs.Patterns.{placeholders_of, var_of}
use Rattle.parsing.specs.Vars.{vars_of}
use Rattle.validating.specs.Pairs.{defines}
use Rattle.std.proofs.lemmas.List.Folds.{list_all-map}
use Rattle.validating.proofs.defines_all.Goals as goal

pub returns : goal.returns
returns c =
    let items = placeholders_of c.args.template.now.placeholders in
    let test = defines c.args.pattern.now.text.now (vars_of c.args.pattern.now) c.args.template.now.text.now in
    all_from_yields_List (λ p. test (var_of p)) _ _ c.all.result c.all.ensures.ran (YieldsList-from_slice items cc) (λ x b q k. search (rules, tests))
    ∙ sym (list_all-map test var_of items)
