-- `has_constraint` meets its contract.
use Rattle.std.proofs.Common.{rules, tests, ◌∙◌, sym, length}
use Rattle.std.proofs.lemmas.Iterator.{YieldsList-from_slice}
use Rattle.std.proofs.lemmas.Iterator.Search.{any_from_yields_List}
use lib.Dec.{ltb}
use Rattle.parsing.specs.Patterns.{placeholders_of, nots_of, var_of}
use Rattle.validating.proofs.Laws.{any_map, not_empty}
use Rattle.validating.proofs.has_constraint.Goals as goal

pub returns : goal.returns
returns c =
    let items = placeholders_of c.args.template.now.placeholders in
    any_from_yields_List (λ p. ltb 0 (length (nots_of p.nots))) _ _ c.any.result c.any.ensures.ran (YieldsList-from_slice items cc) (λ x b q k. search (rules, tests, not_empty))
    ∙ sym (any_map (λ v. ltb 0 (length v.nots)) var_of items)
