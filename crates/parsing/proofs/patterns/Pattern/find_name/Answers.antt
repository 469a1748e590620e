-- `Pattern::find_name` meets its contract.
use Rattle.std.proofs.Common.{rules, tests, ◌∙◌, sym}
use Rattle.std.proofs.lemmas.Iterator.{YieldsList-from_slice}
use Rattle.std.proofs.lemmas.Iterator.Search.{position_from_yields_List}
use Rattle.parsing.specs.Patterns.{placeholders_of, var_of, has_name_text}
use Rattle.parsing.proofs.PatternLaws.{position_map}
use Rattle.parsing.proofs.patterns.Pattern.find_name.Goals as goal

pub returns : goal.returns
returns c =
    let items = placeholders_of c.args.self.now.placeholders in
    let test = has_name_text c.args.self.now.text.now c.args.name.now in
    position_from_yields_List (λ p. test (var_of p)) _ _ c.position.result c.position.ensures.ran (YieldsList-from_slice items cc) (λ x b q k. search (rules, tests))
    ∙ sym (position_map var_of test items)
