-- `readying::ready_rule` meets its contract.
use Rattle.std.proofs.Common.{sym, ◌∙◌, ◌≤◌, length, arith}
use Rattle.std.proofs.lemmas.List.{length-map}
use Rattle.parsing.specs.Patterns.{placeholders_of, var_of}
use Rattle.rule_paths.specs.RulePaths.{pattern_vars}
use Rattle.readying.proofs.TellingLaws.{tells_rule}
use Rattle.readying.proofs.ready_rule.Goals as goal

pub returns-clause-tells : goal.returns-clause-tells
returns-clause-tells g c =
    let r = c.args.rule.now in
    let few : length (pattern_vars r.pair) ≤ 8 = rw (← c.pattern.ensures) (omega (arith, c.len.ensures.fits, length-map (placeholders_of c.pattern.result.now.placeholders) var_of)) in
    tells_rule r c.unwrap-form.result c.unwrap-resolved.result c.args.module (rw c.rule-own.ensures at (sym c.template_form.ensures ∙ c.unwrap-form.ensures)) (sym c.resolve_template.ensures.value ∙ c.unwrap-resolved.ensures) c.root_kind-kind.ensures.formed few _ _ c.lay_pieces-count.ensures.within.1 c.lay_pieces-count.ensures.laid (rw c.pair.ensures at c.code-code.ensures) (rw c.pair-2.ensures at c.facts-facts.ensures) c.root_kind-kind.ensures.value
