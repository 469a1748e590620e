-- `rules::forms::rule_forms` meets its contract.
use Rattle.std.proofs.Common.{rules}
use Rattle.fragments.proofs.FormLaws.{five_from_map}
use Rattle.rules.specs.Forms.{is_rule}
use Rattle.rules.proofs.forms.rule_forms.Goals as goal

pub returns : goal.returns
returns c = five_from_map (is_rule c.args.pair.now) _ c.map.ensures.items (λ x y q k. search rules)
