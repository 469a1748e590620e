-- Building rules, document 01: "18 to 20, then 17 no form has both its trees (its pattern alone, if no template was given)". The operation
-- takes all pairs and the number of a rule, and answers how many rules are left and what that rule is. Facts are not looked at.
-- Assumes nothing.
use Rattle.std.specs.Prelude.{ℕ, List, length, None, Result, Ok, Err}
use Rattle.errors.specs.declared.Refusal.{Refusal}
use Rattle.errors.specs.Refusals.{Outcome}
use Rattle.fragments.specs.Pairs.{Pairs, pairs_in}
use Rattle.rules.specs.Stages.{rules_outcome}
use Rattle.rules.specs.Numbering.{rules, rule_at}
use Rattle.rules.specs.declared.numbering.Rule.{Rule}
use Rattle.rules.specs.declared.building.Built.{Built}

abbrev pub build_outcome : Pairs → Outcome
build_outcome ps = rules_outcome None ps

abbrev pub built_by : Outcome → List Rule → ℕ → Result Built Refusal
built_by (Err r) rs number = Err r
built_by (Ok tt) rs number = Ok (record { count = length rs; rule = rule_at rs number })

abbrev pub built_rules : Pairs → ℕ → Result Built Refusal
built_rules ps number = built_by (build_outcome ps) (rules (pairs_in ps)) number
