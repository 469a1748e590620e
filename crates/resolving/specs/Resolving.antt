-- Resolving, document 01: "18 to 21, then 22 a path that must resolve has no fact", after 1 to 15 and 17. The operation takes all pairs, the
-- number of a rule, a side and an element, and answers what that element is: whether it is a resolved path and what it resolves to, whether
-- it is a call that UFCS may match, its function and its type or none, and whether that side contains `self`.
-- Assumes nothing.
use Rattle.std.specs.Prelude.{ℕ, ◌/◌, cond, [], ◌∷◌, eqb, ltb, length, Option, Some, None, option_map, option_and_then, Result, Ok, Err}
use Rattle.errors.specs.declared.Refusal.{Refusal}
use Rattle.errors.specs.Refusals.{Outcome}
use Rattle.errors.specs.Refusals.{in_turn}
use Rattle.syntax.specs.declared.kinds.ElementKind.TheVariants.{Token}
use Rattle.syntax.specs.Accessors.{has_element}
use Rattle.fragments.specs.declared.forms.Side.TheVariants.{Pattern, Template}
use Rattle.fragments.specs.Pairs.{pairs_in}
use Rattle.rules.specs.Stages.{rules_outcome}
use Rattle.checks.specs.declared.Rules.{Rules}
use Rattle.checks.specs.Given.{found_rule}
use Rattle.paths.specs.Steps.{SideTree, root_of}
use Rattle.paths.specs.Resolved.{path_at, call_at}
use Rattle.rule_paths.specs.RulePaths.{tree_at, template_form, paths_outcome}
use Rattle.rule_paths.specs.Needs.{PairedRule, paired}
use Rattle.resolving.specs.declared.Element.{Element}

-- an element of a tree; `contains_self` of docs/src/src/resolving.rs: a `self` token, kind 11, anywhere in the tree
abbrev pub element_of : SideTree → ℕ → Element
element_of t e = record {
  path = path_at t.side (root_of t) e;
  call = call_at t.side (root_of t) e;
  contains_self = has_element Token 11 (root_of t);
}

abbrev pub in_tree : ℕ → SideTree → Option Element
in_tree e t = cond (ltb e (length t.words / 3)) (Some (element_of t e)) None

-- side 0 is the pattern, 1 the template, whose tree a rule may lack; there is no other
abbrev pub tree_of_side : PairedRule → ℕ → Option SideTree
tree_of_side r side =
    cond (eqb side 0) (Some (tree_at r.pair Pattern r.rule.form))
    (cond (eqb side 1) (option_map (tree_at r.pair Template) (template_form r.rule.form r.rule.template)) None)

abbrev pub in_rule : PairedRule → ℕ → ℕ → Option Element
in_rule r side e = option_and_then (in_tree e) (tree_of_side r side)

abbrev pub in_rules : Rules → ℕ → ℕ → ℕ → Option Element
in_rules q number side e = option_and_then (λ r. in_rule (paired q r) side e) (found_rule q number)

-- the stages
unfoldable pub resolve_outcome : Rules → Outcome
resolve_outcome q = in_turn (rules_outcome (Some q.fact_bytes) q.pairs ∷ paths_outcome (pairs_in q.pairs) ∷ [])

-- the refusal, or the element where there are such a rule, side and element
abbrev pub resolved_by : Outcome → Option Element → Result (Option Element) Refusal
resolved_by (Err r) answer = Err r
resolved_by (Ok tt) answer = Ok answer

abbrev pub resolved_element : Rules → ℕ → ℕ → ℕ → Result (Option Element) Refusal
resolved_element q number side e = resolved_by (resolve_outcome q) (in_rules q number side e)
