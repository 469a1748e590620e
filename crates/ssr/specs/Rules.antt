-- What the operations on rules answer in numbers.
-- Assumes nothing.
use Rattle.std.specs.Prelude.{ℕ, cond, Option, Some, None, Result, Ok, Err}
use Rattle.errors.specs.declared.Refusal.{Refusal}
use Rattle.errors.specs.Refusals.{number_of}
use Rattle.fragments.specs.Forms.{form_number}
use Rattle.rules.specs.declared.forms.TemplateTree.{TemplateTree}
use Rattle.rules.specs.declared.forms.TemplateTree.TheVariants.{Absent, Own, StandIn, Missing}
use Rattle.rules.specs.declared.numbering.Rule.{Rule}
use Rattle.rules.specs.declared.building.Built.{Built}
use Rattle.facts.specs.declared.Call.{Call}
use Rattle.resolving.specs.declared.Element.{Element}
use Rattle.ssr.specs.declared.rule_answers.BuiltRules.{BuiltRules}
use Rattle.ssr.specs.declared.rule_answers.ResolvedElement.{ResolvedElement}

-- a rule's template tree: none given, its own, the statement's, missing
abbrev pub template_number : TemplateTree → ℕ
template_number Absent = 0
template_number Own = 1
template_number StandIn = 2
template_number Missing = 3

-- building rules: 01's number, how many rules are left, and the rule that was asked for
abbrev pub rules_with : ℕ → Option Rule → BuiltRules
rules_with n None = record { refusal = 0; rules = n; found = 0; pair = 0; form = 0; template = 0 }
rules_with n (Some rule) = record { refusal = 0; rules = n; found = 1; pair = rule.pair; form = form_number rule.form; template = template_number rule.template }

abbrev pub rules_built : Result Built Refusal → BuiltRules
rules_built (Err r) = record { refusal = number_of r; rules = 0; found = 0; pair = 0; form = 0; template = 0 }
rules_built (Ok built) = rules_with built.count built.rule

-- an element as a path: whether it is resolved, and to what
abbrev pub has_number : {A : Type 0} → Option A → ℕ
has_number None = 0
has_number (Some x) = 1

abbrev pub number_or_0 : Option ℕ → ℕ
number_or_0 None = 0
number_or_0 (Some n) = n

-- as a call: its function, and its qualifier type
abbrev pub function_number : Option Call → ℕ
function_number None = 0
function_number (Some call) = call.function

abbrev pub qualifier_of : Option Call → Option ℕ
qualifier_of None = None
qualifier_of (Some call) = call.qualifier

-- resolving: 01's number, whether the element is found, and what it is
abbrev pub nothing_resolved : ℕ → ResolvedElement
nothing_resolved refusal =
    record { refusal = refusal; found = 0; resolved = 0; resolution = 0; call = 0; function = 0; typed = 0; qualifier_type = 0; contains_self = 0 }

abbrev pub element_numbers : Element → ResolvedElement
element_numbers e = record {
  refusal = 0;
  found = 1;
  resolved = has_number e.path;
  resolution = number_or_0 e.path;
  call = has_number e.call;
  function = function_number e.call;
  typed = has_number (qualifier_of e.call);
  qualifier_type = number_or_0 (qualifier_of e.call);
  contains_self = cond e.contains_self 1 0;
}

abbrev pub element_resolved : Result (Option Element) Refusal → ResolvedElement
element_resolved (Err r) = nothing_resolved (number_of r)
element_resolved (Ok None) = nothing_resolved 0
element_resolved (Ok (Some e)) = element_numbers e
