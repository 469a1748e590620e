-- Document 01, "Modules", 2: "The rules left, numbered from 0 by pair and then by form, are the ones that candidates name and 24 counts."
-- Assumes nothing.
use Rattle.std.specs.Prelude.{ℕ, ◌+◌, List, [], ◌∷◌, ◌++◌, map, Option, slice_get}
use Rattle.fragments.specs.declared.forms.Form.{Form}
use Rattle.fragments.specs.Pairs.{Pair}
use Rattle.rules.specs.Forms.{template_tree, forms_left}
use Rattle.rules.specs.declared.numbering.Rule.{Rule}

-- the rules left of pair n, and of pairs from n on
abbrev pub rule_of : ℕ → Pair → Form → Rule
rule_of n p form = record { pair = n; form = form; template = template_tree p form }

unfoldable pub rules_from : ℕ → List Pair → List Rule
rules_from n [] = []
rules_from n (p ∷ ps) = map (rule_of n p) (forms_left p) ++ rules_from (n + 1) ps

abbrev pub rules : List Pair → List Rule
rules ps = rules_from 0 ps

-- the rule of a number
abbrev pub rule_at : List Rule → ℕ → Option Rule
rule_at rs number = slice_get rs number
