-- `ParsedRule::new` and `RuleBuilder` of docs/src/src/parsing.rs: which forms of a pair are rules, and which are left. Document 01,
-- "Modules", 2: "A statement template stands in for a missing expression template. If any rule of one pair has a PATH in its pattern, that
-- pair's rules without one there go."
-- Assumes nothing.
use Rattle.std.specs.Prelude.{Bool, true, false, cond, ◌&&◌, List, filter, get_or}
use Rattle.std.specs.List.{list_any}
use Rattle.syntax.specs.Trees.{tree}
use Rattle.syntax.specs.Accessors.{has_element}
use Rattle.syntax.specs.declared.kinds.ElementKind.TheVariants.{Node}
use Rattle.fragments.specs.declared.forms.Side.TheVariants.{Pattern, Template}
use Rattle.fragments.specs.declared.forms.Form.{Form}
use Rattle.fragments.specs.declared.forms.Form.TheVariants as form
use Rattle.fragments.specs.Forms.{form_number, five}
use Rattle.fragments.specs.Pairs.{Pair, is_given, tree_of, is_present}
use Rattle.rules.specs.declared.forms.TemplateTree.{TemplateTree}
use Rattle.rules.specs.declared.forms.TemplateTree.TheVariants.{Absent, Own, StandIn, Missing}

-- the template's tree of a form: none is wanted where no template was given; its own; or the statement's in place of the expression's
abbrev pub stand_in : Pair → Form → TemplateTree
stand_in p form.Expression = cond (is_present Template form.Statement p) StandIn Missing
stand_in p form.Type = Missing
stand_in p form.Item = Missing
stand_in p form.Pattern = Missing
stand_in p form.Statement = Missing

abbrev pub template_tree : Pair → Form → TemplateTree
template_tree p f = cond (is_given Template p) (cond (is_present Template f p) Own (stand_in p f)) Absent

-- it is there, or none is wanted
abbrev pub is_there : TemplateTree → Bool
is_there Absent = true
is_there Own = true
is_there StandIn = true
is_there Missing = false

-- `try_add`: a form is a rule where it "has both its trees (its pattern alone, if no template was given)"
abbrev pub is_rule : Pair → Form → Bool
is_rule p f = is_present Pattern f p && is_there (template_tree p f)

-- `contains_path`, of the form's pattern
abbrev pub has_path : Pair → Form → Bool
has_path p f = has_element Node 2 (tree (tree_of Pattern f p))

-- one of several holds
abbrev pub any : List Bool → Bool
any bs = list_any (λ b. b) bs

-- `build`: the rules left
abbrev pub has_rule : Pair → Bool
has_rule p = any (five (is_rule p))

abbrev pub is_path_rule : Pair → Form → Bool
is_path_rule p f = is_rule p f && has_path p f

abbrev pub has_path_rule : Pair → Bool
has_path_rule p = any (five (is_path_rule p))

abbrev pub is_left : Pair → Form → Bool
is_left p f = cond (has_path_rule p) (is_path_rule p f) (is_rule p f)

-- the forms that pass a test, in their order
unfoldable pub passing : (Form → Bool) → List Form → List Form
passing test forms = filter test forms

-- a test by a flag for each form
abbrev pub flag : List Bool → Form → Bool
flag flags f = get_or flags (form_number f) false

abbrev pub forms_left : Pair → List Form
forms_left p = passing (is_left p) (five (λ f. f))
