-- `ResolvedRule::new` of docs/src/src/resolving.rs: the paths of a rule's template and of its pattern. Refusal 22, document 01: "a path that
-- must resolve has no fact", in the trees of the rules left.
-- Assumes nothing.
use Rattle.std.specs.Prelude.{Bool, false, cond, ◌&&◌, ◌||◌, List, [], ◌∷◌, map, Option, Some, None, Result, Ok, Err}
use Rattle.errors.specs.declared.Refusal.{Refusal}
use Rattle.errors.specs.declared.Refusal.TheVariants.{UnresolvedPath}
use Rattle.errors.specs.Refusals.{Outcome, first_of}
use Rattle.parsing.specs.Reading.{Var, vars, Reading, reading}
use Rattle.syntax.specs.Trees.{tree}
use Rattle.fragments.specs.declared.forms.Side.{Side}
use Rattle.fragments.specs.declared.forms.Side.TheVariants.{Pattern, Template}
use Rattle.fragments.specs.declared.forms.Form.{Form}
use Rattle.fragments.specs.declared.forms.Form.TheVariants.{Statement}
use Rattle.fragments.specs.Forms.{five}
use Rattle.fragments.specs.Pairs.{Pair, list_of, text_of, code_of, tree_of, facts_of, pairs_in}
use Rattle.rules.specs.declared.forms.TemplateTree.{TemplateTree}
use Rattle.rules.specs.declared.forms.TemplateTree.TheVariants.{Absent, Own, StandIn, Missing}
use Rattle.rules.specs.Forms.{template_tree, any, is_left}
use Rattle.checks.specs.declared.Rules.{Rules}
use Rattle.paths.specs.Steps.{Side as Looked, side_by, SideTree}
use Rattle.paths.specs.Resolved.{is_unresolved}

-- `placeholders_by_stand_in` is the pattern's, on both sides
abbrev pub vars_in : Reading → List Var
vars_in (Ok es) = vars es
vars_in (Err r) = []

abbrev pub pattern_vars : Pair → List Var
pattern_vars p = vars_in (reading (list_of Pattern p) (text_of Pattern p))

-- a form's tree on a side, as resolving looks at it
abbrev pub side_at : Pair → Side → Form → Looked
side_at p side form = side_by (text_of Pattern p) (pattern_vars p) (code_of side p) (facts_of side form p)

abbrev pub tree_at : Pair → Side → Form → SideTree
tree_at p side form = record { side = side_at p side form; words = tree_of side form p }

-- a path in it that must resolve has no fact
abbrev pub tree_fails : Pair → Side → Form → Bool
tree_fails p side form = is_unresolved (side_at p side form) (tree (tree_of side form p))

-- the form of the template's tree, where a rule has one
abbrev pub template_form : Form → TemplateTree → Option Form
template_form form Absent = None
template_form form Own = Some form
template_form form StandIn = Some Statement
template_form form Missing = None

-- one in the template's tree, in the pattern's or the template's, in a rule of the pair that is left
abbrev pub template_fails : Pair → Form → TemplateTree → Bool
template_fails p form Absent = false
template_fails p form Own = tree_fails p Template form
template_fails p form StandIn = tree_fails p Template Statement
template_fails p form Missing = false

abbrev pub rule_fails : Pair → Form → Bool
rule_fails p form = template_fails p form (template_tree p form) || tree_fails p Pattern form

abbrev pub form_fails : Pair → Form → Bool
form_fails p form = is_left p form && rule_fails p form

unfoldable pub pair_fails : Pair → Bool
pair_fails p = any (five (form_fails p))

-- 22 of all pairs
abbrev pub paths_outcome : List Pair → Outcome
paths_outcome ps = first_of (record { fails = any (map pair_fails ps); refusal = UnresolvedPath } ∷ [])

-- the answer of resolving rules
abbrev pub resolving_rules : Rules → Result Rules Refusal
resolving_rules q = cond (any (map pair_fails (pairs_in q.pairs))) (Err UnresolvedPath) (Ok q)

-- 22 where a test says so
abbrev pub unresolved_if : Bool → Outcome
unresolved_if fails = cond fails (Err UnresolvedPath) (Ok tt)
