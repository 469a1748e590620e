-- The stages of checks that all pairs go through, document 01: "A rule is handed over as its token lists with their trees, so 1 to 15 come
-- first wherever rules are given, and 17 stands after 18 to 21 and before 22. Where several lists, rules or trees refuse, the lowest of
-- their numbers is given."
-- Assumes nothing.
use Rattle.std.specs.Prelude.{ℕ, Bool, cond, not, List, [], ◌∷◌, map, Option, Some, None, unwrap_or}
use Rattle.errors.specs.Refusals.{Outcome}
use Rattle.errors.specs.declared.Refusal.TheVariants.{MalformedList, NoForm}
use Rattle.errors.specs.Refusals.{lowest_of, lowest, first_of, in_turn}
use Rattle.validating.specs.Pairs.{pair_outcome}
use Rattle.facts.specs.declared.Owner.{Owner}
use Rattle.facts.specs.declared.Owner.TheVariants as owner
use Rattle.trees.specs.Given.{rule_outcome, given_outcome}
use Rattle.fragments.specs.declared.forms.Side.{Side}
use Rattle.fragments.specs.declared.forms.Side.TheVariants.{Pattern, Template}
use Rattle.fragments.specs.declared.forms.Form.{Form}
use Rattle.fragments.specs.Forms.{five}
use Rattle.fragments.specs.Directory.{is_directory}
use Rattle.fragments.specs.Pairs.{Pair, Pairs, pairs_in, list_of, text_of, code_of, is_given, tree_of, facts_of}
use Rattle.rules.specs.Forms.{has_rule}
use Rattle.rules.specs.declared.stages.Stage.{Stage}
use Rattle.rules.specs.declared.stages.Stage.TheVariants.{Lists, Trees, Forms}

-- 1, docs/FORMAT.md, "Rules": a directory that is none
abbrev pub directory_outcome : Pairs → Outcome
directory_outcome ps = first_of (record { fails = not (is_directory ps.directory ps.words ps.bytes); refusal = MalformedList } ∷ [])

-- a side's list, its words and its text, where it is given
abbrev pub given_list : Side → Pair → Option (List ℕ × List ℕ)
given_list side p = cond (is_given side p) (Some (list_of side p, text_of side p)) None

-- 1 to 15 of a pair's lists
abbrev pub lists_outcome : Pair → Outcome
lists_outcome p = pair_outcome (list_of Pattern p) (text_of Pattern p) (given_list Template p)

-- whose a side's trees are
abbrev pub owner_of : Side → Owner
owner_of Pattern = owner.Pattern
owner_of Template = owner.Template

-- 18 to 20 of a form's tree on one side, or 18 to 21 where its facts are looked at, with a fact text of some bytes: else it is as if none
-- were handed in
abbrev pub facts_if : Option ℕ → List ℕ → List ℕ
facts_if (Some m) facts = facts
facts_if None facts = []

abbrev pub tree_outcome : Option ℕ → Pair → Side → Form → Outcome
tree_outcome m p side form = given_outcome (given_list side p) (owner_of side) (tree_of side form p) (code_of side p) (facts_if m (facts_of side form p)) (unwrap_or m 0)

-- the same where it is known whether the side's code, of n bytes, is the right text
abbrev pub form_outcome : Option ℕ → Pair → Side → Bool → ℕ → Form → Outcome
form_outcome m p side has_right_text n form = rule_outcome (owner_of side) has_right_text (tree_of side form p) n (facts_if m (facts_of side form p)) (unwrap_or m 0)

abbrev pub side_outcome : Option ℕ → Pair → Side → Outcome
side_outcome m p side = lowest (five (tree_outcome m p side))

abbrev pub trees_outcome : Option ℕ → Pair → Outcome
trees_outcome m p = lowest_of (side_outcome m p Pattern) (side_outcome m p Template)

-- 17 "no form has both its trees"
abbrev pub forms_outcome : Pair → Outcome
forms_outcome p = first_of (record { fails = not (has_rule p); refusal = NoForm } ∷ [])

-- a stage of one pair, and of all
abbrev pub pair_stage : Stage → Pair → Outcome
pair_stage Lists p = lists_outcome p
pair_stage (Trees m) p = trees_outcome m p
pair_stage Forms p = forms_outcome p

unfoldable pub stage_outcome : Stage → List Pair → Outcome
stage_outcome stage ps = lowest (map (pair_stage stage) ps)

-- all that rules go through before they are resolved; facts are looked at, with a fact text of some bytes, or not
unfoldable pub rules_outcome : Option ℕ → Pairs → Outcome
rules_outcome m ps =
    in_turn
    (directory_outcome ps
    ∷ stage_outcome Lists (pairs_in ps)
    ∷ stage_outcome (Trees m) (pairs_in ps)
    ∷ stage_outcome Forms (pairs_in ps)
    ∷ [])
