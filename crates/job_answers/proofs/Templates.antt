-- The rules of a checked job: their trees passed and resolve, and each has a template.
-- Assumes nothing.
use Rattle.std.proofs.Common.{◌≡◌, refl, sym, Bool, true, false, cond, ◌&&◌, List, [], ◌∷◌, map, ℕ, zero, suc, ◌<◌, length, Option, Some, None, is_some, option_map, slice_get}
use mathlib.Core.Bool.{true≢false}
use Rattle.words.proofs.TestLaws.{or_neither}
use Rattle.fragments.specs.declared.forms.Form.{Form}
use Rattle.fragments.specs.declared.forms.Side.TheVariants as side
use Rattle.fragments.specs.Pairs.{Pair, pair_at, pairs_in, is_present}
use Rattle.parses.specs.Parses.{Parse}
use Rattle.trees.specs.declared.File.{File}
use Rattle.rules.specs.declared.forms.TemplateTree.{TemplateTree}
use Rattle.rules.specs.declared.forms.TemplateTree.TheVariants.{Absent, Own, StandIn, Missing}
use Rattle.rules.specs.declared.numbering.Rule.{Rule}
use Rattle.rules.specs.Forms.{template_tree, is_there, has_path, has_path_rule, any}
use Rattle.rules.proofs.RuleLaws.{rule_there}
use Rattle.rules.specs.Numbering.{rules}
use Rattle.rule_paths.specs.RulePaths.{template_form, tree_at, pair_fails}
use Rattle.rule_paths.specs.Needs.{IsLeft}
use Rattle.rule_paths.proofs.LeftLaws.{found_left}
use Rattle.checks.specs.declared.Rules.{Rules}
use Rattle.checks.specs.Given.{found_rule}
use Rattle.readying.specs.Templates.{found_template}
use Rattle.job_checks.specs.Checks.{Job, rules_in, rule_count, has_no_template, any_without_template}
use Rattle.job_checks.specs.Checked.{Checked}

-- a rule that is left has its template's tree, or wants none
there_of : (h a t c : Bool) → cond h (a && t && c) (a && t) ≡ true → t ≡ true
there_of true true true c h = refl
there_of true true false c h = h
there_of true false t c h = absurd (true≢false (sym h))
there_of false true t c h = h
there_of false false t c h = absurd (true≢false (sym h))

form_there : (f : Form) (t : TemplateTree) → is_there t ≡ true → has_no_template t ≡ false → is_some (template_form f t) ≡ true
form_there f Absent h k = absurd (true≢false k)
form_there f Own h k = refl
form_there f StandIn h k = refl
form_there f Missing h k = absurd (true≢false (sym h))

mapped : {A B : Type 0} (f : A → B) (o : Option A) → is_some o ≡ true → is_some (option_map f o) ≡ true
mapped f None h = h
mapped f (Some x) h = refl

-- no rule of the list is without template
none_without : (rs : List Rule) (number : ℕ) (r : Rule) → any_without_template rs ≡ false → slice_get rs number ≡ Some r → has_no_template r.template ≡ false
none_without [] number r h e = absurd cc
none_without (s ∷ rs) zero r h e = let q : s ≡ r = cc in (rw q at (or_neither (has_no_template s.template) (any_without_template rs) h).0)
none_without (s ∷ rs) (suc number) r h e = none_without rs number r (or_neither (has_no_template s.template) (any_without_template rs) h).1 e

left_template : (p : Pair) (r : Rule) → IsLeft p r → has_no_template r.template ≡ false → is_some (template_form r.form r.template) ≡ true
left_template p r l has =
    let t = there_of (has_path_rule p) (is_present side.Pattern r.form p) (is_there (template_tree p r.form)) (has_path p r.form) l.left in
    form_there r.form r.template (rw l.tree t) has

module _ (q : Rules) (good : any (map pair_fails (pairs_in q.pairs)) ≡ false) (with : any_without_template (rules (pairs_in q.pairs)) ≡ false)
    (number : ℕ) (low : number < length (rules (pairs_in q.pairs))) where
  template_at : (o : Option Rule) → found_rule q number ≡ o → is_some (found_template q o) ≡ true
  template_at None e = absurd (rule_there _ number low e)
  template_at (Some r) e =
      mapped (tree_at (pair_at r.pair q.pairs) side.Template) (template_form r.form r.template)
      (left_template (pair_at r.pair q.pairs) r (found_left q number r e good) (none_without _ number r with e))

module _ (j : Job) (q : Rules) (file : File) (parses : List Parse) (keys : List ℕ) (checked : Checked j q file parses keys) where
  pub checked_template : (number : ℕ) → number < rule_count j → is_some (found_template q (found_rule q number)) ≡ true
  checked_template number low = rw checked.rules_are (template_at (rules_in j) checked.resolved checked.templates number low (found_rule (rules_in j) number) refl)
