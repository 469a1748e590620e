-- 27 by pairs: where every pair has a rule, a rule is without template exactly where its pair's template is not given.
-- Assumes nothing.
use Rattle.std.proofs.Common.{◌≡◌, refl, sym, ap, ◌∙◌, Bool, true, false, cond, not, ◌&&◌, ◌||◌, List, [], ◌∷◌, ◌++◌, map, ℕ, ◌+◌, ◌<◌, length, arith}
use Rattle.std.specs.List.{list_any, list_all}
use Rattle.errors.specs.Refusals.{ok}
use Rattle.fragments.specs.declared.forms.Side.TheVariants as side
use Rattle.fragments.specs.declared.forms.Form.{Form}
use Rattle.fragments.specs.declared.forms.Form.TheVariants as form
use Rattle.fragments.specs.Forms.{five}
use Rattle.fragments.specs.Pairs.{Pair, is_given, is_present}
use Rattle.rules.specs.declared.forms.TemplateTree.TheVariants.{Absent, Own, StandIn, Missing}
use Rattle.rules.specs.declared.numbering.Rule.{Rule}
use Rattle.rules.specs.declared.stages.Stage.TheVariants.{Forms}
use Rattle.rules.specs.Forms.{template_tree, has_rule, has_path_rule, is_left, passing, forms_left}
use Rattle.rules.specs.Numbering.{rule_of, rules_from, rules}
use Rattle.rules.specs.Stages.{forms_outcome, stage_outcome}
use Rattle.rules.proofs.StageLaws.{stage_both}
use Rattle.job_checks.specs.Checks.{has_no_template, any_without_template}
use Rattle.job_checks.proofs.CheckLaws.{first-both, not_false}

-- ---- the forms of a pair

-- a pair that passed 17 has a form left
pass_cons : (t : Form → Bool) (f : Form) (fs : List Form) → (list_any t fs ≡ true → 0 < length (passing t fs)) → (b : Bool) → t f ≡ b → list_any t (f ∷ fs) ≡ true → 0 < length (passing t (f ∷ fs))
unfolding passing
pass_cons t f fs on true e h = rw e (omega arith)
pass_cons t f fs on false e h = rw e (on (rw e at h))

some_pass : (t : Form → Bool) (fs : List Form) → list_any t fs ≡ true → 0 < length (passing t fs)
some_pass t [] h = absurd (cc)
some_pass t (f ∷ fs) h = pass_cons t f fs (some_pass t fs) (t f) refl h

some_left : (p : Pair) → has_rule p ≡ true → 0 < length (forms_left p)
some_left p h = some_pass (is_left p) (five (λ f. f)) (by (has_path_rule p) refl)
  where
    by : (b : Bool) → has_path_rule p ≡ b → list_any (is_left p) (five (λ f. f)) ≡ true
    by true e = rw e e
    by false e = rw e h

-- its rules are without template exactly where that is not given
none_of : (g a b : Bool) → has_no_template (cond g (cond a Own (cond b StandIn Missing)) Absent) ≡ not g
none_of true true b = refl
none_of true false true = refl
none_of true false false = refl
none_of false a b = refl

none_given : (p : Pair) (f : Form) → has_no_template (template_tree p f) ≡ not (is_given side.Template p)
none_given p form.Expression = none_of (is_given side.Template p) (is_present side.Template form.Expression p) (is_present side.Template form.Statement p)
none_given p form.Type = none_of (is_given side.Template p) (is_present side.Template form.Type p) false
none_given p form.Item = none_of (is_given side.Template p) (is_present side.Template form.Item p) false
none_given p form.Pattern = none_of (is_given side.Template p) (is_present side.Template form.Pattern p) false
none_given p form.Statement = none_of (is_given side.Template p) (is_present side.Template form.Statement p) false

-- rules that are alike before others
or_again : (a b : Bool) → (a || (a || b)) ≡ (a || b)
or_again true b = refl
or_again false b = refl

alike_before : (f : Form → Rule) (b : Bool) → ((x : Form) → has_no_template (f x).template ≡ b) → (l : List Form) (rs : List Rule)
    → 0 < length l → any_without_template (map f l ++ rs) ≡ (b || any_without_template rs)
alike_before f b e [] rs h = absurd (omega arith)
alike_before f b e (x ∷ []) rs h = rw (e x)
alike_before f b e (x ∷ (y ∷ l)) rs h = rw (e x, alike_before f b e (y ∷ l) rs (omega arith)) (or_again b (any_without_template rs))

-- ---- pair by pair

not_or : (g b : Bool) → not (not g || b) ≡ (g && not b)
not_or true b = refl
not_or false b = refl

has_rule_lem : (p : Pair) → forms_outcome p ≡ ok → has_rule p ≡ true
has_rule_lem p h = not_false (has_rule p) (first-both _ _ h).0

from_given : (k : ℕ) (ps : List Pair) → stage_outcome Forms ps ≡ ok → list_all (is_given side.Template) ps ≡ not (any_without_template (rules_from k ps))
unfolding rules_from
from_given k [] h = refl
from_given k (p ∷ ps) h =
    let t = stage_both Forms p ps h in
    sym
    (ap not (alike_before (rule_of k p) (not (is_given side.Template p)) (none_given p) (forms_left p) (rules_from (k + 1) ps) (some_left p (has_rule_lem p t.0)))
    ∙ not_or (is_given side.Template p) (any_without_template (rules_from (k + 1) ps))
    ∙ rw (from_given (k + 1) ps t.1))

pub given_rules : (ps : List Pair) → stage_outcome Forms ps ≡ ok → list_all (is_given side.Template) ps ≡ not (any_without_template (rules ps))
given_rules ps h = from_given 0 ps h
