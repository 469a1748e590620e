-- Which trees a rule has, and where one of them fails.
-- Assumes nothing.
use Rattle.std.proofs.Common.{◌≡◌, refl, sym, ◌∙◌, Bool, true, false, cond, ◌&&◌, ◌||◌, List, [], ◌∷◌, Some, None}
use Rattle.std.specs.List.{list_any, AllByRecursion}
use Rattle.fragments.specs.declared.forms.Side.TheVariants as side
use Rattle.fragments.specs.declared.forms.Form.{Form}
use Rattle.fragments.specs.declared.forms.Form.TheVariants as form
use Rattle.fragments.specs.Pairs.{Pair, is_given, is_present}
use Rattle.fragments.specs.Forms.{five}
use Rattle.rules.specs.declared.forms.TemplateTree.{TemplateTree}
use Rattle.rules.specs.declared.forms.TemplateTree.TheVariants.{Absent, Own, StandIn, Missing}
use Rattle.rules.specs.Forms.{template_tree, is_there, has_path, has_path_rule, is_left, forms_left}
use Rattle.rules.proofs.FormLaws.{passing_hold, any_passing}
use Rattle.rule_paths.specs.RulePaths.{template_form, tree_fails, template_fails, rule_fails, pair_fails, unresolved_if}
use Rattle.errors.specs.declared.Refusal.{Refusal}
use Rattle.errors.specs.Refusals.{ok, err}
use Rattle.errors.proofs.Laws.{refused_not}

-- the form of the template's tree of a rule is there
module _ (t : Form → Bool) (f x : Form) where
  own_there : (g a : Bool) → t f ≡ a → template_form f (cond g (cond a Own Missing) Absent) ≡ Some x → t x ≡ true
  own_there false a e h = absurd (cc)
  own_there true true e h = cc
  own_there true false e h = absurd (cc)

  stand_in_there : (g a b : Bool) → t f ≡ a → t form.Statement ≡ b → template_form f (cond g (cond a Own (cond b StandIn Missing)) Absent) ≡ Some x → t x ≡ true
  stand_in_there false a b e k h = absurd (cc)
  stand_in_there true true b e k h = cc
  stand_in_there true false true e k h = cc
  stand_in_there true false false e k h = absurd (cc)

pub template_there : (p : Pair) (f x : Form) → template_form f (template_tree p f) ≡ Some x → is_present side.Template x p ≡ true
template_there p form.Expression x h = stand_in_there (λ y. is_present side.Template y p) form.Expression x (is_given side.Template p) (is_present side.Template form.Expression p) (is_present side.Template form.Statement p) refl refl h
template_there p form.Type x h = own_there (λ y. is_present side.Template y p) form.Type x (is_given side.Template p) (is_present side.Template form.Type p) refl h
template_there p form.Item x h = own_there (λ y. is_present side.Template y p) form.Item x (is_given side.Template p) (is_present side.Template form.Item p) refl h
template_there p form.Pattern x h = own_there (λ y. is_present side.Template y p) form.Pattern x (is_given side.Template p) (is_present side.Template form.Pattern p) refl h
template_there p form.Statement x h = own_there (λ y. is_present side.Template y p) form.Statement x (is_given side.Template p) (is_present side.Template form.Statement p) refl h

-- and fails where the template does; without one nothing fails
pub template_in : (p : Pair) (f x : Form) (t : TemplateTree) → template_form f t ≡ Some x → template_fails p f t ≡ tree_fails p side.Template x
template_in p f x Absent h = absurd (cc)
template_in p f x Own h = cc
template_in p f x StandIn h = cc
template_in p f x Missing h = absurd (cc)

pub no_template : (p : Pair) (f : Form) (t : TemplateTree) → template_form f t ≡ None → template_fails p f t ≡ false
no_template p f Absent h = refl
no_template p f Own h = absurd (cc)
no_template p f StandIn h = absurd (cc)
no_template p f Missing h = refl

-- a rule that is left has its pattern's tree
left_of : (h a t c : Bool) → cond h ((a && t) && c) (a && t) ≡ true → a ≡ true
left_of true true t c h = refl
left_of true false t c h = h
left_of false true t c h = refl
left_of false false t c h = h

pub left_there : (p : Pair) (f : Form) → is_left p f ≡ true → is_present side.Pattern f p ≡ true
left_there p f h = left_of (has_path_rule p) (is_present side.Pattern f p) (is_there (template_tree p f)) (has_path p f) h

-- two tests in turn
pub fails_first : (a b : Bool) → (unresolved_if a ≡ ok → ⊥) → unresolved_if (a || b) ≡ unresolved_if a
fails_first true b h = refl
fails_first false b h = absurd (h refl)

pub passes_on : (a b : Bool) → unresolved_if a ≡ ok → unresolved_if (a || b) ≡ unresolved_if b
passes_on true b h = absurd (refused_not h)
passes_on false b h = refl

pub none_fails : (a : Bool) → ok ≡ unresolved_if a → a ≡ false
none_fails true h = absurd (refused_not (sym h))
none_fails false h = refl

-- the rules of a pair, of which some are left to be looked at
pub record Ahead (p : Pair) (forms : List Form) : Type 0 where
  pub same : list_any (rule_fails p) forms ≡ pair_fails p
  pub left : AllByRecursion (λ f. is_left p f ≡ true) forms

pub all_ahead : (p : Pair) → Ahead p (forms_left p)
unfolding pair_fails
all_ahead p = record { same = any_passing (is_left p) (rule_fails p) (five (λ f. f)); left = passing_hold (is_left p) (five (λ f. f)) }

module _ (p : Pair) (f : Form) (forms : List Form) (a : Ahead p (f ∷ forms)) where
  pub next_there : is_present side.Pattern f p ≡ true
  next_there = left_there p f a.left.0

  pub next_ahead : ok ≡ unresolved_if (rule_fails p f) → Ahead p forms
  next_ahead h = record { same = let e = none_fails (rule_fails p f) h in (rw e at a.same); left = a.left.1 }

  pub next_fails : (r : Refusal) → err r ≡ unresolved_if (rule_fails p f) → err r ≡ unresolved_if (pair_fails p)
  next_fails r h = go (rule_fails p f) refl
    where
      go : (b : Bool) → rule_fails p f ≡ b → err r ≡ unresolved_if (pair_fails p)
      go true e = h ∙ rw (e, ← a.same, e)
      go false e = absurd (refused_not (h ∙ rw e))

pub none_ahead : (p : Pair) → Ahead p [] → ok ≡ unresolved_if (pair_fails p)
none_ahead p a = rw (← a.same)
