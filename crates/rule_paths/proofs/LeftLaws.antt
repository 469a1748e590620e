-- A rule of a number is one of those left, its trees resolve, and its pair passed its checks.
-- Assumes nothing.
use Rattle.std.proofs.Common.{◌≡◌, refl, sym, ◌∙◌, Bool, true, false, List, [], ◌∷◌, map, ℕ, zero, suc, ◌+◌, ◌-◌, ◌≤◌, ◌<◌, length, take, Option, Some, None, Ok, slice_get, arith}
use Rattle.std.specs.List.{AllByRecursion}
use Rattle.errors.specs.Refusals.{ok}
use Rattle.words.proofs.TestLaws.{or_neither}
use Rattle.fragments.specs.declared.forms.Form.{Form}
use Rattle.fragments.specs.declared.forms.Form.TheVariants as form
use Rattle.fragments.specs.declared.forms.Side.TheVariants as side
use Rattle.fragments.specs.Forms.{five}
use Rattle.fragments.specs.Directory.{row_count}
use Rattle.fragments.specs.Pairs.{Pair, first_pair, next_pair, pairs_from, pair_behind, pair_at, pairs_in}
use Rattle.rules.specs.declared.numbering.Rule.{Rule}
use Rattle.rules.specs.declared.stages.Stage.{Stage}
use Rattle.rules.specs.declared.stages.Stage.TheVariants.{Trees}
use Rattle.rules.specs.Forms.{template_tree, any, is_left, forms_left}
use Rattle.rules.specs.Stages.{pair_stage, stage_outcome}
use Rattle.rules.specs.Numbering.{rule_of, rules_from, rules}
use Rattle.rules.proofs.FormLaws.{passing_hold}
use Rattle.rules.proofs.StageLaws.{stage_both}
use Rattle.rules.proofs.RuleLaws.{at_here, at_behind, at_none}
use Rattle.checks.specs.declared.Rules.{Rules}
use Rattle.checks.specs.Given.{rule_trees, found_rule}
use Rattle.paths.specs.Resolved.{resolving}
use Rattle.rule_paths.specs.RulePaths.{tree_at, tree_fails, template_form, template_fails, rule_fails, form_fails, pair_fails}
use Rattle.rule_paths.specs.Needs.{Passed, IsLeft}
use Rattle.rule_paths.proofs.FailLaws.{template_in}

-- what holds of all holds of the one at a place
all_get : {A : Type 0} (P : A → Type 0) (l : List A) (i : ℕ) (x : A) → AllByRecursion P l → slice_get l i ≡ Some x → P x
all_get P [] i x a h = absurd cc
all_get P (y ∷ ys) zero x a h = let e : y ≡ x = cc in (rw e at a.0)
all_get P (y ∷ ys) (suc i) x a h = all_get P ys i x a.1 h

stage_get : (stage : Stage) (ps : List Pair) (i : ℕ) (p : Pair) → stage_outcome stage ps ≡ ok → slice_get ps i ≡ Some p → pair_stage stage p ≡ ok
stage_get stage [] i p a h = absurd cc
stage_get stage (y ∷ ys) zero p a h = let e : y ≡ p = cc in (rw e at (stage_both stage y ys a).0)
stage_get stage (y ∷ ys) (suc i) p a h = stage_get stage ys i p (stage_both stage y ys a).1 h

good_get : (ps : List Pair) (i : ℕ) (p : Pair) → any (map pair_fails ps) ≡ false → slice_get ps i ≡ Some p → pair_fails p ≡ false
good_get [] i p a h = absurd cc
good_get (y ∷ ys) zero p a h = let e : y ≡ p = cc in (rw e at (or_neither (pair_fails y) (any (map pair_fails ys)) a).0)
good_get (y ∷ ys) (suc i) p a h = good_get ys i p (or_neither (pair_fails y) (any (map pair_fails ys)) a).1 h

behind_get : (n i : ℕ) (p x : Pair) → slice_get (pairs_from n p) i ≡ Some x → pair_behind i p ≡ x
unfolding pairs_from pair_behind
behind_get zero i p x h = absurd cc
behind_get (suc n) zero p x h = cc
behind_get (suc n) (suc i) p x h = behind_get n i (next_pair p) x h

-- the rule of a number is one of its pair's that are left
record Found (k : ℕ) (ps : List Pair) (r : Rule) : Type 0 where
  pair : Pair
  from : k ≤ r.pair
  at : slice_get ps (r.pair - k) ≡ Some pair
  left : is_left pair r.form ≡ true
  tree : r.template ≡ template_tree pair r.form

found_here : (k : ℕ) (p : Pair) (ps : List Pair) (q : ℕ) (r : Rule) (f : Form) → slice_get (rules_from k (p ∷ ps)) q ≡ Some r → slice_get (forms_left p) q ≡ Some f → Found k (p ∷ ps) r
found_here k p ps q r f h e =
    let same : rule_of k p f ≡ r = (let s = sym (at_here k p ps q f e) ∙ h in cc) in
    let z : k - k ≡ 0 = omega arith in
    rw (← same) (record {
      pair = p;
      from = omega arith;
      at = rw z refl;
      left = all_get (λ g. is_left p g ≡ true) (forms_left p) q f (passing_hold (is_left p) (five (λ g. g))) e;
      tree = refl;
    })

found_further : (k : ℕ) (p : Pair) (ps : List Pair) (r : Rule) → Found (k + 1) ps r → Found k (p ∷ ps) r
found_further k p ps r x =
    let e : r.pair - k ≡ suc (r.pair - (k + 1)) = omega (arith, x.from) in
    record { pair = x.pair; from = omega (arith, x.from); at = rw e x.at; left = x.left; tree = x.tree }

found_by : (k : ℕ) (p : Pair) (ps : List Pair) (q : ℕ) (r : Rule) → (slice_get (rules_from (k + 1) ps) (q - length (forms_left p)) ≡ Some r → Found (k + 1) ps r)
    → slice_get (rules_from k (p ∷ ps)) q ≡ Some r → (o : Option Form) → slice_get (forms_left p) q ≡ o → Found k (p ∷ ps) r
found_by k p ps q r further h (Some f) e = found_here k p ps q r f h e
found_by k p ps q r further h None e = found_further k p ps r (further (sym (at_behind k p ps q e) ∙ h))

found : (ps : List Pair) (k q : ℕ) (r : Rule) → slice_get (rules_from k ps) q ≡ Some r → Found k ps r
found [] k q r h = absurd (let e = sym (at_none k q) ∙ h in cc)
found (p ∷ ps) k q r h = found_by k p ps q r (found ps (k + 1) (q - length (forms_left p)) r) h (slice_get (forms_left p) q) refl

module _ (q : Rules) (number : ℕ) (r : Rule) (h : found_rule q number ≡ Some r) where
  one : Found 0 (pairs_in q.pairs) r
  one = found (pairs_in q.pairs) 0 number r h

  there : slice_get (pairs_in q.pairs) r.pair ≡ Some one.pair
  there = let e : r.pair - 0 ≡ r.pair = omega arith in (rw e at one.at)

  same : pair_at r.pair q.pairs ≡ one.pair
  same = behind_get (row_count q.pairs.directory) r.pair (first_pair q.pairs) one.pair there

  pub found_passed : rule_trees q ≡ ok → Passed q.fact_bytes (pair_at r.pair q.pairs)
  found_passed t = rw same (stage_get (Trees (Some q.fact_bytes)) (pairs_in q.pairs) r.pair one.pair t there)

  pub found_left : any (map pair_fails (pairs_in q.pairs)) ≡ false → IsLeft (pair_at r.pair q.pairs) r
  found_left g = rw same (record { left = one.left; tree = one.tree; good = good_get (pairs_in q.pairs) r.pair one.pair g there })

-- a form's tests by those of all five
any_five : (t : Form → Bool) (f : Form) → any (five t) ≡ false → t f ≡ false
any_five t form.Expression h = (or_neither (t form.Expression) _ h).0
any_five t form.Type h = (or_neither (t form.Type) _ (or_neither (t form.Expression) _ h).1).0
any_five t form.Item h = (or_neither (t form.Item) _ (or_neither (t form.Type) _ (or_neither (t form.Expression) _ h).1).1).0
any_five t form.Pattern h = (or_neither (t form.Pattern) _ (or_neither (t form.Item) _ (or_neither (t form.Type) _ (or_neither (t form.Expression) _ h).1).1).1).0
any_five t form.Statement h =
    (or_neither (t form.Statement) _ (or_neither (t form.Pattern) _ (or_neither (t form.Item) _ (or_neither (t form.Type) _ (or_neither (t form.Expression) _ h).1).1).1).1).0

-- the trees of a rule that is left resolve
module _ (p : Pair) (r : Rule) (l : IsLeft p r) where
  rule_good : rule_fails p r.form ≡ false
  unfolding pair_fails
  rule_good = let e = any_five (form_fails p) r.form l.good in (rw l.left at e)

  pub pattern_good : tree_fails p side.Pattern r.form ≡ false
  pattern_good = (or_neither (template_fails p r.form (template_tree p r.form)) (tree_fails p side.Pattern r.form) rule_good).1

  pub template_good : (f : Form) → template_form r.form r.template ≡ Some f → tree_fails p side.Template f ≡ false
  template_good f h =
      let g = (or_neither (template_fails p r.form (template_tree p r.form)) (tree_fails p side.Pattern r.form) rule_good).0 in
      sym (template_in p r.form f r.template h) ∙ rw l.tree g

  pub pattern_resolves : resolving (tree_at p side.Pattern r.form) ≡ Ok (tree_at p side.Pattern r.form)
  pattern_resolves = rw pattern_good

  pub template_resolves : (f : Form) → template_form r.form r.template ≡ Some f → resolving (tree_at p side.Template f) ≡ Ok (tree_at p side.Template f)
  template_resolves f h = rw (template_good f h)

-- the rule of a number that is among those kept
get_taken : {X : Type 0} (n : ℕ) (l : List X) (i : ℕ) → i < n → slice_get (take n l) i ≡ slice_get l i
get_taken zero l i h = absurd (omega (arith, h))
get_taken (suc n) [] i h = refl
get_taken (suc n) (x ∷ l) zero h = refl
get_taken (suc n) (x ∷ l) (suc i) h = get_taken n l i (omega (arith, h))

pub kept_rule : (q : Rules) (first : List Rule) (number : ℕ) → first ≡ take 16 (rules (pairs_in q.pairs)) → number < 16 → slice_get first number ≡ found_rule q number
kept_rule q first number e h = rw e (get_taken 16 (rules (pairs_in q.pairs)) number h)
