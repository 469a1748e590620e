-- A template's pieces and what they say, once they are told in a module.
-- Assumes nothing.
use Rattle.std.proofs.Common.{◌≡◌, refl, sym, ap, subst, ◌∙◌, Bool, true, false, cond, List, [], ◌∷◌, map, ℕ, ◌/◌, ◌≤◌, ◌<◌, length, take, get_or, zero, suc, Option, Some, None, IfSome, is_some, option_map, leb, ltb, arith}
use Rattle.std.specs.List.{AllByRecursion}
use borrow.Author.Tests.{ltb-true}
use Rattle.words.specs.Texts.{part}
use Rattle.facts.specs.Facts.{facts_of, fact_index, is_known, place_of, sort_number}
use Rattle.facts.specs.declared.Sort.TheVariants.{TemplatePath}
use Rattle.facts.proofs.FactLaws.{length_facts, known_fact}
use Rattle.fragments.specs.declared.forms.Form.{Form}
use Rattle.fragments.specs.declared.forms.Side.TheVariants.{Template}
use Rattle.fragments.specs.Pairs.{pair_at, pairs_in, code_of, tree_of, facts_of as own_facts}
use Rattle.rule_paths.specs.RulePaths.{pattern_vars, tree_at, template_form}
use Rattle.fragments.specs.Pairs.{Pair}
use Rattle.errors.specs.Refusals.{ok}
use Rattle.rules.specs.declared.numbering.Rule.{Rule}
use Rattle.rules.specs.Forms.{any}
use Rattle.checks.specs.declared.Rules.{Rules}
use Rattle.checks.specs.Given.{rule_trees, found_rule}
use Rattle.paths.proofs.TableLaws.{has_few}
use Rattle.rule_paths.specs.RulePaths.{pair_fails}
use Rattle.rule_paths.specs.Needs.{PairedRule, paired}
use Rattle.rule_paths.proofs.FailLaws.{template_there}
use Rattle.rule_paths.proofs.NeedLaws.{tree_formed, tree_facts}
use Rattle.rule_paths.proofs.LeftLaws.{found_passed, found_left}
use Rattle.templates.specs.declared.Piece.{Piece}
use Rattle.templates.specs.declared.Piece.TheVariants.{Text, Path, Hole}
use Rattle.syntax.specs.Checks.{is_well_formed}
use Rattle.syntax.specs.Siblings.{kind_of}
use Rattle.syntax.proofs.FormedLaws.{formed_is}
use Rattle.readying.specs.declared.ReadyTemplate.{ReadyTemplate}
use Rattle.paths.specs.Steps.{SideTree, root_of}
use Rattle.templates.specs.Pieces.{pieces, AllFit}
use Rattle.templates.proofs.WithinLaws.{pieces_fit}
use Rattle.rendering.specs.Texts.{Fragment, fixed}
use Rattle.readying.specs.Templates.{fragment_of, rule_template, found_template}
use Rattle.readying.specs.Ready.{placed, told, told_fragment, IsLow, Tells}

-- the place of a fact that is there is below how many there are
place_below : (b : Bool) (i n p : ℕ) → ltb i n ≡ b → cond b (Some i) None ≡ Some p → p < n
place_below true i n p e h = let s : i ≡ p = cc in rw (← s) (ltb-true i n e)
place_below false i n p e h = absurd (cc)

pub low_place : (facts : List ℕ) (e «module» p : ℕ) → length facts / 4 ≤ 16383 → place_of TemplatePath e «module» (facts_of facts) ≡ Some p → p < 65536
low_place facts e «module» p few h =
    let l = place_below (is_known (sort_number TemplatePath) e «module» (facts_of facts)) (fact_index (sort_number TemplatePath) e «module» (facts_of facts)) (length (facts_of facts)) p refl h in
    omega (arith, l, length_facts facts, few)

-- a piece says the same, told or not
none_part : (l : List ℕ) → part l 0 0 ≡ []
unfolding part
none_part l = go (leb 0 (length l))
  where
    go : (c : Bool) → cond c (take 0 l) [] ≡ []
    go true = refl
    go false = refl

path_same : (fact_text code facts : List ℕ) (e «module» : ℕ) (b : Bool) → is_known (sort_number TemplatePath) e «module» (facts_of facts) ≡ b
    → told_fragment fact_text code facts (told facts «module» (Path e)) ≡ fragment_of fact_text code facts «module» (Path e)
path_same fact_text code facts e «module» true h = rw h refl
path_same fact_text code facts e «module» false h = rw h (rw (known_fact TemplatePath e «module» facts, h) (ap fixed (none_part code)))

told_same : (fact_text code facts : List ℕ) («module» : ℕ) (p : Piece) → told_fragment fact_text code facts (told facts «module» p) ≡ fragment_of fact_text code facts «module» p
told_same fact_text code facts «module» (Text s e) = refl
told_same fact_text code facts «module» (Path e) = path_same fact_text code facts e «module» (is_known (sort_number TemplatePath) e «module» (facts_of facts)) refl
told_same fact_text code facts «module» (Hole slot b) = refl

pub all_told : (fact_text code facts : List ℕ) («module» : ℕ) (ps : List Piece) → map (told_fragment fact_text code facts) (map (told facts «module») ps) ≡ map (fragment_of fact_text code facts «module») ps
all_told fact_text code facts «module» [] = refl
all_told fact_text code facts «module» (p ∷ ps) = rw (told_same fact_text code facts «module» p, all_told fact_text code facts «module» ps)

-- its placeholders are among eight
low_placed : (o : Option ℕ) → IsLow (placed o)
low_placed None = tt
low_placed (Some p) = tt

low_told : (facts : List ℕ) («module» : ℕ) (bytes n slots : ℕ) → slots ≤ 8 → (ps : List Piece) → AllFit bytes n slots ps → AllByRecursion IsLow (map (told facts «module») ps)
low_told facts «module» bytes n slots few [] f = tt
low_told facts «module» bytes n slots few (Text s e ∷ ps) f = (tt, low_told facts «module» bytes n slots few ps f.1)
low_told facts «module» bytes n slots few (Path i ∷ ps) f = (low_placed (place_of TemplatePath i «module» (facts_of facts)), low_told facts «module» bytes n slots few ps f.1)
low_told facts «module» bytes n slots few (Hole slot b ∷ ps) f = let h : slot < slots = f.0 in (omega arith, low_told facts «module» bytes n slots few ps f.1)

-- a template's tree whose pieces were laid and told
module _ (t : SideTree) («module» : ℕ) (formed : is_well_formed t.words ≡ true) (few : length t.side.placeholders.vars ≤ 8) where
  low_pieces : AllByRecursion IsLow (map (told t.side.facts «module») (pieces t.side (root_of t)))
  low_pieces =
      let w = formed_is t.words formed in
      low_told t.side.facts «module» w.bytes (length t.words / 3) (length t.side.placeholders.vars) few (pieces t.side (root_of t))
      (pieces_fit t.side w.bytes t.words w.small w.few w.is)

  pub tells_tree : (made : ReadyTemplate) (table : List Piece) → made.count ≤ length table → take made.count table ≡ map (told t.side.facts «module») (pieces t.side (root_of t))
      → made.code.now ≡ t.side.code → made.facts.now ≡ t.side.facts → made.kind ≡ kind_of (root_of t) → Tells (Some t) «module» made table
  tells_tree made table within e c f k = record {
    kind = k;
    within = within;
    low = rw e low_pieces;
    fragments = λ fact_text. rw (e, c, f) (all_told fact_text t.side.code t.side.facts «module» (pieces t.side (root_of t)));
  }

tree_there : (r : PairedRule) (f : Form) (t : SideTree) → template_form r.rule.form r.rule.template ≡ Some f → rule_template r ≡ Some t → tree_at r.pair Template f ≡ t
tree_there r f t h e = let s : Some (tree_at r.pair Template f) ≡ Some t = sym (ap (option_map (tree_at r.pair Template)) h) ∙ e in cc

-- the template's tree of a rule, whose pieces were laid and told
pub tells_rule : (r : PairedRule) (f : Form) (t : SideTree) («module» : ℕ) → template_form r.rule.form r.rule.template ≡ Some f → rule_template r ≡ Some t
    → is_well_formed t.words ≡ true → length (pattern_vars r.pair) ≤ 8 → (made : ReadyTemplate) (table : List Piece) → made.count ≤ length table
    → take made.count table ≡ map (told t.side.facts «module») (pieces t.side (root_of t)) → made.code.now ≡ code_of Template r.pair → made.facts.now ≡ own_facts Template f r.pair
    → made.kind ≡ kind_of (root_of t) → Tells (rule_template r) «module» made table
tells_rule r f t «module» h e formed few made table within laid c d k =
    let s = tree_there r f t h e in
    rw e (tells_tree t «module» formed (rw (← s) few) made table within laid (c ∙ ap (λ (u : SideTree). u.side.code) s) (d ∙ ap (λ (u : SideTree). u.side.facts) s) k)

-- the rule that was found has few facts at its template's tree
module _ (q : Rules) (number : ℕ) (trees : rule_trees q ≡ ok) (good : any (map pair_fails (pairs_in q.pairs)) ≡ false) where
  few_found : (r : Rule) → found_rule q number ≡ Some r → IfSome (rule_template (paired q r)) (λ t. length t.side.facts / 4 ≤ 16383)
  few_found r h = by (template_form r.form r.template) refl
    where
      p : Pair
      p = pair_at r.pair q.pairs

      by : (o : Option Form) → template_form r.form r.template ≡ o → IfSome (option_map (tree_at p Template) o) (λ t. length t.side.facts / 4 ≤ 16383)
      by None e = tt
      by (Some f) e =
          let l = found_left q number r h good in
          let there = template_there p r.form f (ap (template_form r.form) (sym l.tree) ∙ e) in
          let passed = found_passed q number r h trees in
          has_few (tree_of Template f p) (own_facts Template f p) (tree_formed q.fact_bytes p Template f passed there) (tree_facts q.fact_bytes p Template f passed there)

  few_at : (o : Option Rule) → found_rule q number ≡ o → (r : PairedRule) → option_map (paired q) o ≡ Some r → IfSome (rule_template r) (λ t. length t.side.facts / 4 ≤ 16383)
  few_at None h r e = absurd (cc)
  few_at (Some x) h r e = let s : paired q x ≡ r = cc in subst (λ (y : PairedRule). IfSome (rule_template y) (λ t. length t.side.facts / 4 ≤ 16383)) s (few_found x h)

  pub few_facts : (r : PairedRule) → option_map (paired q) (found_rule q number) ≡ Some r → IfSome (rule_template r) (λ t. length t.side.facts / 4 ≤ 16383)
  few_facts r e = few_at (found_rule q number) refl r e

-- it has the template that is found
template_at : (q : Rules) (o : Option Rule) (r : PairedRule) → option_map (paired q) o ≡ Some r → found_template q o ≡ rule_template r
template_at q None r e = absurd (cc)
template_at q (Some x) r e = let s : paired q x ≡ r = cc in ap rule_template s

pub template_is : (q : Rules) (number : ℕ) (r : PairedRule) → option_map (paired q) (found_rule q number) ≡ Some r → found_template q (found_rule q number) ≡ rule_template r
template_is q number r e = template_at q (found_rule q number) r e

rule_at_hand : (q : Rules) (o : Option Rule) → is_some (found_template q o) ≡ true → is_some (option_map (paired q) o) ≡ true
rule_at_hand q None h = h
rule_at_hand q (Some x) h = refl

pub rule_is_there : (q : Rules) (number : ℕ) → is_some (found_template q (found_rule q number)) ≡ true → is_some (option_map (paired q) (found_rule q number)) ≡ true
rule_is_there q number h = rule_at_hand q (found_rule q number) h

-- the fragment of a number is that of its piece, whose placeholder is one of eight
pub told_get : (fact_text code facts : List ℕ) (ps : List Piece) (i : ℕ) (d : Fragment) (e : Piece) → i < length ps
    → get_or (map (told_fragment fact_text code facts) ps) i d ≡ told_fragment fact_text code facts (get_or ps i e)
told_get fact_text code facts [] i d e h = absurd (omega arith)
told_get fact_text code facts (p ∷ ps) zero d e h = refl
told_get fact_text code facts (p ∷ ps) (suc i) d e h = told_get fact_text code facts ps i d e (omega arith)

pub low_get : (ps : List Piece) (i : ℕ) (e : Piece) → AllByRecursion IsLow ps → i < length ps → IsLow (get_or ps i e)
low_get [] i e a h = absurd (omega arith)
low_get (p ∷ ps) zero e a h = a.0
low_get (p ∷ ps) (suc i) e a h = low_get ps i e a.1 (omega arith)
