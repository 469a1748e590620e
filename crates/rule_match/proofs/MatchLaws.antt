-- The match of a rule that was made ready is the rule's.
-- Assumes nothing.
use Rattle.std.proofs.Common.{◌≡◌, refl, ap, true, List, ℕ, ◌+◌, length, Option, Some, None, option_map, arith}
use Rattle.words.specs.declared.texts.Range.{Range}
use Rattle.syntax.specs.Accessors.{element_at, by_itself, node_in}
use Rattle.syntax.specs.declared.trees.Tree.{Tree}
use Rattle.syntax.specs.Views.{tree_of}
use Rattle.fragments.specs.declared.forms.Side.TheVariants as side
use Rattle.fragments.specs.Pairs as pairs
use Rattle.rule_paths.specs.RulePaths.{tree_at, template_form}
use Rattle.rule_paths.specs.Needs.{PairedRule, paired}
use Rattle.paths.specs.Steps.{SideTree}
use Rattle.captures.specs.declared.State.{State}
use Rattle.captures.specs.Effects.{nothing, Gives}
use Rattle.captures.proofs.AttemptLaws.{gives_failed}
use Rattle.matcher.specs.Matcher.{Matcher, matcher_of}
use Rattle.matcher.specs.declared.Matcher as declared
use Rattle.trees.specs.declared.File.{File as Accepted}
use Rattle.checks.specs.declared.Rules.{Rules}
use Rattle.checks.specs.Given.{File, file_in, found_rule}
use Rattle.rules.specs.declared.numbering.Rule.{Rule}
use Rattle.get_match.specs.Templates.{renders_given}
use Rattle.get_match.specs.GetMatch.{TryGives}
use Rattle.rule_match.specs.Ready.{form_matcher}
use Rattle.rule_match.specs.RuleMatch.{rule_match, found_match, attempt_of}

-- ---- the matcher of a rule and a file

module _ (x : declared.Matcher) (file : Accepted) (node : ℕ) where
  -- the node is one of its file
  pub is_node : x.tree ≡ file.tree → node_in 1 4095 (element_at node (tree_of file.tree)) ≡ true → node_in 1 4095 (element_at node (tree_of x.tree)) ≡ true
  is_node e h = rw e h

  -- what is right for `try_match` of what the code has is right for the rule
  pub matches : (r : PairedRule) (range : Option Range) (pattern : Tree) (template : Option SideTree) (out : List ℕ) (found : Option State) (out' : List ℕ)
      → matcher_of x ≡ form_matcher r.pair r.rule.form (file_in file) → x.tree ≡ file.tree → pattern.words.now ≡ pairs.tree_of side.Pattern r.rule.form r.pair
      → template ≡ option_map (tree_at r.pair side.Template) (template_form r.rule.form r.rule.template)
      → TryGives (matcher_of x) (length pattern.words.now + length x.tree.words.now) (tree_of pattern) range (by_itself (element_at node (tree_of x.tree))) (renders_given template x.facts.now node) out found out'
      → Gives (rule_match r.pair r.rule (file_in file) range node) nothing out found out'
  matches r range pattern template out found out' em et ep en g =
      let ef : x.facts.now ≡ file.facts = ap (λ (y : Matcher). y.facts) em in
      (rw (em, et, ep, en, ef) at g).gives _ (omega arith)

-- ---- the rule of a number

module _ (q : Rules) (f : File) (range : Option Range) (node number : ℕ) (out : List ℕ) where
  pub found_gives : (x : PairedRule) (found : Option State) (out' : List ℕ) → Some x ≡ option_map (paired q) (found_rule q number)
      → Gives (rule_match x.pair x.rule f range node) nothing out found out' → Gives (attempt_of q f range node number) nothing out found out'
  found_gives x found out' e g = go (found_rule q number) e
    where
      go : (r : Option Rule) → Some x ≡ option_map (paired q) r → Gives (found_match q f r range node) nothing out found out'
      go None k = absurd cc
      go (Some r) k = let s : x ≡ paired q r = cc in (rw s at g)

  pub none_gives : None ≡ option_map (paired q) (found_rule q number) → Gives (attempt_of q f range node number) nothing out None out
  none_gives e = go (found_rule q number) e
    where
      go : (r : Option Rule) → None ≡ option_map (paired q) r → Gives (found_match q f r range node) nothing out None out
      go None k = gives_failed nothing out out refl
      go (Some r) k = absurd cc
