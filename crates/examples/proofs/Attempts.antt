-- The attempt of a rule over both trees and its template's tree, which are decoded once.
-- Assumes nothing.
use Prim.Native.Nat.{ℕ, zero, suc}
use mathlib.Core.Path.{◌≡◌, refl, ap, ap₂, ◌∙◌}
use mathlib.Core.Bool.{Bool, true, ◌&&◌, ◌||◌, not}
use mathlib.Core.List.{List}
use Rattle.std.specs.Prelude.{Option, Some, None, is_some}
use Rattle.words.specs.declared.texts.Range.{Range}
use Rattle.syntax.specs.Trees.{Elems, size}
use Rattle.syntax.specs.Accessors.{element_at, by_itself}
use Rattle.facts.specs.declared.Sort.TheVariants.{Node, TemplatePath}
use Rattle.fragments.specs.declared.forms.Side.TheVariants.{Pattern}
use Rattle.fragments.specs.Pairs.{Pair, pair_at, tree_of}
use Rattle.paths.specs.Steps.{Side, SideTree, root_of}
use Rattle.paths.specs.Resolved.{refers_to_definition}
use Rattle.rules.specs.declared.numbering.Rule.{Rule}
use Rattle.rule_paths.specs.RulePaths.{side_at}
use Rattle.captures.specs.Attempts.{Attempt, failed}
use Rattle.matcher.specs.FileFacts.{the_fact, module_of}
use Rattle.matcher.specs.Tokens.{comma_sheet}
use Rattle.prepared.specs.Rules.{matcher_for}
use Rattle.get_match.specs.Templates.{renders_below, renders_given}
use Rattle.get_match.specs.GetMatch.{try_match}
use Rattle.checks.specs.declared.Rules.{Rules}
use Rattle.checks.specs.Given.{File}
use Rattle.rule_match.specs.RuleMatch.{calls, found_match}
use Rattle.readying.specs.Templates.{found_template}
use Rattle.examples.proofs.Decoding.{decoded_tree, tree_is}

-- whether a template's paths can be rendered, over its tree, decoded once
abbrev renders_over : ℕ → Side → Elems → ℕ → Bool
renders_over zero x root «module» = true
renders_over (suc e) x root «module» =
    renders_over e x root «module» && (not (refers_to_definition x root e) || is_some (the_fact x.facts TemplatePath e «module»))

below_is : (n : ℕ) (t : SideTree) («module» : ℕ) → renders_below n t «module» ≡ renders_over n t.side (root_of t) «module»
unfolding renders_below
below_is zero t «module» = refl
below_is (suc e) t «module» = rw (below_is e t «module»)

abbrev given_over : Option SideTree → List ℕ → ℕ → Bool
given_over None facts n = true
given_over (Some t) facts n =
    let root = decoded_tree t.words in
    is_some (the_fact facts Node n 0) && renders_over (size root) t.side root (module_of facts n)

given_is : (template : Option SideTree) (facts : List ℕ) (n : ℕ) → renders_given template facts n ≡ given_over template facts n
given_is None facts n = refl
given_is (Some t) facts n = rw (below_is (size (root_of t)) t (module_of facts n), tree_is t.words)

module _ (q : Rules) (f : File) (range : Option Range) where
  abbrev pair_of : Rule → Pair
  pair_of r = pair_at r.pair q.pairs

  abbrev match_by : Rule → ℕ → Elems → Elems → Bool → Attempt
  match_by r n root tree is_rendered =
      try_match (calls (pair_of r) r.form f) (matcher_for (side_at (pair_of r) Pattern r.form) root f.text tree f.facts comma_sheet) root range
      (by_itself (element_at n tree)) is_rendered

  -- of the rule that was found, if any
  abbrev pub match_over : Option Rule → ℕ → Attempt
  match_over None n = failed
  match_over (Some r) n =
      match_by r n (decoded_tree (tree_of Pattern r.form (pair_of r))) (decoded_tree f.words) (given_over (found_template q (Some r)) f.facts n)

  pub match_is : (found : Option Rule) (n : ℕ) → found_match q f found range n ≡ match_over found n
  match_is None n = refl
  match_is (Some r) n =
      let root = tree_of Pattern r.form (pair_of r) in
      let template = found_template q (Some r) in
      ap₂ (λ root tree. match_by r n root tree (renders_given template f.facts n)) (tree_is root) (tree_is f.words)
      ∙ ap (match_by r n (decoded_tree root) (decoded_tree f.words)) (given_is template f.facts n)
