-- The matcher of a rule and a file, and what a rule made ready has of it.
-- Assumes nothing.
use Rattle.std.specs.Prelude.{ℕ, ◌≡◌, List, Option, option_map}
use Rattle.syntax.specs.Trees.{Elems, tree}
use Rattle.fragments.specs.declared.forms.Side.TheVariants as side
use Rattle.fragments.specs.declared.forms.Form.{Form}
use Rattle.fragments.specs.Pairs.{Pair, code_of, tree_of}
use Rattle.paths.specs.Steps.{SideTree}
use Rattle.rule_paths.specs.RulePaths.{pattern_vars, side_at, tree_at, template_form}
use Rattle.rule_paths.specs.Needs.{PairedRule}
use Rattle.matcher.specs.declared.marks.Mark.{Mark}
use Rattle.matcher.specs.declared.marks.Limit.{Limit}
use Rattle.matcher.specs.Matcher.{Matcher}
use Rattle.matcher.specs.Tokens.{comma_sheet}
use Rattle.prepared.specs.Rules.{Marked, Limited, matcher_for}
use Rattle.checks.specs.Given.{File}

-- the tree of a form's pattern
abbrev pub pattern_root : Pair → Form → Elems
pattern_root p form = tree (tree_of side.Pattern form p)

-- the matcher of a form's rule
abbrev pub form_matcher : Pair → Form → File → Matcher
form_matcher p form f = matcher_for (side_at p side.Pattern form) (pattern_root p form) f.text (tree f.words) f.facts comma_sheet

-- the pattern has its marks, its placeholders their limits, and the template, if there is one, was resolved
pub record Ready (x : PairedRule) (pattern code : List ℕ) (marks : List Mark) (limits : List Limit) (template : Option SideTree) : Type 0 where
  pub pattern_is : pattern ≡ tree_of side.Pattern x.rule.form x.pair
  pub code_is : code ≡ code_of side.Pattern x.pair
  pub marked : Marked (side_at x.pair side.Pattern x.rule.form) (pattern_root x.pair x.rule.form) marks
  pub limited : Limited (pattern_vars x.pair) limits
  pub template_is : template ≡ option_map (tree_at x.pair side.Template) (template_form x.rule.form x.rule.template)
