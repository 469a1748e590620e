-- One node of a file with one rule, document 01, "Modules", 5: `get_match`.
-- Assumes nothing.
use Rattle.std.specs.Prelude.{ℕ, ◌+◌, ◌*◌, Bool, length, Option, Some, None, option_map}
use Rattle.words.specs.declared.texts.Range.{Range}
use Rattle.syntax.specs.Trees.{tree}
use Rattle.syntax.specs.Accessors.{element_at, by_itself}
use Rattle.fragments.specs.declared.forms.Side.TheVariants as side
use Rattle.fragments.specs.declared.forms.Form.{Form}
use Rattle.fragments.specs.Pairs.{Pair, pair_at, tree_of}
use Rattle.rules.specs.declared.forms.TemplateTree.{TemplateTree}
use Rattle.rules.specs.declared.numbering.Rule.{Rule}
use Rattle.rule_paths.specs.RulePaths.{tree_at, template_form}
use Rattle.captures.specs.Attempts.{Attempt, failed}
use Rattle.get_match.specs.Templates.{renders_given}
use Rattle.get_match.specs.GetMatch.{try_match}
use Rattle.checks.specs.declared.Rules.{Rules}
use Rattle.checks.specs.Given.{File, found_rule}
use Rattle.rule_match.specs.Ready.{pattern_root, form_matcher}

-- the template that the rule has, if any, can be rendered where the node was matched
abbrev pub template_renders : Pair → Form → TemplateTree → File → ℕ → Bool
template_renders p form template f node = renders_given (option_map (tree_at p side.Template) (template_form form template)) f.facts node

-- a number of calls that is enough for the tree of a form's rule and the file's
abbrev pub calls : Pair → Form → File → ℕ
calls p form f = 5 * (length (tree_of side.Pattern form p) + length f.words) + 3

abbrev pub rule_match : Pair → Rule → File → Option Range → ℕ → Attempt
rule_match p r f range node =
    try_match (calls p r.form f) (form_matcher p r.form f) (pattern_root p r.form) range (by_itself (element_at node (tree f.words)))
    (template_renders p r.form r.template f node)

-- the match of the rule that was found
abbrev pub found_match : Rules → File → Option Rule → Option Range → ℕ → Attempt
found_match q f None range node = failed
found_match q f (Some r) range node = rule_match (pair_at r.pair q.pairs) r f range node

-- the attempt of a node with the rule of a number
abbrev pub attempt_of : Rules → File → Option Range → ℕ → ℕ → Attempt
attempt_of q f range n r = found_match q f (found_rule q r) range n
