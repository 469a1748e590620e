-- What a rule's template renders in a module: `render_template_paths` of docs/src/src/matching.rs tells each path in the matched node's module.
-- Document 01: "6 node, module; 7 template path, module, text start, text length in a fact text".
-- Assumes nothing.
use Rattle.std.specs.Prelude.{ℕ, ◌+◌, List, [], map, Option, Some, None, option_map}
use Rattle.words.specs.Texts.{part}
use Rattle.syntax.specs.Siblings.{kind_of}
use Rattle.facts.specs.declared.Fact.{Fact}
use Rattle.facts.specs.declared.Sort.TheVariants.{TemplatePath}
use Rattle.facts.specs.Facts.{facts_of, fact_by}
use Rattle.fragments.specs.declared.forms.Side.TheVariants.{Template}
use Rattle.paths.specs.Steps.{SideTree, root_of}
use Rattle.rules.specs.declared.numbering.Rule.{Rule}
use Rattle.rule_paths.specs.RulePaths.{tree_at, template_form}
use Rattle.rule_paths.specs.Needs.{PairedRule, paired}
use Rattle.checks.specs.declared.Rules.{Rules}
use Rattle.templates.specs.declared.Piece.{Piece}
use Rattle.templates.specs.declared.Piece.TheVariants.{Text, Path, Hole}
use Rattle.templates.specs.Pieces.{pieces}
use Rattle.rendering.specs.Texts.{Fragment, fixed, captured}

-- the text that a fact has in a fact text
abbrev pub fact_text_of : List ℕ → Option Fact → List ℕ
fact_text_of fact_text None = []
fact_text_of fact_text (Some f) = part fact_text f.second (f.second + f.third)

-- the text of a template's path in a module
abbrev pub path_text : List ℕ → List ℕ → ℕ → ℕ → List ℕ
path_text fact_text facts «module» e = fact_text_of fact_text (fact_by TemplatePath e «module» (facts_of facts))

-- a piece of a template, whose code and facts these are
abbrev pub fragment_of : List ℕ → List ℕ → List ℕ → ℕ → Piece → Fragment
fragment_of fact_text code facts «module» (Text s e) = fixed (part code s e)
fragment_of fact_text code facts «module» (Path e) = fixed (path_text fact_text facts «module» e)
fragment_of fact_text code facts «module» (Hole slot is_receiver) = captured slot is_receiver

abbrev pub template_fragments : List ℕ → SideTree → ℕ → List Fragment
template_fragments fact_text t «module» = map (fragment_of fact_text t.side.code t.side.facts «module») (pieces t.side (root_of t))

-- the template's tree of a rule with its pair, and of the rule that was found
abbrev pub rule_template : PairedRule → Option SideTree
rule_template r = option_map (tree_at r.pair Template) (template_form r.rule.form r.rule.template)

abbrev pub found_template : Rules → Option Rule → Option SideTree
found_template q None = None
found_template q (Some r) = rule_template (paired q r)

-- its fragments, and the kind of its root
abbrev pub tree_fragments : List ℕ → Option SideTree → ℕ → List Fragment
tree_fragments fact_text None «module» = []
tree_fragments fact_text (Some t) «module» = template_fragments fact_text t «module»

abbrev pub rule_fragments : List ℕ → Rules → Option Rule → ℕ → List Fragment
rule_fragments fact_text q found «module» = tree_fragments fact_text (found_template q found) «module»

abbrev pub tree_kind : Option SideTree → ℕ
tree_kind None = 0
tree_kind (Some t) = kind_of (root_of t)

abbrev pub rule_kind : Rules → Option Rule → ℕ
rule_kind q found = tree_kind (found_template q found)
