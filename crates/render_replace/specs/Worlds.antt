-- What is handed to rendering, and what it shows of each row: its template, told in the module of its node, and its comments.
-- Assumes nothing.
use Rattle.std.specs.Prelude.{ℕ, ◌≤◌, ◌<◌, ◌≡◌, true, false, List, [], map, Option, None, Some, is_some}
use Rattle.errors.specs.Refusals.{ok}
use Rattle.fragments.specs.Pairs.{pairs_in}
use Rattle.rules.specs.Forms.{any}
use Rattle.rule_paths.specs.RulePaths.{pair_fails}
use Rattle.words.specs.declared.texts.Range.{Range}
use Rattle.syntax.specs.Trees.{tree}
use Rattle.syntax.specs.Accessors.{range_of, element_at}
use Rattle.captures.specs.declared.State.{State}
use Rattle.captures.specs.Attempts.{comments_of}
use Rattle.parses.specs.Parses.{Parse, lookup}
use Rattle.rules.specs.declared.numbering.Rule.{Rule}
use Rattle.nester.specs.declared.Row.{Row}
use Rattle.nester.specs.Rows.{row_at}
use Rattle.rows.specs.Rows.{World, count_of, NestedBefore}
use Rattle.checks.specs.declared.Rules.{Rules}
use Rattle.checks.specs.Given.{File, found_rule, is_node_of, rule_trees}
use Rattle.templates.specs.declared.Piece.{Piece}
use Rattle.rule_match.specs.RuleMatch.{found_match}
use Rattle.readying.specs.declared.ReadyTemplate.{ReadyTemplate}
use Rattle.readying.specs.Templates.{found_template, rule_fragments, rule_kind}
use Rattle.readying.specs.Ready.{TemplateOf}

-- "the texts of its noted comments in turn", of a node matched with the rule of a number
abbrev pub noted_comments : Rules → File → Option Range → ℕ → ℕ → List ℕ
noted_comments q f range number node = comments_of (found_match q f (found_rule q number) range node)

-- how many bytes of comments a match that was found noted
abbrev pub noted_in : Option State → ℕ
noted_in None = 0
noted_in (Some s) = s.noted

-- what a job hands to rendering: its rules, its file, the range that matches have to be in, the fact text, the parses, and the rows
pub record Handed : Type 0 where
  pub rules : Rules
  pub file : File
  pub range : Option Range
  pub fact_text : List ℕ
  pub parses : List Parse
  pub rows : List Row

abbrev pub handed_of : Rules → File → Option Range → List ℕ → List Parse → List Row → Handed
handed_of rules file range fact_text parses rows = record {
  rules = rules;
  file = file;
  range = range;
  fact_text = fact_text;
  parses = parses;
  rows = rows;
}

-- the rule of row k, and the comments of its match
abbrev pub rule_of : Handed → ℕ → Option Rule
rule_of h k = found_rule h.rules (row_at h.rows k).rule

abbrev pub comments_in : Handed → ℕ → List ℕ
comments_in h k = noted_comments h.rules h.file h.range (row_at h.rows k).rule (row_at h.rows k).node

-- the rules passed their checks, and every path that must resolve has a fact
pub record Checked (q : Rules) : Type 0 where
  pub trees : rule_trees q ≡ ok
  pub paths : any (map pair_fails (pairs_in q.pairs)) ≡ false

-- the values show a world
pub record Shown (W : World) (h : Handed) : Type 0 where
  pub reads : W.rows ≡ h.rows
  pub few : count_of W ≤ 1024
  pub file : W.file ≡ h.file.text
  pub starts : (k : ℕ) → k < count_of W → W.start_of k ≡ (range_of (element_at (row_at h.rows k).node (tree h.file.words))).start
  pub ends : (k : ℕ) → k < count_of W → W.end_of k ≡ (range_of (element_at (row_at h.rows k).node (tree h.file.words))).end
  pub fragments : (k : ℕ) → k < count_of W → W.fragments k ≡ rule_fragments h.fact_text h.rules (rule_of h k) (row_at h.rows k).«module»
  pub kinds : (k : ℕ) → k < count_of W → W.kind k ≡ rule_kind h.rules (rule_of h k)
  pub comments : (k : ℕ) → k < count_of W → W.comments k ≡ comments_in h k
  pub parse : W.parse ≡ lookup h.parses
  -- each row is of a node, with a rule that has a template
  pub nodes : (k : ℕ) → k < count_of W → is_node_of h.file (row_at h.rows k).node ≡ true
  pub templates : (k : ℕ) → k < count_of W → is_some (found_template h.rules (rule_of h k)) ≡ true
  -- what the row says of those nested in it, and of its comments
  pub nested : (k : ℕ) → k < count_of W → NestedBefore W k (row_at h.rows k).end
  pub last : (k : ℕ) → k < count_of W → (row_at h.rows k).end ≤ count_of W
  pub bare : (k : ℕ) → k < count_of W → (row_at h.rows k).has_comments ≡ false → W.comments k ≡ []

-- a template that is at hand is ready for its rule in its module
abbrev pub AtHand : Rules → Option ReadyTemplate → List Piece → Type 0
AtHand q None pieces = Unit {0}
AtHand q (Some t) pieces = TemplateOf q t.rule t.«module» t pieces
