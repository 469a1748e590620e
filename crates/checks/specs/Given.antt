-- What is given: rules and a file. Document 01, "Refusals by operation": "A rule is handed over as its token lists with their trees, so 1 to
-- 15 come first wherever rules are given, and 17 stands after 18 to 21 and before 22. Where several lists, rules or trees refuse, the lowest
-- of their numbers is given."
-- Assumes nothing.
use Rattle.std.specs.Prelude.{ℕ, Bool, false, not, List, [], ◌∷◌, ltb, Option, Some, None}
use Rattle.words.specs.declared.texts.Range.{Range}
use Rattle.errors.specs.Refusals.{Outcome}
use Rattle.errors.specs.Refusals.{lowest_of, in_turn}
use Rattle.syntax.specs.Trees.{tree}
use Rattle.syntax.specs.Accessors.{element_at, node_in}
use Rattle.trees.specs.declared.GivenFile.{GivenFile}
use Rattle.trees.specs.declared.File.{File as Accepted}
use Rattle.trees.specs.Given.{file_outcome}
use Rattle.fragments.specs.Pairs.{pairs_of, pairs_in}
use Rattle.rules.specs.declared.stages.Stage.{Stage}
use Rattle.rules.specs.declared.stages.Stage.TheVariants.{Lists, Trees, Forms}
use Rattle.rules.specs.Stages.{directory_outcome, stage_outcome}
use Rattle.rules.specs.declared.numbering.Rule.{Rule}
use Rattle.rules.specs.Numbering.{rules, rule_at}
use Rattle.checks.specs.declared.Rules.{Rules}

-- the file: its words, its text and its facts
pub record File : Type 0 where
  pub words : List ℕ
  pub text : List ℕ
  pub facts : List ℕ

abbrev pub file_of : List ℕ → List ℕ → List ℕ → File
file_of words text facts = record { words = words; text = text; facts = facts }

-- the one that is handed in, and the one that was accepted
abbrev pub given_in : GivenFile → File
given_in file = file_of file.words.now file.text.now file.facts.now

abbrev pub file_in : Accepted → File
file_in file = file_of file.tree.words.now file.text.now file.facts

-- the rules as they are handed in: directory, words, bytes, and a fact text of some bytes
abbrev pub rules_of : List ℕ → List ℕ → List ℕ → ℕ → Rules
rules_of directory words bytes fact_bytes = record { pairs = pairs_of directory words bytes; fact_bytes = fact_bytes }

abbrev pub stage : Stage → Rules → Outcome
stage which q = stage_outcome which (pairs_in q.pairs)

-- 18 to 21 of the rules' trees
abbrev pub rule_trees : Rules → Outcome
rule_trees q = stage (Trees (Some q.fact_bytes)) q

-- and of the file's
abbrev pub trees_stage : Rules → File → Outcome
trees_stage q f = lowest_of (rule_trees q) (file_outcome f.words f.text f.facts)

-- these, then 17
unfoldable pub trees_outcome : Rules → File → Outcome
trees_outcome q f = in_turn (trees_stage q f ∷ stage Forms q ∷ [])

-- 1 to 15, then these, then 17
unfoldable pub given_outcome : Rules → File → Outcome
given_outcome q f = in_turn (directory_outcome q.pairs ∷ stage Lists q ∷ trees_stage q f ∷ stage Forms q ∷ [])

-- ---- what is asked of them

-- the rule of a number
abbrev pub found_rule : Rules → ℕ → Option Rule
found_rule q number = rule_at (rules (pairs_in q.pairs)) number

-- a node of the file
abbrev pub is_node_of : File → ℕ → Bool
is_node_of f node = node_in 1 4095 (element_at node (tree f.words))

-- "a range whose start is after its end", where matches are restricted to one
abbrev pub is_reversed : Option Range → Bool
is_reversed None = false
is_reversed (Some range) = ltb range.end range.start

abbrev pub is_range : Option Range → Bool
is_range range = not (is_reversed range)
