-- What is known below the operation: trees that passed their checks, and tables that are large enough for them.
-- Assumes nothing.
use Rattle.std.specs.Prelude.{ℕ, ◌/◌, ◌≤◌, ◌≡◌, true, false, List, map, length, take, min, Some}
use Rattle.errors.specs.Refusals.{ok}
use Rattle.parsing.specs.Reading.{Var}
use Rattle.fragments.specs.declared.forms.Side.TheVariants.{Pattern}
use Rattle.fragments.specs.Pairs.{Pair, text_of, pair_at, pairs_in}
use Rattle.rules.specs.declared.numbering.Rule.{Rule}
use Rattle.rules.specs.Forms.{template_tree, any, is_left}
use Rattle.rules.specs.Numbering.{rules}
use Rattle.rules.specs.Stages.{trees_outcome}
use Rattle.checks.specs.declared.Rules.{Rules}
use Rattle.checks.specs.Given.{rule_trees}
use Rattle.rule_paths.specs.RulePaths.{pattern_vars, pair_fails}

-- tables of n entries have one for each element, or fact, of any tree in words
abbrev pub Roomy : ℕ → List ℕ → Type 0
Roomy n words = min (length words / 3) 16383 ≤ n

-- the trees of a pair with their facts passed, with a fact text of some bytes
abbrev pub Passed : ℕ → Pair → Type 0
Passed bytes p = trees_outcome (Some bytes) p ≡ ok

-- such a pair beside the placeholders of its pattern and the text of their list
pub record IsPassed (n : ℕ) (p : Pair) (vs : List Var) (text : List ℕ) (bytes : ℕ) : Type 0 where
  pub placeholders : vs ≡ pattern_vars p
  pub of_list : text ≡ text_of Pattern p
  pub passed : Passed bytes p
  pub room : Roomy n p.words

-- a rule with its pair
pub record PairedRule : Type 0 where
  pub pair : Pair
  pub rule : Rule

abbrev pub paired : Rules → Rule → PairedRule
paired q r = record { pair = pair_at r.pair q.pairs; rule = r }

-- it is one of the pair's that are left, and every path that must resolve has a fact
pub record IsLeft (p : Pair) (r : Rule) : Type 0 where
  pub left : is_left p r.form ≡ true
  pub tree : r.template ≡ template_tree p r.form
  pub good : pair_fails p ≡ false

-- rules whose trees passed, and in which every path that must resolve has a fact; and the first of them
pub record AreResolved (n : ℕ) (q : Rules) (first : List Rule) : Type 0 where
  pub passed : rule_trees q ≡ ok
  pub good : any (map pair_fails (pairs_in q.pairs)) ≡ false
  pub room : Roomy n q.pairs.words
  pub kept : first ≡ take 16 (rules (pairs_in q.pairs))
