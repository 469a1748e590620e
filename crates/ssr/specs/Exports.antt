-- What the exported checks answer: 01's number.
-- Assumes nothing.
use Rattle.std.specs.Prelude.{ℕ, cond, not, List, eqb, length, Option, Some, None}
use Rattle.errors.specs.Refusals.{outcome_number}
use Rattle.fragments.specs.declared.forms.Side.{Side}
use Rattle.fragments.specs.declared.forms.Side.TheVariants.{Pattern, Template}
use Rattle.validating.specs.Pairs.{pair_outcome}
use Rattle.rules.specs.Stages.{owner_of}
use Rattle.trees.specs.Given.{file_outcome, given_outcome}

-- a list, its words and its text, that is given unless the flag is 0
abbrev pub list_if : ℕ → List ℕ → List ℕ → Option (List ℕ × List ℕ)
list_if given words text = cond (not (eqb given 0)) (Some (words, text)) None

-- checking a pair: 01's number, 0 for a pair that is fine
abbrev pub pair_number : List ℕ → List ℕ → ℕ → List ℕ → List ℕ → ℕ
pair_number words text given words' text' = outcome_number (pair_outcome words text (list_if given words' text'))

-- the file's tree with its facts, and a rule's: 01's number, 0 where nothing is refused
abbrev pub file_number : List ℕ → List ℕ → List ℕ → ℕ
file_number words text facts = outcome_number (file_outcome words text facts)

-- a side is the pattern's where it is 0, else the template's
abbrev pub side_of : ℕ → Side
side_of side = cond (eqb side 0) Pattern Template

abbrev pub rule_tree_number : ℕ → List ℕ → List ℕ → ℕ → List ℕ → List ℕ → List ℕ → List ℕ → ℕ
rule_tree_number given list text side words code facts fact_text =
    outcome_number (given_outcome (list_if given list text) (owner_of (side_of side)) words code facts (length fact_text))
