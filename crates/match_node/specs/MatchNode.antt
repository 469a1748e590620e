-- Matching one node, document 01: "18 to 22, then 23 no such node or rule, or a range whose start is after its end. A match answers its
-- bindings in pattern order, and the buffer holds the texts of its noted comments in turn; 16 comes last, where these do not fit."
-- Assumes nothing.
use Rattle.std.specs.Prelude.{ℕ, ◌≡◌, not, ◌&&◌, List, [], ◌∷◌, length, Option, is_some}
use Rattle.std.specs.Prelude.{Result, Ok, Err}
use Rattle.errors.specs.Refusals.{Outcome}
use Rattle.errors.specs.declared.Refusal.{Refusal}
use Rattle.errors.specs.declared.Refusal.TheVariants.{NoSuchNodeOrRule}
use Rattle.errors.specs.Refusals.{first_of, in_turn}
use Rattle.words.specs.Buffer.{used_of, filled}
use Rattle.words.specs.declared.texts.Range.{Range}
use Rattle.fragments.specs.Pairs.{pairs_in}
use Rattle.rules.specs.declared.numbering.Rule.{Rule}
use Rattle.rule_paths.specs.RulePaths.{paths_outcome}
use Rattle.captures.specs.Attempts.{Attempt}
use Rattle.answers.specs.declared.NodeMatch.{NodeMatch}
use Rattle.answers.specs.Answers.{answer_of, bytes_of}
use Rattle.checks.specs.declared.Rules.{Rules}
use Rattle.checks.specs.Given.{File, given_outcome, found_rule, is_node_of, is_range}
use Rattle.rule_match.specs.RuleMatch.{found_match}

-- 23: "no such node or rule, or a range whose start is after its end"
abbrev pub asked_outcome : Option Rule → File → Option Range → ℕ → Outcome
asked_outcome found f range node =
    first_of (record { fails = not (is_some found && is_node_of f node && is_range range); refusal = NoSuchNodeOrRule } ∷ [])

-- all of them in turn; 22 after 17
abbrev pub match_outcome : Rules → File → ℕ → Option Range → ℕ → Outcome
match_outcome q f number range node =
    in_turn
    (given_outcome q f
    ∷ paths_outcome (pairs_in q.pairs)
    ∷ asked_outcome (found_rule q number) f range node
    ∷ [])

-- the attempt that is made where nothing is refused
abbrev pub answer_by : Outcome → ℕ → Attempt → Result (Option NodeMatch) Refusal
answer_by (Err r) room a = Err r
answer_by (Ok tt) room a = answer_of room a

abbrev pub bytes_by : Outcome → ℕ → Attempt → List ℕ
bytes_by (Err r) room a = []
bytes_by (Ok tt) room a = bytes_of room a

-- the operation: its answer, and the buffer then
abbrev pub matched_node : Rules → File → ℕ → Option Range → ℕ → ℕ → Result (Option NodeMatch) Refusal
matched_node q f number range node room = answer_by (match_outcome q f number range node) room (found_match q f (found_rule q number) range node)

abbrev pub buffer_after : Rules → File → ℕ → Option Range → ℕ → List ℕ → List ℕ
buffer_after q f number range node out =
    filled out (bytes_by (match_outcome q f number range node) (used_of (length out)) (found_match q f (found_rule q number) range node))

-- what is answered behind the stages before, and the buffer then: all of it is used
pub record Answered (q : Rules) (f : File) (number : ℕ) (range : Option Range) (node : ℕ) (out : List ℕ) (r : Result (Option NodeMatch) Refusal) (out' : List ℕ) : Type 0 where
  pub value : r ≡ answer_by (asked_outcome (found_rule q number) f range node) (length out) (found_match q f (found_rule q number) range node)
  pub out_after : out' ≡ filled out (bytes_by (asked_outcome (found_rule q number) f range node) (length out) (found_match q f (found_rule q number) range node))
