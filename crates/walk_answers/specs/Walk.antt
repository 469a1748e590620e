-- The whole-file walk, document 01: "a whole-file walk that makes a candidate of every node with every rule. For the walk, 24's 1,024 counts
-- matches and is looked at after 27."
-- Assumes nothing.
use Rattle.std.specs.Prelude.{ℕ, not, List, [], ◌∷◌, ◌++◌, ltb, length, take, Option, Result}
use Rattle.errors.specs.declared.Refusal.{Refusal}
use Rattle.errors.specs.Refusals.{Outcome}
use Rattle.errors.specs.declared.Refusal.TheVariants.{TooManyRulesOrCandidates, NoSuchCandidate, NoTemplate}
use Rattle.errors.specs.Refusals.{Check, first_of, in_turn}
use Rattle.words.specs.declared.texts.Range.{Range}
use Rattle.words.specs.Buffer.{used_of, filled}
use Rattle.syntax.specs.Trees.{tree}
use Rattle.fragments.specs.Pairs.{Pairs, pairs_in as all_pairs}
use Rattle.rules.specs.Numbering.{rules}
use Rattle.rule_paths.specs.RulePaths.{paths_outcome}
use Rattle.checks.specs.Given.{File, given_in, given_outcome, is_range}
use Rattle.candidates.specs.Candidates.{Candidate}
use Rattle.parses.specs.Parses.{parses_outcome}
use Rattle.edits.specs.declared.Edited.{Edited}
use Rattle.rule_paths.specs.Accepted.{to_resolve}
use Rattle.job_checks.specs.declared.Inputs.{Inputs}
use Rattle.job_checks.specs.Checks.{Job, job_of, given_pairs, rules_in, pairs_in, candidates_in, rule_count, any_without_template}
use Rattle.job_answers.specs.Collected.{attempt_in}
use Rattle.job_answers.specs.Answers.{list_in, answer_after, bytes_after}
use Rattle.walk_nodes.specs.WalkCandidates.{walk_candidates, accepted, words_of}

-- what is handed in, as the job whose candidates are every node with every rule
abbrev pub walk_of : Pairs → List ℕ → File → List ℕ → List ℕ → Option Range → Job
walk_of pairs fact_text file parses parse_text range =
    job_of pairs fact_text file parses parse_text (words_of (walk_candidates (tree file.words) (length (rules (all_pairs pairs))))) range

-- the walk of such inputs
abbrev pub walk_in : Inputs → Job
walk_in given = walk_of (given_pairs given) given.fact_text.now (given_in given.file) given.parses.now given.parse_text.now given.range

-- "A match is a candidate that `get_match` accepts"
abbrev pub walk_matches : Job → List Candidate
walk_matches j = accepted (attempt_in j) (candidates_in j)

-- "24 over 16 rules .. 25 .. 23's range .. 27 a rule without template"; then "24's 1,024 counts matches and is looked at after 27"
abbrev pub walk_checks : Job → List Check
walk_checks j =
    record { fails = ltb 16 (rule_count j); refusal = TooManyRulesOrCandidates }
    ∷ record { fails = not (is_range j.range); refusal = NoSuchCandidate }
    ∷ record { fails = any_without_template (rules (pairs_in j)); refusal = NoTemplate }
    ∷ record { fails = ltb 1024 (length (walk_matches j)); refusal = TooManyRulesOrCandidates }
    ∷ []

-- all that are looked at before the matches, in turn: 1 to 15, 18 to 21, 17, 22, then the first three of these
unfoldable pub before_matches : Job → Outcome
before_matches j = in_turn (to_resolve (rules_in j) j.file ++ first_of (take 3 (walk_checks j)) ∷ [])

-- all of them in turn: 1 to 15, 18 to 21, 17, 22, then these, 28
abbrev pub walk_outcome : Job → Outcome
walk_outcome j =
    in_turn
    (given_outcome (rules_in j) j.file
    ∷ paths_outcome (pairs_in j)
    ∷ first_of (walk_checks j)
    ∷ parses_outcome j.parses j.parse_text
    ∷ [])

-- THE ANSWER in so much room, the bytes that it leaves there, and the whole buffer: the list is that of the job
abbrev pub walk_answer : Job → ℕ → Result Edited Refusal
walk_answer j room = answer_after (walk_outcome j) (list_in j room)

abbrev pub walk_bytes : Job → ℕ → List ℕ
walk_bytes j room = bytes_after (walk_outcome j) (list_in j room)

abbrev pub walk_buffer : Job → List ℕ → List ℕ
walk_buffer j out = filled out (walk_bytes j (used_of (length out)))
