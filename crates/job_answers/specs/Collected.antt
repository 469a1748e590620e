-- What a job matches, nests and renders, document 01: "a job, which matches a candidate list of (node, rule) pairs, nests, renders and writes
-- the edit list".
-- Assumes nothing.
use Rattle.std.specs.Prelude.{ℕ, List}
use Rattle.captures.specs.Attempts.{Attempt}
use Rattle.matcher.specs.FileFacts.{module_of}
use Rattle.checks.specs.Given.{found_rule}
use Rattle.rule_match.specs.RuleMatch.{attempt_of}
use Rattle.parses.specs.Parses.{parses_of}
use Rattle.candidates.specs.Candidates.{has}
use Rattle.nester.specs.Matches.{Match, matches}
use Rattle.nester.specs.Nest.{Nest, none, nest, start_at, end_at}
use Rattle.rendering.specs.Texts.{Setting}
use Rattle.readying.specs.Templates.{rule_fragments, rule_kind}
use Rattle.job_checks.specs.Checks.{Job, rules_in, tree_in, candidates_in, rule_count}

-- "A match is a candidate that `get_match` accepts"
abbrev pub attempt_in : Job → ℕ → ℕ → Attempt
attempt_in j = attempt_of (rules_in j) j.file j.range

abbrev pub matches_in : Job → List Match
matches_in j = matches (tree_in j) (rule_count j) (attempt_in j) (has (candidates_in j))

-- the outer collection
abbrev pub collection_in : Job → Nest
collection_in j = nest (tree_in j) (matches_in j) none

-- "its range is its node's bytes in the file"
abbrev pub start_in : Job → ℕ → ℕ
start_in j n = start_at (tree_in j) n

abbrev pub end_in : Job → ℕ → ℕ
end_in j n = end_at (tree_in j) n

-- what the matches are rendered with: the template of a match's rule, each of its paths as it is told in the module of the match's node
abbrev pub setting_of : Job → Setting
setting_of j = record {
  file = j.file.text;
  start_of = start_in j;
  end_of = end_in j;
  fragments = λ m. rule_fragments j.fact_text (rules_in j) (found_rule (rules_in j) m.rule) (module_of j.file.facts m.node);
  kind = λ m. rule_kind (rules_in j) (found_rule (rules_in j) m.rule);
  parses = parses_of j.parses j.parse_text;
}
