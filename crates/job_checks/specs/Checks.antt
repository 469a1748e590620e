-- The checks of a job, document 01: "a job, which matches a candidate list of (node, rule) pairs, nests, renders and writes the edit list";
-- "A job is also given an optional range for `restrict_range`."
-- Assumes nothing.
use Rattle.std.specs.Prelude.{ℕ, Bool, true, false, not, ◌||◌, List, [], ◌∷◌, ltb, length, take, Option}
use Rattle.std.specs.List.{list_any}
use Rattle.errors.specs.Refusals.{Outcome}
use Rattle.errors.specs.declared.Refusal.TheVariants.{TooManyRulesOrCandidates, NoSuchCandidate, RepeatedCandidate, NoTemplate}
use Rattle.errors.specs.Refusals.{Check, first_of, in_turn}
use Rattle.words.specs.declared.texts.Range.{Range}
use Rattle.syntax.specs.Trees.{Elems, tree}
use Rattle.fragments.specs.Pairs.{Pair, Pairs, pairs_of, pairs_in as all_pairs}
use Rattle.rules.specs.declared.forms.TemplateTree.{TemplateTree}
use Rattle.rules.specs.declared.forms.TemplateTree.TheVariants.{Absent, Own, StandIn, Missing}
use Rattle.rules.specs.declared.numbering.Rule.{Rule}
use Rattle.rules.specs.Numbering.{rules}
use Rattle.rule_paths.specs.RulePaths.{paths_outcome}
use Rattle.checks.specs.declared.Rules.{Rules}
use Rattle.checks.specs.Given.{File, given_in, given_outcome, is_range}
use Rattle.parses.specs.Parses.{parses_outcome}
use Rattle.candidates.specs.Candidates.{Candidate, candidates_of, candidate_count, any_bad, is_twice}
use Rattle.job_checks.specs.declared.Inputs.{Inputs}
use Rattle.job_checks.specs.declared.GivenJob.{GivenJob}

-- what is handed in
pub record Job : Type 0 where
  pub pairs : Pairs
  pub fact_text : List ℕ
  pub file : File
  pub parses : List ℕ
  pub parse_text : List ℕ
  pub candidates : List ℕ
  pub range : Option Range

abbrev pub job_of : Pairs → List ℕ → File → List ℕ → List ℕ → List ℕ → Option Range → Job
job_of pairs fact_text file parses parse_text candidates range = record {
  pairs = pairs;
  fact_text = fact_text;
  file = file;
  parses = parses;
  parse_text = parse_text;
  candidates = candidates;
  range = range;
}

-- the pairs that are handed in, and the job of such inputs on a list of candidates
abbrev pub given_pairs : Inputs → Pairs
given_pairs given = pairs_of given.directory.now given.words.now given.bytes.now

abbrev pub job_on : Inputs → List ℕ → Job
job_on given candidates =
    job_of (given_pairs given) given.fact_text.now (given_in given.file) given.parses.now given.parse_text.now candidates given.range

abbrev pub job_in : GivenJob → Job
job_in job = job_on job.inputs job.candidates.now

abbrev pub rules_in : Job → Rules
rules_in j = record { pairs = j.pairs; fact_bytes = length j.fact_text }

abbrev pub pairs_in : Job → List Pair
pairs_in j = all_pairs j.pairs

abbrev pub tree_in : Job → Elems
tree_in j = tree j.file.words

abbrev pub candidates_in : Job → List Candidate
candidates_in j = candidates_of j.candidates

-- "The rules left .. are the ones that candidates name and 24 counts."
abbrev pub rule_count : Job → ℕ
rule_count j = length (rules (pairs_in j))

abbrev pub has_no_template : TemplateTree → Bool
has_no_template Absent = true
has_no_template Own = false
has_no_template StandIn = false
has_no_template Missing = false

abbrev pub any_without_template : List Rule → Bool
any_without_template rs = list_any (λ r. has_no_template r.template) rs

-- "24 over 16 rules or 1,024 candidates; 25 a candidate without such node or rule, or 23's range; 26 a pair twice; 27 a rule without
-- template"
abbrev pub job_checks : Job → List Check
job_checks j =
    record { fails = ltb 16 (rule_count j) || ltb 1024 (candidate_count j.candidates); refusal = TooManyRulesOrCandidates }
    ∷ record { fails = any_bad (tree_in j) (rule_count j) (candidates_in j) || not (is_range j.range); refusal = NoSuchCandidate }
    ∷ record { fails = is_twice (candidates_in j); refusal = RepeatedCandidate }
    ∷ record { fails = any_without_template (rules (pairs_in j)); refusal = NoTemplate }
    ∷ []

-- 24 and 25; these and 26; and all that stand behind 22, which are 24 to 28
unfoldable pub named_outcome : Job → Outcome
named_outcome j = first_of (take 2 (job_checks j))

unfoldable pub once_outcome : Job → Outcome
once_outcome j = first_of (take 3 (job_checks j))

unfoldable pub asked_outcome : Job → Outcome
asked_outcome j = in_turn (first_of (job_checks j) ∷ parses_outcome j.parses j.parse_text ∷ [])

-- all of them in turn: 1 to 15, 18 to 21, 17, 22, 24 to 27, 28
abbrev pub job_outcome : Job → Outcome
job_outcome j =
    in_turn
    (given_outcome (rules_in j) j.file
    ∷ paths_outcome (pairs_in j)
    ∷ first_of (job_checks j)
    ∷ parses_outcome j.parses j.parse_text
    ∷ [])
