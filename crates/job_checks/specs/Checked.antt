-- What is known of a job that passed its checks, for the steps behind them.
-- Assumes nothing.
use Rattle.std.specs.Prelude.{ℕ, ◌≤◌, ◌≡◌, true, false, List, map, length, Some}
use Rattle.errors.specs.Refusals.{ok}
use Rattle.sorting.specs.Sorted.{sort}
use Rattle.trees.specs.declared.File.{File}
use Rattle.rules.specs.declared.stages.Stage.TheVariants.{Trees}
use Rattle.rules.specs.Forms.{any}
use Rattle.rules.specs.Numbering.{rules}
use Rattle.rules.specs.Stages.{stage_outcome}
use Rattle.rule_paths.specs.RulePaths.{pair_fails}
use Rattle.checks.specs.declared.Rules.{Rules}
use Rattle.checks.specs.Given.{file_in, is_range}
use Rattle.parses.specs.Parses.{Parse, is_parse_list, parses_of}
use Rattle.candidates.specs.Candidates.{candidate_count, any_bad, is_twice, keys_of}
use Rattle.job_checks.specs.Checks.{Job, rules_in, pairs_in, tree_in, candidates_in, rule_count, any_without_template}

-- with its rules, its file, its parses, and the candidates' keys in rising order
pub record Checked (j : Job) (q : Rules) (file : File) (parses : List Parse) (keys : List ℕ) : Type 0 where
  pub rules_are : q ≡ rules_in j
  pub file_is : file_in file ≡ j.file
  pub parses_are : parses ≡ parses_of j.parses j.parse_text
  pub trees : stage_outcome (Trees (Some (length j.fact_text))) (pairs_in j) ≡ ok
  pub resolved : any (map pair_fails (pairs_in j)) ≡ false
  pub few_rules : rule_count j ≤ 16
  pub few_candidates : candidate_count j.candidates ≤ 1024
  pub named : any_bad (tree_in j) (rule_count j) (candidates_in j) ≡ false
  pub ranged : is_range j.range ≡ true
  pub once : is_twice (candidates_in j) ≡ false
  pub templates : any_without_template (rules (pairs_in j)) ≡ false
  pub parsed : is_parse_list (length j.parse_text) j.parses ≡ true
  pub sorted : keys ≡ sort (keys_of (candidates_in j))

-- what the checks of parses and candidates leave: the parses, and the keys
pub record Listed (j : Job) (parses : List Parse) (keys : List ℕ) : Type 0 where
  pub parses_are : parses ≡ parses_of j.parses j.parse_text
  pub sorted : keys ≡ sort (keys_of (candidates_in j))
