-- What is known of a walk whose checks before its matches passed, and of the job on its matches, for the steps that follow. These are promises
-- between functions.
-- Assumes nothing.
use Rattle.std.specs.Prelude.{ℕ, ◌≤◌, ◌≡◌, true, false, map, length, Some}
use Rattle.errors.specs.Refusals.{ok}
use Rattle.trees.specs.declared.File.{File}
use Rattle.rules.specs.declared.stages.Stage.TheVariants.{Trees}
use Rattle.rules.specs.Forms.{any}
use Rattle.rules.specs.Numbering.{rules}
use Rattle.rules.specs.Stages.{stage_outcome}
use Rattle.rule_paths.specs.RulePaths.{pair_fails}
use Rattle.checks.specs.declared.Rules.{Rules}
use Rattle.checks.specs.Given.{file_in, is_range}
use Rattle.job_checks.specs.declared.Inputs.{Inputs}
use Rattle.job_answers.specs.Answers.{list_in}
use Rattle.walk_nodes.specs.WalkCandidates.{words_of}
use Rattle.walk_answers.specs.Walk.{walk_in, walk_matches, before_matches}
use Rattle.job_checks.specs.Checks.{Job, job_on, rules_in, pairs_in, rule_count, any_without_template}

-- with the rules and the file that were accepted
pub record Walkable (j : Job) (q : Rules) (file : File) : Type 0 where
  pub rules_are : q ≡ rules_in j
  pub file_is : file_in file ≡ j.file
  pub passed : before_matches j ≡ ok
  pub trees : stage_outcome (Trees (Some (length j.fact_text))) (pairs_in j) ≡ ok
  pub resolved : any (map pair_fails (pairs_in j)) ≡ false
  pub few_rules : rule_count j ≤ 16
  pub ranged : is_range j.range ≡ true
  pub templates : any_without_template (rules (pairs_in j)) ≡ false

-- the job on the walk's matches has the walk's edit list
pub record FoundJob (given : Inputs) (j : Job) : Type 0 where
  pub is : j ≡ job_on given (words_of (walk_matches (walk_in given)))
  pub list : (room : ℕ) → list_in j room ≡ list_in (walk_in given) room
