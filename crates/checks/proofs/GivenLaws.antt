-- What is given goes through its stages in turn: no directory, a stage that refuses, and the trees.
-- Assumes nothing.
use Rattle.std.proofs.Common.{◌≡◌, ◌∙◌, true, false}
use Rattle.errors.specs.declared.Refusal.TheVariants.{MalformedList}
use Rattle.errors.specs.Refusals.{ok, err, first_of, in_turn}
use Rattle.errors.proofs.Laws.{both_pass, turn_passes, turn_both, turn_last}
use Rattle.fragments.specs.Directory.{is_directory}
use Rattle.trees.specs.Given.{file_outcome}
use Rattle.rules.specs.Stages.{directory_outcome}
use Rattle.rules.specs.declared.stages.Stage.TheVariants.{Lists, Forms}
use Rattle.rules.proofs.StageLaws.{stop}
use Rattle.checks.specs.declared.Rules.{Rules}
use Rattle.checks.specs.Given.{File, stage, rule_trees, trees_stage, trees_outcome, given_outcome}

module _ (q : Rules) (f : File) where
  pub no_directory : is_directory q.pairs.directory q.pairs.words q.pairs.bytes ≡ false → given_outcome q f ≡ err MalformedList
  unfolding first_of in_turn given_outcome
  no_directory h = rw h

  module _ (h : is_directory q.pairs.directory q.pairs.words q.pairs.bytes ≡ true) where
    passes_directory : directory_outcome q.pairs ≡ ok
    unfolding first_of
    passes_directory = rw h

    pub lists_refuse : (stage Lists q ≡ ok → ⊥) → given_outcome q f ≡ stage Lists q
    unfolding given_outcome
    lists_refuse n = turn_passes _ _ passes_directory ∙ stop (stage Lists q) _ n

    pub trees_decide : stage Lists q ≡ ok → given_outcome q f ≡ trees_outcome q f
    unfolding given_outcome trees_outcome
    trees_decide l = turn_passes _ _ passes_directory ∙ turn_passes _ _ l

  pub trees_refuse : (trees_stage q f ≡ ok → ⊥) → trees_outcome q f ≡ trees_stage q f
  unfolding trees_outcome
  trees_refuse n = stop (trees_stage q f) _ n

  pub forms_decide : trees_stage q f ≡ ok → trees_outcome q f ≡ stage Forms q
  unfolding trees_outcome
  forms_decide h = turn_passes _ _ h ∙ turn_last _

  -- where all pass, the rules' trees do, and the file's
  pub both_accepted : trees_stage q f ≡ ok → (rule_trees q ≡ ok) × (file_outcome f.words f.text f.facts ≡ ok)
  both_accepted h = both_pass _ _ h

  pub trees_accepted : given_outcome q f ≡ ok → rule_trees q ≡ ok
  unfolding given_outcome
  trees_accepted h = (both_accepted (turn_both _ _ (turn_both _ _ (turn_both _ _ h).1).1).0).0
