-- The checks of a job in turn.
-- Assumes nothing.
use mathlib.Core.Path.{◌≡◌, sym, ap, ◌∙◌}
use mathlib.Core.List.{List, [], ◌∷◌}
use Prim.Native.Nat.{ℕ}
use Rattle.errors.specs.Refusals.{Outcome, ok, err, first_of, in_turn}
use Rattle.errors.specs.declared.Refusal.{Refusal}
use Rattle.rules.specs.declared.stages.Stage.TheVariants.{Forms}
use Rattle.rules.specs.Stages.{stage_outcome}
use Rattle.checks.specs.declared.Rules.{Rules}
use Rattle.parses.specs.Parses.{parses_outcome}
use Rattle.rule_paths.specs.Accepted.{to_resolve}
use Rattle.rule_paths.proofs.AcceptedLaws.{forms_passed, turns_pass, turns_refuse}
use Rattle.job_checks.specs.Checks.{Job, rules_in, pairs_in, job_checks, asked_outcome, job_outcome}
use Rattle.job_answers.specs.Answers.{list_in}

module _ (j : Job) where
  abbrev asked : List Outcome
  asked = first_of (job_checks j) ∷ parses_outcome j.parses j.parse_text ∷ []

  module _ (q : Rules) (are : q ≡ rules_in j) where
    turns_are : in_turn (to_resolve q j.file) ≡ in_turn (to_resolve (rules_in j) j.file)
    turns_are = ap (λ (p : Rules). in_turn (to_resolve p j.file)) are

    pub checks_refuse : (r : Refusal) → err r ≡ in_turn (to_resolve q j.file) → err r ≡ job_outcome j
    checks_refuse r h = sym (turns_refuse (to_resolve (rules_in j) j.file) asked r (sym (h ∙ turns_are)))

    module _ (h : ok ≡ in_turn (to_resolve q j.file)) where
      pub forms_pass : stage_outcome Forms (pairs_in j) ≡ ok
      forms_pass = forms_passed (rules_in j) j.file (sym (h ∙ turns_are))

      pub asked_decides : (o : Outcome) → o ≡ asked_outcome j → o ≡ job_outcome j
      unfolding asked_outcome
      asked_decides o e = e ∙ sym (turns_pass (to_resolve (rules_in j) j.file) asked (sym (h ∙ turns_are)))

      pub asked_passes : ok ≡ asked_outcome j → job_outcome j ≡ ok
      asked_passes e = sym (asked_decides ok e)

-- a job that is the same has the same list
pub same_list : (k j : Job) → k ≡ j → (room : ℕ) → list_in k room ≡ list_in j room
same_list k j e room = ap (λ (x : Job). list_in x room) e
