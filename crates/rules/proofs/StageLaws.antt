-- The lowest of several outcomes, and the stages in turn.
-- Assumes nothing.
use Rattle.std.proofs.Common.{◌≡◌, refl, sym, ◌∙◌, true, false, List, [], ◌∷◌, map, ℕ, Option, Ok, Err, arith}
use Rattle.std.specs.List.{fold}
use borrow.Author.Tests.{le-leb}
use Rattle.errors.specs.declared.Refusal.{Refusal}
use Rattle.errors.specs.declared.Refusal.TheVariants.{MalformedList, NoForm}
use Rattle.errors.specs.Refusals.{Outcome, ok, err, number_of, lowest_of, lowest, first_of, in_turn}
use Rattle.errors.proofs.Laws.{lowest-accepted, lowest_of_three, both_pass, turn_passes, turn_both, turn_last}
use Rattle.fragments.specs.declared.forms.Side.{Side}
use Rattle.fragments.specs.Directory.{is_directory}
use Rattle.fragments.specs.Pairs.{Pair, Pairs, pairs_in, code_of}
use Rattle.trees.specs.Given.{right_text}
use Rattle.rules.specs.Forms.{has_rule}
use Rattle.rules.specs.Stages.{given_list, side_outcome, forms_outcome, pair_stage, stage_outcome, directory_outcome, rules_outcome}
use Rattle.rules.specs.declared.stages.Stage.{Stage}
use Rattle.rules.specs.declared.stages.Stage.TheVariants.{Lists, Trees, Forms}

-- the lowest by going along
fold_from : {A : Type 0} (f : A → Outcome) (a : Outcome) (xs : List A) → fold (λ b x. lowest_of b (f x)) a xs ≡ lowest_of a (lowest (map f xs))
unfolding lowest
fold_from f a [] = sym (lowest-accepted a)
fold_from f a (x ∷ xs) = fold_from f (lowest_of a (f x)) xs ∙ lowest_of_three a (f x) (lowest (map f xs))

pub fold_lowest : {A : Type 0} (f : A → Outcome) (xs : List A) → fold (λ b x. lowest_of b (f x)) ok xs ≡ lowest (map f xs)
fold_lowest f xs = fold_from f ok xs

lowest_twice : (r : Refusal) → lowest_of (err r) (err r) ≡ err r
lowest_twice r = rw (le-leb (number_of r) (number_of r) (omega arith))

lowest_same : (r : Refusal) → lowest (err r ∷ err r ∷ err r ∷ err r ∷ err r ∷ []) ≡ err r
unfolding lowest
lowest_same r = rw (lowest_twice r, lowest_twice r, lowest_twice r, lowest_twice r)

-- a side whose list is refused
pub side_refused : (m : Option ℕ) (p : Pair) (side : Side) (r : Refusal) → right_text (given_list side p) (code_of side p) ≡ Err r → side_outcome m p side ≡ err r
side_refused m p side r h = rw h (lowest_same r)

-- a pair's forms
pub has_forms : (p : Pair) → has_rule p ≡ true → forms_outcome p ≡ ok
unfolding first_of
has_forms p h = rw h

pub no_forms : (p : Pair) → has_rule p ≡ false → forms_outcome p ≡ err NoForm
unfolding first_of
no_forms p h = rw h

-- where a stage passes, its first pair does and the others do
pub stage_both : (stage : Stage) (p : Pair) (ps : List Pair) → stage_outcome stage (p ∷ ps) ≡ ok → (pair_stage stage p ≡ ok) × (stage_outcome stage ps ≡ ok)
unfolding lowest stage_outcome
stage_both stage p ps h = both_pass _ _ h

-- a stage that refuses is the outcome of those in turn
pub stop : (a : Outcome) (rest : List Outcome) → (a ≡ ok → ⊥) → in_turn (a ∷ rest) ≡ a
unfolding in_turn
stop (Ok tt) rest n = absurd (n refl)
stop (Err r) rest n = refl

-- what rules go through before they are resolved: no directory, a stage that refuses, and the last stage
module _ (m : Option ℕ) (ps : Pairs) where
  pub no_directory : is_directory ps.directory ps.words ps.bytes ≡ false → rules_outcome m ps ≡ err MalformedList
  unfolding first_of in_turn rules_outcome
  no_directory h = rw h

  module _ (h : is_directory ps.directory ps.words ps.bytes ≡ true) where
    passes_directory : directory_outcome ps ≡ ok
    unfolding first_of
    passes_directory = rw h

    pub lists_decide : (stage_outcome Lists (pairs_in ps) ≡ ok → ⊥) → rules_outcome m ps ≡ stage_outcome Lists (pairs_in ps)
    unfolding rules_outcome
    lists_decide n = turn_passes _ _ passes_directory ∙ stop (stage_outcome Lists (pairs_in ps)) _ n

    pub trees_decide : stage_outcome Lists (pairs_in ps) ≡ ok → (stage_outcome (Trees m) (pairs_in ps) ≡ ok → ⊥) → rules_outcome m ps ≡ stage_outcome (Trees m) (pairs_in ps)
    unfolding rules_outcome
    trees_decide l n = turn_passes _ _ passes_directory ∙ turn_passes _ _ l ∙ stop (stage_outcome (Trees m) (pairs_in ps)) _ n

    pub forms_decide : stage_outcome Lists (pairs_in ps) ≡ ok → stage_outcome (Trees m) (pairs_in ps) ≡ ok → rules_outcome m ps ≡ stage_outcome Forms (pairs_in ps)
    unfolding rules_outcome
    forms_decide l t = turn_passes _ _ passes_directory ∙ turn_passes _ _ l ∙ turn_passes _ _ t ∙ turn_last (stage_outcome Forms (pairs_in ps))

  -- where all pass, the trees do
  pub trees_pass : rules_outcome m ps ≡ ok → stage_outcome (Trees m) (pairs_in ps) ≡ ok
  unfolding rules_outcome
  trees_pass h = (turn_both _ _ (turn_both _ _ (turn_both _ _ h).1).1).0
