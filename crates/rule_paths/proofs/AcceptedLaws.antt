-- 1 to 22 in turn, what is known where they pass, and the stages behind them.
-- Assumes nothing.
use Rattle.std.proofs.Common.{◌≡◌, refl, sym, ◌∙◌, Bool, true, false, List, [], ◌∷◌, ◌++◌, map, Ok, Err}
use Rattle.errors.specs.Refusals.{Outcome, ok, err, first_of, in_turn}
use Rattle.errors.specs.declared.Refusal.{Refusal}
use Rattle.errors.proofs.Laws.{refused_not, turn_passes, turn_refuses, turn_both, turn_last}
use Rattle.fragments.specs.Pairs.{pairs_in}
use Rattle.rules.specs.declared.stages.Stage.TheVariants.{Forms}
use Rattle.rules.specs.Forms.{any}
use Rattle.checks.specs.declared.Rules.{Rules}
use Rattle.checks.specs.Given.{File, stage, given_outcome}
use Rattle.rule_paths.specs.RulePaths.{pair_fails, paths_outcome, resolving_rules}
use Rattle.rule_paths.specs.Accepted.{to_resolve}

module _ (q : Rules) (f : File) where
  pub given_refuses : (r : Refusal) → err r ≡ given_outcome q f → err r ≡ in_turn (to_resolve q f)
  given_refuses r h = sym (turn_refuses _ _ r (sym h))

  -- where what is given passes, the paths decide
  module _ (h : ok ≡ given_outcome q f) where
    paths_decide : in_turn (to_resolve q f) ≡ paths_outcome (pairs_in q.pairs)
    paths_decide = turn_passes _ _ (sym h) ∙ turn_last _

    pub paths_refuse : (r : Refusal) → Err r ≡ resolving_rules q → err r ≡ in_turn (to_resolve q f)
    unfolding first_of
    paths_refuse r e = go (any (map pair_fails (pairs_in q.pairs))) refl
      where
        go : (b : Bool) → any (map pair_fails (pairs_in q.pairs)) ≡ b → err r ≡ in_turn (to_resolve q f)
        go true t = rw (paths_decide, t) (let k = (rw t at e) in cc)
        go false t = absurd (let k = (rw t at e) in cc)

    pub all_pass : (p : Rules) → Ok p ≡ resolving_rules q → (p ≡ q) × (ok ≡ in_turn (to_resolve q f))
    unfolding first_of
    all_pass p e = go (any (map pair_fails (pairs_in q.pairs))) refl
      where
        go : (b : Bool) → any (map pair_fails (pairs_in q.pairs)) ≡ b → (p ≡ q) × (ok ≡ in_turn (to_resolve q f))
        go true t = absurd (let k = (rw t at e) in cc)
        go false t = (let k = (rw t at e) in cc, rw (paths_decide, t))

  -- where all pass, the forms do
  pub forms_passed : in_turn (to_resolve q f) ≡ ok → stage Forms q ≡ ok
  unfolding given_outcome
  forms_passed h = (turn_both _ _ (turn_both _ _ (turn_both _ _ (turn_both _ _ (turn_both _ _ h).0).1).1).1).0

-- stages behind others are looked at where these pass
pub turns_pass : (os more : List Outcome) → in_turn os ≡ ok → in_turn (os ++ more) ≡ in_turn more
turns_pass [] more h = refl
turns_pass (o ∷ os) more h = let t = turn_both o os h in turn_passes o (os ++ more) t.0 ∙ turns_pass os more t.1

pub turns_refuse : (os more : List Outcome) (r : Refusal) → in_turn os ≡ err r → in_turn (os ++ more) ≡ err r
unfolding in_turn
turns_refuse [] more r h = absurd (refused_not (sym h))
turns_refuse ((Ok tt) ∷ os) more r h = turns_refuse os more r h
turns_refuse (Err s ∷ os) more r h = h
