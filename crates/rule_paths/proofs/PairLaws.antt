-- The pairs whose rules are resolved, one after the other.
-- Assumes nothing.
use Rattle.std.proofs.Common.{◌≡◌, refl, sym, ◌∙◌, Bool, true, false, List, [], ◌∷◌, map, ℕ, ◌≤◌, length, Some, arith}
use Rattle.std.specs.List.{AllByRecursion}
use Rattle.errors.specs.declared.Refusal.{Refusal}
use Rattle.errors.specs.declared.Refusal.TheVariants.{UnresolvedPath}
use Rattle.errors.specs.Refusals.{ok, err}
use Rattle.errors.proofs.Laws.{refused_not}
use Rattle.fragments.specs.Pairs.{Pair, pairs_in}
use Rattle.fragments.proofs.PairLaws.{pairs_within}
use Rattle.rules.specs.declared.stages.Stage.TheVariants.{Trees}
use Rattle.rules.specs.Forms.{any}
use Rattle.rules.specs.Stages.{stage_outcome}
use Rattle.rules.proofs.StageLaws.{stage_both}
use Rattle.checks.specs.declared.Rules.{Rules}
use Rattle.checks.specs.Given.{rule_trees}
use Rattle.rule_paths.specs.RulePaths.{pair_fails, unresolved_if}
use Rattle.rule_paths.specs.Needs.{Roomy, Passed}
use Rattle.rule_paths.proofs.FailLaws.{none_fails}
use Rattle.rule_paths.proofs.NeedLaws.{roomy_part}

-- pairs of which some are left to be looked at
pub record Ahead (q : Rules) (ps : List Pair) : Type 0 where
  pub same : any (map pair_fails ps) ≡ any (map pair_fails (pairs_in q.pairs))
  pub passed : stage_outcome (Trees (Some q.fact_bytes)) ps ≡ ok
  pub within : AllByRecursion (λ p. length p.words ≤ length q.pairs.words) ps

pub all_ahead : (q : Rules) → rule_trees q ≡ ok → Ahead q (pairs_in q.pairs)
all_ahead q h = record { same = refl; passed = h; within = pairs_within _ _ (length q.pairs.words) (omega arith) }

module _ (q : Rules) (p : Pair) (ps : List Pair) (a : Ahead q (p ∷ ps)) where
  pub next_passed : Passed q.fact_bytes p
  next_passed = (stage_both (Trees (Some q.fact_bytes)) p ps a.passed).0

  pub next_roomy : (n : ℕ) → Roomy n q.pairs.words → Roomy n p.words
  next_roomy n r = roomy_part n q.pairs.words p.words r a.within.0

  pub next_ahead : ok ≡ unresolved_if (pair_fails p) → Ahead q ps
  next_ahead h = record {
    same = let e = none_fails (pair_fails p) h in (rw e at a.same);
    passed = (stage_both (Trees (Some q.fact_bytes)) p ps a.passed).1;
    within = a.within.1;
  }

  pub some_fails : (r : Refusal) → err r ≡ unresolved_if (pair_fails p) → (r ≡ UnresolvedPath) × (any (map pair_fails (pairs_in q.pairs)) ≡ true)
  some_fails r h = go (pair_fails p) refl
    where
      go : (b : Bool) → pair_fails p ≡ b → (r ≡ UnresolvedPath) × (any (map pair_fails (pairs_in q.pairs)) ≡ true)
      go true e = let k : err r ≡ err UnresolvedPath = h ∙ rw e in (cc, sym a.same ∙ rw e)
      go false e = absurd (refused_not (h ∙ rw e))

pub none_ahead : (q : Rules) → Ahead q [] → any (map pair_fails (pairs_in q.pairs)) ≡ false
none_ahead q a = sym a.same
