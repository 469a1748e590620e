-- The stages of the operation.
-- Assumes nothing.
use Rattle.std.proofs.Common.{◌≡◌, refl, sym, ◌∙◌, Bool, true, false, map, Option, Some, Ok, Err}
use Rattle.errors.specs.Refusals.{ok, err, first_of}
use Rattle.errors.specs.declared.Refusal.{Refusal}
use Rattle.errors.proofs.Laws.{turn_passes, turn_refuses, turn_last}
use Rattle.fragments.specs.Pairs.{pairs_in}
use Rattle.rules.specs.Forms.{any}
use Rattle.rules.specs.Stages.{rules_outcome}
use Rattle.checks.specs.declared.Rules.{Rules}
use Rattle.rule_paths.specs.RulePaths.{pair_fails, paths_outcome, resolving_rules}
use Rattle.resolving.specs.declared.Element.{Element}
use Rattle.resolving.specs.Resolving.{resolve_outcome, resolved_by}

module _ (q : Rules) (a : Option Element) where
  pub refused : (r : Refusal) → err r ≡ rules_outcome (Some q.fact_bytes) q.pairs → Err r ≡ resolved_by (resolve_outcome q) a
  unfolding resolve_outcome
  refused r h = rw (turn_refuses _ _ r (sym h))

  module _ (h : ok ≡ rules_outcome (Some q.fact_bytes) q.pairs) where
    last : resolve_outcome q ≡ paths_outcome (pairs_in q.pairs)
    unfolding resolve_outcome
    last = turn_passes _ _ (sym h) ∙ turn_last _

    pub unresolved : (r : Refusal) → Err r ≡ resolving_rules q → Err r ≡ resolved_by (resolve_outcome q) a
    unfolding first_of
    unresolved r e = go (any (map pair_fails (pairs_in q.pairs))) refl
      where
        go : (b : Bool) → any (map pair_fails (pairs_in q.pairs)) ≡ b → Err r ≡ resolved_by (resolve_outcome q) a
        go true t = rw (last, t) (let k = (rw t at e) in cc)
        go false t = absurd (let k = (rw t at e) in cc)

    pub resolves : (p : Rules) → Ok p ≡ resolving_rules q → (p ≡ q) × (Ok a ≡ resolved_by (resolve_outcome q) a)
    unfolding first_of
    resolves p e = go (any (map pair_fails (pairs_in q.pairs))) refl
      where
        go : (b : Bool) → any (map pair_fails (pairs_in q.pairs)) ≡ b → (p ≡ q) × (Ok a ≡ resolved_by (resolve_outcome q) a)
        go true t = absurd (let k = (rw t at e) in cc)
        go false t = (let k = (rw t at e) in cc, rw (last, t))
