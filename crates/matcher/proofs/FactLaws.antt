-- The steps of `check_expr_type`.
-- Assumes nothing.
use mathlib.Core.Path.{◌≡◌}
use mathlib.Core.Bool.{Bool, false, ◌&&◌, and-false}
use mathlib.Core.List.{List, []}
use Prim.Native.Nat.{ℕ, suc, ◌+◌, ◌-◌, ◌≤◌, ◌<◌}
use native.Mathlib.Omega.{arith}
use lib.Dec.{eqb}
use borrow.Author.Tests.{ne_eqb}
use Rattle.std.proofs.Common.{None}
use Rattle.facts.specs.Facts.{fact_at, selector, is_key}
use Rattle.facts.specs.declared.Sort.TheVariants.{Expression}
use Rattle.facts.proofs.KeyLaws.{low_selector}
use Rattle.matcher.specs.FileFacts.{the_fact, derefs_at, derefs_from}

-- ---- a step is a value, and no value is 2 ^ 28

no_key : (s e x : ℕ) (l : List ℕ) → 268435456 ≤ x → is_key s e x (fact_at l) ≡ false
no_key s e x l h =
    let f = fact_at l in
    let k : selector f < 268435456 = low_selector f (omega arith) in
    rw (ne_eqb (selector f) x (λ q. omega arith)) (both (eqb f.sort s) (eqb f.element e))
  where
    both : (a b : Bool) → (a && b && false) ≡ false
    both a b = and-false (a && b)

-- ---- how often an expression is dereferenced, from a step on

module _ (facts : List ℕ) (e type : ℕ) where
  pub deref_start : (n : ℕ) → derefs_from n facts e type 0 ≡ derefs_from (n - 0) facts e type 0
  deref_start n = let q : n - 0 ≡ n = omega arith in rw q

  pub deref_step : (n step : ℕ) → step < n → derefs_from (n - step) facts e type step ≡ derefs_at type step (derefs_from (n - (step + 1)) facts e type (step + 1)) (the_fact facts Expression e step)
  unfolding derefs_from
  deref_step n step h = let q : n - step ≡ suc (n - (step + 1)) = omega arith in rw q

  pub deref_end : (n step : ℕ) → n ≤ step → derefs_from (n - step) facts e type step ≡ None
  unfolding derefs_from
  deref_end n step h = let q : n - step ≡ 0 = omega arith in rw q
