-- Laws of tests, for this crate and those above it.
-- Assumes nothing.
use mathlib.Core.Path.{◌≡◌, refl, sym}
use mathlib.Core.Bool.{Bool, true, false, ◌&&◌, ◌||◌, true≢false}
use Prim.Native.Nat.{ℕ, suc, ◌<◌, ◌≤◌}
use native.Mathlib.Omega.{arith}
use lib.Dec.{eqb, ltb}
use borrow.Author.Tests.{eqb-true, eqb-false, ltb-true, ltb-false, lt-ltb}

-- two numbers are equal, or not
pub same_or : {P : Type 0} (x y : ℕ) → (x ≡ y → P) → ((x ≡ y → ⊥) → P) → P
same_or {P} x y f g = by (eqb x y) refl
  where
    by : (b : Bool) → eqb x y ≡ b → P
    by true e = f (eqb-true x y e)
    by false e = g (eqb-false x y e)

-- one number is lower than another, or not
pub low_or : {P : Type 0} (x y : ℕ) → (x < y → P) → (y ≤ x → P) → P
low_or {P} x y f g = by (ltb x y) refl
  where
    by : (b : Bool) → ltb x y ≡ b → P
    by true e = f (ltb-true x y e)
    by false e = g (ltb-false x y e)

-- two tests that hold together are the same
pub both_ways : (a b : Bool) → (a ≡ true → b ≡ true) → (b ≡ true → a ≡ true) → a ≡ b
both_ways true b f g = sym (f refl)
both_ways false true f g = g refl
both_ways false false f g = refl

-- a test that cannot hold
pub never : (b : Bool) → (b ≡ true → ⊥) → b ≡ false
never true n = absurd (n refl)
never false n = refl

-- a test of two parts
pub and_both : (a b : Bool) → (a && b) ≡ true → (a ≡ true) × (b ≡ true)
and_both true b h = (refl, h)
and_both false b h = absurd (true≢false (sym h))

pub and_of : {a b : Bool} → a ≡ true → b ≡ true → (a && b) ≡ true
and_of p q = rw (p, q)

pub or_neither : (a b : Bool) → (a || b) ≡ false → (a ≡ false) × (b ≡ false)
or_neither true b h = absurd (true≢false h)
or_neither false b h = (refl, h)

-- the second of two tests holds where the first does not
pub or_second : (a b : Bool) → a ≡ false → (a || b) ≡ true → b ≡ true
or_second a b e h = rw e at h

-- one more on both sides
pub ltb_suc : (a b : ℕ) → ltb (suc a) (suc b) ≡ ltb a b
ltb_suc a b =
    both_ways (ltb (suc a) (suc b)) (ltb a b)
    (λ h. lt-ltb a b (omega (arith, ltb-true (suc a) (suc b) h)))
    (λ h. lt-ltb (suc a) (suc b) (omega (arith, ltb-true a b h)))
