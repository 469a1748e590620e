-- Whether a template's paths can be rendered, element by element.
-- Assumes nothing.
use mathlib.Core.Path.{◌≡◌, refl}
use mathlib.Core.Bool.{true, false, and-false}
use Prim.Native.Nat.{ℕ, zero, suc, ◌+◌, ◌<◌}
use native.Mathlib.Numerals.{add-one}
use native.Mathlib.Omega.{arith}
use Rattle.words.proofs.TestLaws.{same_or, and_of}
use Rattle.paths.specs.Steps.{SideTree}
use Rattle.get_match.specs.Templates.{renders_at, renders_below}

module _ (t : SideTree) («module» : ℕ) where
  pub renders_none : renders_below 0 t «module» ≡ true
  unfolding renders_below
  renders_none = refl

  pub renders_next : (e : ℕ) → renders_below e t «module» ≡ true → renders_at t «module» e ≡ true → renders_below (e + 1) t «module» ≡ true
  unfolding renders_below
  renders_next e below h = rw add-one (and_of below h)

  pub renders_not : (e m : ℕ) → renders_at t «module» e ≡ false → e < m → renders_below m t «module» ≡ false
  unfolding renders_below
  renders_not e zero h k = absurd (omega arith)
  renders_not e (suc m) h k =
      same_or e m (λ s. let at = rw s at h in rw at (and-false (renders_below m t «module»)))
      (λ d. rw (renders_not e m h (omega arith)))
