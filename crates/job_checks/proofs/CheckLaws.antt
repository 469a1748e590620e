-- Checks that pass.
-- Assumes nothing.
use Rattle.std.proofs.Common.{◌≡◌, refl, Bool, true, false, not, List, ◌∷◌}
use mathlib.Core.Bool.{true≢false}
use Rattle.errors.specs.Refusals.{ok}
use Rattle.errors.specs.Refusals.{Check, first_of}
use Rattle.errors.proofs.Laws.{refused_not}

-- where checks pass, the first does and the others do
pub first-both : (c : Check) (cs : List Check) → first_of (c ∷ cs) ≡ ok → (c.fails ≡ false) × (first_of cs ≡ ok)
unfolding first_of
first-both c cs h = by c.fails refl
  where
    by : (b : Bool) → c.fails ≡ b → (c.fails ≡ false) × (first_of cs ≡ ok)
    by true e = absurd (refused_not {r = c.refusal} (rw e at h))
    by false e = (e, rw e at h)

pub not_false : (b : Bool) → not b ≡ false → b ≡ true
not_false true h = refl
not_false false h = absurd (true≢false h)
