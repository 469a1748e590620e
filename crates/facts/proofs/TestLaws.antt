-- What stops a test of a list, and what lets it go on.
-- Assumes nothing.
use mathlib.Core.Path.{◌≡◌, refl, sym}
use mathlib.Core.Bool.{Bool, true, false, not, ◌&&◌, ◌||◌, true≢false}

pub stopped : (a b c d : Bool) → (a || (b && not c)) ≡ true → (not a && (not b || c) && d) ≡ false
stopped true b c d h = refl
stopped false true true d h = absurd (true≢false (sym h))
stopped false true false d h = refl
stopped false false c d h = absurd (true≢false (sym h))

pub goes_on : (a b c d : Bool) → (a || (b && not c)) ≡ false → (not a && (not b || c) && d) ≡ d
goes_on true b c d h = absurd (true≢false h)
goes_on false true true d h = refl
goes_on false true false d h = absurd (true≢false h)
goes_on false false c d h = refl
