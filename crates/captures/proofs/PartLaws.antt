-- An attempt that matches, and two in turn that do, taken apart.
-- Assumes nothing.
use mathlib.Core.Path.{◌≡◌, refl, sym, ap}
use mathlib.Core.Bool.{Bool, true, false, false≢true}
use mathlib.Core.List.{List, [], ◌++◌}
use Rattle.captures.specs.Attempts.{Event, Attempt, failed, matched, and_then, given}

abbrev pub events_of : Attempt → List Event
events_of failed = []
events_of (matched es) = es

abbrev is_match : Attempt → Bool
is_match failed = false
is_match (matched es) = true

pub fails_not : {A : Type 0} (es : List Event) → failed ≡ matched es → A
fails_not es e = absurd (false≢true (ap is_match e))

pub record Parted (a b : Attempt) (es : List Event) : Type 0 where
  pub first : List Event
  pub second : List Event
  pub first_is : a ≡ matched first
  pub second_is : b ≡ matched second
  pub whole : es ≡ first ++ second

pub parted : (a b : Attempt) (es : List Event) → and_then a b ≡ matched es → Parted a b es
unfolding and_then
parted failed b es e = fails_not es e
parted (matched fs) failed es e = fails_not es e
parted (matched fs) (matched gs) es e = record { first = fs; second = gs; first_is = refl; second_is = refl; whole = sym (ap events_of e) }

pub given_holds : (b : Bool) (es : List Event) → given b ≡ matched es → (b ≡ true) × (es ≡ [])
given_holds true es e = (refl, sym (ap events_of e))
given_holds false es e = fails_not es e
