-- What an attempt to match gives: no match, or what it records, in turn. The crate hands one `Match` through all its functions and each
-- writes into it; here what a function records is its value, so that it cannot depend on what was recorded before, and the values of
-- attempts made in turn are put together.
-- Assumes nothing.
use Rattle.std.specs.Prelude.{ℕ, Bool, cond, List, [], ◌∷◌, ◌++◌}
use Rattle.captures.specs.declared.Binding.{Binding}

-- `placeholder_values.insert`, by the placeholder's place in the pattern, and `ignored_comments.push`, a comment by its text
pub data Event : Type 0 where
  Bound : (slot : ℕ) (binding : Binding) → Event
  Noted : (text : List ℕ) → Event

pub data Attempt : Type 0 where
  failed : Attempt
  matched : (events : List Event) → Attempt

-- one attempt and then another: both must match
unfoldable pub and_then : Attempt → Attempt → Attempt
and_then failed b = failed
and_then (matched es) failed = failed
and_then (matched es) (matched fs) = matched (es ++ fs)

-- a test, which records nothing
abbrev pub given : Bool → Attempt
given holds = cond holds (matched []) failed

-- the texts of all comments noted, in turn
unfoldable pub comments : List Event → List ℕ
comments [] = []
comments (Bound slot b ∷ es) = comments es
comments (Noted t ∷ es) = t ++ comments es

abbrev pub comments_of : Attempt → List ℕ
comments_of failed = []
comments_of (matched es) = comments es

-- the comments noted, as events
unfoldable pub notes : List Event → List Event
notes [] = []
notes (Bound slot b ∷ es) = notes es
notes (Noted t ∷ es) = Noted t ∷ notes es

abbrev pub notes_of : Attempt → List Event
notes_of failed = []
notes_of (matched es) = notes es
