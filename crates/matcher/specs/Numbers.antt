-- The word of a number that may be there: 0 where it is not, else one more than it.
-- Assumes nothing.
use Rattle.std.specs.Prelude.{ℕ, ◌+◌, ◌-◌, cond, Option, Some, None, eqb}

abbrev pub word_of : Option ℕ → ℕ
word_of None = 0
word_of (Some n) = n + 1

abbrev pub number_in : ℕ → Option ℕ
number_in w = cond (eqb w 0) None (Some (w - 1))
