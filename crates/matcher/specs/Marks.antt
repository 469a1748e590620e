-- What a rule says of its pattern's elements and of its placeholders.
-- Assumes nothing.
use Rattle.std.specs.Prelude.{ℕ, Bool, not, ◌&&◌, ◌||◌, Option, Some, None}
use Rattle.facts.specs.declared.Call.{Call}
use Rattle.matcher.specs.declared.marks.Mark.{Mark}
use Rattle.matcher.specs.declared.marks.Limit.{Limit}
use Rattle.matcher.specs.Numbers.{number_in}

-- a call's function, and its qualifier type where it has one
abbrev pub call_by : Option ℕ → Option ℕ → Option Call
call_by None qualifier = None
call_by (Some function) qualifier = Some (record { function = function; qualifier = qualifier })

-- which placeholder the element is, what it resolves to as a path, and what it is as a call
abbrev pub slot_in : Mark → Option ℕ
slot_in m = number_in m.placeholder

abbrev pub path_in : Mark → Option ℕ
path_in m = number_in m.path

abbrev pub call_in : Mark → Option Call
call_in m = call_by (number_in m.function) (number_in m.qualifier)

-- of a placeholder, whether its constraints allow code that is, or is not, a literal
abbrev pub allows : Limit → Bool → Bool
allows limit is_literal = (not limit.literal || is_literal) && (not limit.other || not is_literal)
