-- The answer of reading tokens, as the code gives it.
-- Assumes nothing.
use Rattle.std.specs.Prelude.{List, Result, Ok, Err}
use Rattle.errors.specs.declared.Refusal.{Refusal}
use Rattle.parsing.specs.declared.patterns.Pattern.{Pattern}
use Rattle.parsing.specs.Reading.{Var}
use Rattle.parsing.specs.Patterns.{placeholders_of, vars_at}

-- the placeholders of a pattern, in list order
abbrev pub vars_of : Pattern → List Var
vars_of p = vars_at (placeholders_of p.placeholders)

-- the same of an answer
abbrev pub placeholders_read : Result Pattern Refusal → Result (List Var) Refusal
placeholders_read (Ok p) = Ok (vars_of p)
placeholders_read (Err r) = Err r
