-- Stand-in names, document 01: "An IDENT that a rule writes out as a stand-in name is a placeholder too, by its text."
-- Assumes nothing.
use Rattle.std.specs.Prelude.{ℕ, Bool, List, ◌++◌, Option, position}
use Rattle.words.specs.Texts.{same_text, stand_in_prefix}
use Rattle.tokens.specs.Tokens.{token_text}
use Rattle.parsing.specs.Reading.{Var}

-- a placeholder's stand-in name
abbrev pub stand_in_name : List ℕ → Var → List ℕ
stand_in_name text v = stand_in_prefix ++ token_text text v.name

abbrev pub has_stand_in : List ℕ → List ℕ → Var → Bool
has_stand_in text x v = same_text (stand_in_name text v) x

-- the first placeholder whose stand-in name is x
abbrev pub stand_in_position : List ℕ → List Var → List ℕ → Option ℕ
stand_in_position text vs x = position (has_stand_in text x) vs
