-- What the code's placeholders are of the list's, and the constraints and names of these.
-- Assumes nothing.
use Rattle.std.specs.Prelude.{ℕ, Bool, List, [], ◌∷◌, ◌++◌, take, map, Option, position}
use Rattle.words.specs.Texts.{same_text}
use Rattle.tokens.specs.Tokens.{token_text}
use Rattle.parsing.specs.declared.arrays.Nots.{Nots}
use Rattle.parsing.specs.declared.arrays.Placeholders.{Placeholders}
use Rattle.parsing.specs.declared.patterns.Placeholder.{Placeholder}
use Rattle.parsing.specs.Reading.{Var}

-- what stands in the arrays: a placeholder's constraints, and a list's placeholders
abbrev pub nots_of : Nots → List ℕ
nots_of n = take n.count n.bytes

abbrev pub placeholders_of : Placeholders → List Placeholder
placeholders_of p = take p.count p.items

-- a placeholder of the list: its name is an IDENT, kind 1
abbrev pub var_of : Placeholder → Var
var_of p = record { start = p.whole.start; end = p.whole.end; name = record { kind = 1; range = p.name }; nots = nots_of p.nots }

abbrev pub vars_at : List Placeholder → List Var
vars_at ps = map var_of ps

-- the constraints of all placeholders in turn
unfoldable pub all_nots : List Var → List ℕ
all_nots [] = []
all_nots (v ∷ vs) = v.nots ++ all_nots vs

-- a placeholder's name is a text, and the first whose name is
abbrev pub has_name_text : List ℕ → List ℕ → Var → Bool
has_name_text text x v = same_text (token_text text v.name) x

abbrev pub name_position : List ℕ → List Var → List ℕ → Option ℕ
name_position text vs x = position (has_name_text text x) vs
