-- What the operations on token lists answer in numbers.
-- Assumes nothing.
use Rattle.std.specs.Prelude.{ℕ, ◌-◌, List, ◌++◌, map, length, replicate, Result, Ok, Err}
use Rattle.errors.specs.declared.Refusal.{Refusal}
use Rattle.errors.specs.Refusals.{number_of}
use Rattle.parsing.specs.Reading.{Var, Reading, placeholders_in}
use Rattle.parsing.specs.Patterns.{all_nots}
use Rattle.rust_code.specs.RawCode.{written_number, written_length}
use Rattle.ssr.specs.declared.list_answers.RawCode.{RawCode}
use Rattle.ssr.specs.declared.list_answers.NamedPlaceholder.{NamedPlaceholder}
use Rattle.ssr.specs.declared.list_answers.ReadTokens.{ReadTokens}

-- a list with an element behind it up to n
abbrev pub padded_to : {A : Type 0} → ℕ → A → List A → List A
padded_to n z xs = xs ++ replicate (n - length xs) z

-- a placeholder's name and how many constraints it has
abbrev pub name_of : Var → NamedPlaceholder
name_of v = record { start = v.name.range.start; end = v.name.range.end; constraints = length v.nots }

abbrev pub no_name : NamedPlaceholder
no_name = record { start = 0; end = 0; constraints = 0 }

-- 01's number, the placeholders' names, and the constraints of all in turn, each list with 0 behind it; a refusal has its number only
abbrev pub tokens_of : Result (List Var) Refusal → ReadTokens
tokens_of (Ok vs) = record {
  refusal = 0;
  count = length vs;
  placeholders = padded_to 8 no_name (map name_of vs);
  constraints = length (all_nots vs);
  nots = padded_to 50 0 (all_nots vs);
}
tokens_of (Err r) = record { refusal = number_of r; count = 0; placeholders = replicate 8 no_name; constraints = 0; nots = replicate 50 0 }

-- reading tokens
abbrev pub tokens_read : Reading → ReadTokens
tokens_read r = tokens_of (placeholders_in r)

-- writing raw code: 01's number and the code's length
abbrev pub code_written : Result ℕ Refusal → RawCode
code_written w = record { refusal = written_number w; length = written_length w }
