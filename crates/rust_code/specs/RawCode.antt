-- Writing raw code, document 01: "placeholders as `__placeholder_` and the name: 16 does not fit."
-- Assumes nothing.
use Rattle.std.specs.Prelude.{ℕ, Bool, false, cond, List, [], ◌∷◌, ◌++◌, eqb, leb, length, Result, Ok, Err}
use Rattle.errors.specs.declared.Refusal.{Refusal}
use Rattle.errors.specs.declared.Refusal.TheVariants.{DoesNotFit}
use Rattle.errors.specs.Refusals.{number_of}
use Rattle.tokens.specs.Tokens.{token_text}
use Rattle.parsing.specs.Reading.{Element, plain, placeholder, Reading}
use Rattle.rust_code.specs.StandIns.{stand_in_name}

-- an element of a read list as Rust code
abbrev pub element_code : List ℕ → Element → List ℕ
element_code text (plain t) = token_text text t
element_code text (placeholder v) = stand_in_name text v

-- the raw code of a read list
unfoldable pub raw_code : List ℕ → List Element → List ℕ
raw_code text [] = []
raw_code text (e ∷ es) = element_code text e ++ raw_code text es

-- "its list's raw code without WHITESPACE tokens at its ends"
abbrev pub is_space : Element → Bool
is_space (plain t) = eqb t.kind 2
is_space (placeholder v) = false

unfoldable pub trim_start : List Element → List Element
trim_start [] = []
trim_start (e ∷ es) = cond (is_space e) (trim_start es) (e ∷ es)

abbrev pub unless_last : Element → List Element → List Element
unless_last e [] = cond (is_space e) [] (e ∷ [])
unless_last e (x ∷ es) = e ∷ x ∷ es

unfoldable pub trim_end : List Element → List Element
trim_end [] = []
trim_end (e ∷ es) = unless_last e (trim_end es)

abbrev pub tree_text : List ℕ → List Element → List ℕ
tree_text text es = raw_code text (trim_end (trim_start es))

-- the answer in a buffer of which n bytes are used, and the bytes written
abbrev pub code_answer : ℕ → List ℕ → Reading → Result ℕ Refusal
code_answer n text (Err r) = Err r
code_answer n text (Ok es) = cond (leb (length (raw_code text es)) n) (Ok (length (raw_code text es))) (Err DoesNotFit)

abbrev pub code_bytes : ℕ → List ℕ → Reading → List ℕ
code_bytes n text (Err r) = []
code_bytes n text (Ok es) = cond (leb (length (raw_code text es)) n) (raw_code text es) []

-- 01's number of an answer, 0 where the code was written
abbrev pub written_number : Result ℕ Refusal → ℕ
written_number (Ok n) = 0
written_number (Err r) = number_of r

-- the length of the code, 0 where there is none
abbrev pub written_length : Result ℕ Refusal → ℕ
written_length (Ok n) = n
written_length (Err r) = 0
