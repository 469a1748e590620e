-- The numbers and the records of the stored sample.
use Rattle.std.specs.Prelude.{◌≡◌, ℕ, ◌+◌, ◌*◌, List, ◌++◌, length, slice_index}
use Rattle.std.specs.declared.option.Option.{Option}
use Rattle.std.specs.Io.KnownBytes.{Consumes}

-- the number that four bytes are, the lowest first
unfoldable pub number_of : List ℕ → ℕ
number_of s = slice_index s 0 + 256 * slice_index s 1 + 65536 * slice_index s 2 + 16777216 * slice_index s 3

-- the bytes that a reader has left, as far as they are known, lost a record: the number of its body's bytes, and its body
abbrev pub TakesRecord : Option (List ℕ) → Option (List ℕ) → List ℕ → Type 0
TakesRecord before after body =
    (head : List ℕ) × (length head ≡ 4) × (number_of head ≡ length body) × Consumes before after (head ++ body)
