-- The directory of pairs, docs/FORMAT.md, "Rules": "a row of 27 lengths for each pair". Every fault of it is refusal 1.
-- Assumes nothing.
use Rattle.std.specs.Prelude.{ℕ, zero, suc, ◌+◌, ◌/◌, ◌%◌, Bool, true, cond, ◌&&◌, ◌||◌, List, eqb, leb, length, drop, get_or}
use Rattle.fragments.specs.declared.directory.Slice.{Slice}
use Rattle.fragments.specs.declared.directory.Slice.TheVariants.{Words, Bytes}

-- entry k of the row that a part of the directory begins with
abbrev pub entry : List ℕ → ℕ → ℕ
entry row k = get_or row k 0

-- the entries that count words, "0, 4, 7, 8, .. 26", and those that count bytes, "1, 2, 5, 6"
abbrev pub counts : Slice → ℕ → Bool
counts Words k = eqb k 0 || eqb k 4 || leb 7 k
counts Bytes k = eqb k 1 || eqb k 2 || eqb k 5 || eqb k 6

abbrev pub count_at : Slice → ℕ → List ℕ → ℕ
count_at slice k row = cond (counts slice k) (entry row k) 0

-- how many words, or bytes, the entries before k count
unfoldable pub before : Slice → ℕ → List ℕ → ℕ
before slice zero row = 0
before slice (suc k) row = before slice k row + count_at slice k row

-- how many a row counts
abbrev pub counted : Slice → List ℕ → ℕ
counted slice row = before slice 27 row

-- "entry 3 over 1; entry 3 equal to 0 with one of the entries 4 to 6 not 0"
abbrev pub is_row : List ℕ → Bool
is_row row = eqb (entry row 3) 1 || (eqb (entry row 3) 0 && eqb (entry row 4) 0 && eqb (entry row 5) 0 && eqb (entry row 6) 0)

-- of n rows: each is one, and what they count together, "without a bound"
unfoldable pub are_rows : ℕ → List ℕ → Bool
are_rows zero directory = true
are_rows (suc n) directory = is_row directory && are_rows n (drop 27 directory)

unfoldable pub total : Slice → ℕ → List ℕ → ℕ
total slice zero directory = 0
total slice (suc n) directory = counted slice directory + total slice n (drop 27 directory)

-- how many rows there are
abbrev pub row_count : List ℕ → ℕ
row_count directory = length directory / 27

-- "a directory whose length is not a multiple of 27; .. or counts that do not add up to exactly the length of the word slice and of the
-- byte slice"
abbrev pub add_up : ℕ → List ℕ → ℕ → ℕ → Bool
add_up n directory words bytes = are_rows n directory && eqb (total Words n directory) words && eqb (total Bytes n directory) bytes

unfoldable pub is_directory : List ℕ → List ℕ → List ℕ → Bool
is_directory directory words bytes = eqb (length directory % 27) 0 && add_up (row_count directory) directory (length words) (length bytes)
