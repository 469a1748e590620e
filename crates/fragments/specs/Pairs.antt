-- A pair's parts: "The parts stand in the slices pair by pair, each pair's in the order of its row" (docs/FORMAT.md, "Rules").
-- Assumes nothing.
use Rattle.std.specs.Prelude.{ℕ, zero, suc, ◌+◌, ◌*◌, Bool, true, not, List, [], ◌∷◌, eqb, length, drop}
use Rattle.words.specs.Texts.{part}
use Rattle.fragments.specs.declared.forms.Side.{Side}
use Rattle.fragments.specs.declared.forms.Side.TheVariants.{Pattern, Template}
use Rattle.fragments.specs.declared.forms.Form.{Form}
use Rattle.fragments.specs.declared.directory.Slice.{Slice}
use Rattle.fragments.specs.declared.directory.Slice.TheVariants.{Words, Bytes}
use Rattle.fragments.specs.Forms.{side_number, form_number}
use Rattle.fragments.specs.Directory.{entry, before, counted, row_count}

-- a pair: the directory from its row on, and the words and bytes from its first on
pub record Pair : Type 0 where
  pub row : List ℕ
  pub words : List ℕ
  pub bytes : List ℕ

abbrev pub pair_of : List ℕ → List ℕ → List ℕ → Pair
pair_of row words bytes = record { row = row; words = words; bytes = bytes }

-- all pairs: the directory, and all words and bytes
pub record Pairs : Type 0 where
  pub directory : List ℕ
  pub words : List ℕ
  pub bytes : List ℕ

abbrev pub pairs_of : List ℕ → List ℕ → List ℕ → Pairs
pairs_of directory words bytes = record { directory = directory; words = words; bytes = bytes }

abbrev pub first_pair : Pairs → Pair
first_pair ps = pair_of ps.directory ps.words ps.bytes

-- the pair behind another
abbrev pub next_pair : Pair → Pair
next_pair p = pair_of (drop 27 p.row) (drop (counted Words p.row) p.words) (drop (counted Bytes p.row) p.bytes)

-- n pairs, each behind the one before, and all of a directory's
unfoldable pub pairs_from : ℕ → Pair → List Pair
pairs_from zero p = []
pairs_from (suc n) p = p ∷ pairs_from n (next_pair p)

abbrev pub pairs_in : Pairs → List Pair
pairs_in ps = pairs_from (row_count ps.directory) (first_pair ps)

-- the pair of a number, behind the ones before it
unfoldable pub pair_behind : ℕ → Pair → Pair
pair_behind zero p = p
pair_behind (suc n) p = pair_behind n (next_pair p)

abbrev pub pair_at : ℕ → Pairs → Pair
pair_at number ps = pair_behind number (first_pair ps)

-- the words, or bytes, that an entry counts
abbrev pub part_of : {A : Type 0} → Slice → List ℕ → List A → ℕ → List A
part_of slice row from k = part from (before slice k row) (before slice k row + entry row k)

abbrev pub words_in : Pair → ℕ → List ℕ
words_in p k = part_of Words p.row p.words k

abbrev pub bytes_in : Pair → ℕ → List ℕ
bytes_in p k = part_of Bytes p.row p.bytes k

-- a side's token list, text and code; the pattern's list is always given
abbrev pub list_of : Side → Pair → List ℕ
list_of side p = words_in p (4 * side_number side)

abbrev pub text_of : Side → Pair → List ℕ
text_of side p = bytes_in p (4 * side_number side + 1)

abbrev pub code_of : Side → Pair → List ℕ
code_of side p = bytes_in p (4 * side_number side + 2)

abbrev pub is_given : Side → Pair → Bool
is_given Pattern p = true
is_given Template p = not (eqb (entry p.row 3) 0)

-- the tree of a form and its facts
abbrev pub tree_of : Side → Form → Pair → List ℕ
tree_of side form p = words_in p (4 * form_number form + 2 * side_number side + 7)

abbrev pub facts_of : Side → Form → Pair → List ℕ
facts_of side form p = words_in p (4 * form_number form + 2 * side_number side + 8)

-- "A tree of 0 words is absent."
abbrev pub is_present : Side → Form → Pair → Bool
is_present side form p = not (eqb (length (tree_of side form p)) 0)
