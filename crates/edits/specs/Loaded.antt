-- An edit list as a loader reads it, document 01: "Edit list, bytes, words little-endian: for each edit start (kind 5), end (kind 6), length
-- (kind 7), replacement"; "The top four bits of a word are its kind, the low 28 its value".
-- Assumes nothing.
use Rattle.std.specs.Prelude.{ℕ, zero, suc, ◌+◌, ◌*◌, ◌<◌, List, [], ◌∷◌, length, take, drop, get_or}
use Rattle.words.specs.Fields.{word_value}
use Rattle.edits.specs.Edits.{Edit}

-- the value of the word that begins at byte i
abbrev pub value_at : ℕ → List ℕ → ℕ
value_at i bs = word_value (get_or bs i 0 + get_or bs (i + 1) 0 * 256 + get_or bs (i + 2) 0 * 65536 + get_or bs (i + 3) 0 * 16777216)

-- the first n edits of a list, or all where it has fewer
unfoldable pub read_list : ℕ → List ℕ → List Edit
read_list zero bs = []
read_list (suc n) [] = []
read_list (suc n) (b ∷ bs) =
    let list = b ∷ bs in
    record { start = value_at 0 list; end = value_at 4 list; text = take (value_at 8 list) (drop 12 list) }
    ∷ read_list n (drop (value_at 8 list) (drop 12 list))

-- each number of an edit is the value of a word
abbrev pub Small : Edit → Type 0
Small e = (e.start < 268435456) × (e.end < 268435456) × (length e.text < 268435456)

abbrev pub AllSmall : List Edit → Type 0
AllSmall [] = Unit {0}
AllSmall (e ∷ es) = Small e × AllSmall es
