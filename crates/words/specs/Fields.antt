-- Document 01, "Words": the fields of each word. A part of a word list begins at the first word of an element, a token, a fact or a parse;
-- a word past the end of a part counts as 0, which is a word of no kind.
-- Assumes nothing.
use Rattle.std.specs.Prelude.{ℕ, ◌+◌, ◌*◌, ◌/◌, ◌%◌, Bool, List, eqb, get_or}
use Rattle.words.specs.declared.fields.WordKind.{WordKind}
use Rattle.words.specs.declared.fields.WordKind.TheVariants as kinds

-- "The top four bits of a word are its kind, the low 28 its value"
abbrev pub word_kind : ℕ → ℕ
word_kind w = w / 268435456

abbrev pub word_value : ℕ → ℕ
word_value w = w % 268435456

-- the kinds: "kind 1 (node) or 2 (token)", "a kind 3 word (start byte) and a kind 4 word (end byte)", "start (kind 5), end (kind 6), length
-- (kind 7)", "a kind 8 word" of a parse, "a kind 9 word" of a fact, "then three kind 10 values"
abbrev pub kind_number : WordKind → ℕ
kind_number kinds.Node = 1
kind_number kinds.Token = 2
kind_number kinds.Start = 3
kind_number kinds.End = 4
kind_number kinds.EditStart = 5
kind_number kinds.EditEnd = 6
kind_number kinds.EditLength = 7
kind_number kinds.Parse = 8
kind_number kinds.Fact = 9
kind_number kinds.Value = 10

-- word i of a part, its kind and its value
abbrev pub word_at : List ℕ → ℕ → ℕ
word_at c i = get_or c i 0

abbrev pub kind_at : List ℕ → ℕ → ℕ
kind_at c i = word_kind (word_at c i)

abbrev pub value_at : List ℕ → ℕ → ℕ
value_at c i = word_value (word_at c i)

-- "Element: kind 1 (node) or 2 (token), 12 bits syntax kind, 16 bits subtree size in elements, itself included;
-- then a kind 3 word (start byte) and a kind 4 word (end byte)"
abbrev pub is_a_node : List ℕ → Bool
is_a_node c = eqb (kind_at c 0) 1

abbrev pub is_a_token : List ℕ → Bool
is_a_token c = eqb (kind_at c 0) 2

abbrev pub syntax_kind : List ℕ → ℕ
syntax_kind c = value_at c 0 / 65536

abbrev pub size_of : List ℕ → ℕ
size_of c = value_at c 0 % 65536

abbrev pub start_of : List ℕ → ℕ
start_of c = value_at c 1

abbrev pub end_of : List ℕ → ℕ
end_of c = value_at c 2

-- "Token list: one kind 2 word a token, syntax kind and length in bytes"
abbrev pub token_kind : List ℕ → ℕ
token_kind c = value_at c 0 / 65536

abbrev pub token_length : List ℕ → ℕ
token_length c = value_at c 0 % 65536

-- "Fact: a kind 9 word (4 bits sort, 24 bits element), then three kind 10 values" (the values: value_at c 1, 2, 3)
abbrev pub fact_sort : List ℕ → ℕ
fact_sort c = value_at c 0 / 16777216

abbrev pub fact_element : List ℕ → ℕ
fact_element c = value_at c 0 % 16777216

-- "Parse: a kind 8 word (12 bits template root kind, 16 bits count of node ranges), the text's start and end (kinds 3 and 4)"
-- (start and end: start_of, end_of), "then each node range (kinds 3 and 4)"
abbrev pub parse_kind : List ℕ → ℕ
parse_kind c = value_at c 0 / 65536

abbrev pub parse_count : List ℕ → ℕ
parse_count c = value_at c 0 % 65536

-- the word of a kind whose value is the low 28 bits of a number
abbrev pub word_of : ℕ → ℕ → ℕ
word_of kind n = kind * 268435456 + n % 268435456

-- "Edit list: for each edit start (kind 5), end (kind 6), length (kind 7)"
abbrev pub edit_start : ℕ → ℕ
edit_start n = word_of 5 n

abbrev pub edit_end : ℕ → ℕ
edit_end n = word_of 6 n

abbrev pub edit_length : ℕ → ℕ
edit_length n = word_of 7 n
