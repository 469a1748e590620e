-- A token list, document 01, "Words": "one kind 2 word a token, syntax kind and length in bytes (1 to 65,535); texts follow each other and
-- fill the text"; "others 12 to 1,023".
-- Assumes nothing.
use Rattle.std.specs.Prelude.{ℕ, ◌+◌, Bool, true, ◌&&◌, List, [], ◌∷◌, eqb, leb, length}
use Rattle.words.specs.Fields.{kind_at, token_kind, token_length}
use Rattle.words.specs.Texts.{part}
use Rattle.tokens.specs.declared.Token.{Token}
use Rattle.tokens.specs.declared.TokenList.{TokenList}

-- the token that a part of the words begins with, at a byte, and the tokens of a part
abbrev pub token_at : List ℕ → ℕ → Token
token_at c at = record { kind = token_kind c; range = record { start = at; end = at + token_length c } }

unfoldable pub tokens_from : List ℕ → ℕ → List Token
tokens_from [] at = []
tokens_from (w ∷ ws) at = token_at (w ∷ ws) at ∷ tokens_from ws (at + token_length (w ∷ ws))

-- a token's text in the list's text
abbrev pub token_text : List ℕ → Token → List ℕ
token_text text t = part text t.range.start t.range.end

-- refusal 1: "malformed list or over 255 tokens"
abbrev pub is_token_word : List ℕ → Bool
is_token_word c = eqb (kind_at c 0) 2 && leb 1 (token_kind c) && leb (token_kind c) 1023 && leb 1 (token_length c)

unfoldable pub all_token_words : List ℕ → Bool
all_token_words [] = true
all_token_words (w ∷ ws) = is_token_word (w ∷ ws) && all_token_words ws

-- the bytes of all tokens
unfoldable pub total_length : List ℕ → ℕ
total_length [] = 0
total_length (w ∷ ws) = token_length (w ∷ ws) + total_length ws

unfoldable pub is_token_list : List ℕ → List ℕ → Bool
is_token_list words text = leb (length words) 255 && all_token_words words && eqb (total_length words) (length text)

-- a list as it is handed in: its words, and its text
abbrev pub parts_of : TokenList → List ℕ × List ℕ
parts_of l = (l.words.now, l.text.now)
