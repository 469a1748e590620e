-- Document 01, "What changes shape": "A subtree is handed on as the part of the list that begins at its first word." A part is siblings in
-- turn; these are the parts that its first element and its size lead to, whatever the words are.
-- Assumes nothing.
use Rattle.std.specs.Prelude.{ℕ, ◌+◌, ◌-◌, ◌*◌, cond, List, length, take, drop, min}
use Rattle.words.specs.Fields.{is_a_token, size_of}

-- how many elements the first one has with all below it; it has at least itself, and a token no more
abbrev pub span : List ℕ → ℕ
span l = cond (is_a_token l) 1 (1 + (size_of l - 1))

-- the words of its children, and of what follows it
abbrev pub child_words : List ℕ → List ℕ
child_words l = take (span l * 3 - 3) (drop 3 l)

abbrev pub rest_words : List ℕ → List ℕ
rest_words l = drop (span l * 3) l

-- where the words of the first element with all below it end
abbrev pub end_of_first : List ℕ → ℕ
end_of_first l = min (span l * 3) (length l)
