-- Tokens: when two agree, and `attempt_match_token` of docs/src/src/matching.rs. What later requests change of comparing has a name of its
-- own: `agree`, `same_name` and `same_stop` are over kind and text, `skips` is over a sheet.
-- Assumes nothing.
use Rattle.std.specs.Prelude.{◌≡◌, ℕ, Bool, true, false, cond, ◌&&◌, ◌||◌, List, [], ◌∷◌, Option, Some, None, eqb}
use Rattle.std.specs.List.{list_any}
use Rattle.words.specs.Texts.{same_text}
use Rattle.syntax.specs.Trees.{Elems}
use Rattle.syntax.specs.Accessors.{rest, text_of}
use Rattle.syntax.specs.Siblings.{kind_of, is_a_token, is_comment, skip_trivia}
use Rattle.syntax.specs.Views.{elems_of, IsWithin}
use Rattle.syntax.specs.declared.parts.Part.{Part}
use Rattle.captures.specs.Attempts.{Noted, Attempt, matched}
use Rattle.matcher.specs.declared.token_matching.Skip.{Skip}
use Rattle.matcher.specs.Matcher.{Matcher}

-- two tokens: "p.kind() != code.kind() || p.text() != code.text()"
abbrev pub agree : ℕ → List ℕ → ℕ → List ℕ → Bool
agree k t k' t' = eqb k k' && same_text t t'

-- the names of two record fields, keys of `fields_by_name`
abbrev pub same_name : ℕ → List ℕ → ℕ → List ℕ → Bool
same_name k t k' t' = same_text t t'

-- the token at which a placeholder's run in a token tree stops, and one of the code: `next_pattern_token`
abbrev pub same_stop : ℕ → List ℕ → ℕ → List ℕ → Bool
same_stop k t k' t' = same_text t t'

-- A separator may stand, or be left out, right before a closer: pairs of token kinds.
abbrev pub is_pair : Skip → ℕ → ℕ → Bool
is_pair q k k' = eqb q.separator k && eqb q.closer k'

abbrev pub skips : List Skip → ℕ → ℕ → Bool
skips sheet k k' = list_any (λ q. is_pair q k k') sheet

-- COMMA before R_PAREN, R_CURLY, R_BRACK: `is_closing_token`
abbrev pub skip : ℕ → ℕ → Skip
skip k k' = record { separator = k; closer = k' }

abbrev pub comma_sheet : List Skip
comma_sheet = skip 4 5 ∷ skip 4 6 ∷ skip 4 7 ∷ []

-- "If the code has a comma and the pattern is about to close something, then accept the comma without advancing the pattern"
abbrev pub is_extra : List Skip → Elems → Elems → Bool
is_extra s p c = is_a_token p && skips s (kind_of c) (kind_of p)

-- "Conversely, if the pattern has a comma and the code doesn't, skip that part of the pattern"
abbrev pub past_separator : List Skip → Elems → Elems → Elems
past_separator s p c = cond (is_a_token p && skips s (kind_of p) (kind_of c)) (skip_trivia (rest p)) p

-- "Consume an element from the pattern and make sure it matches", with the rule's text and the file's
abbrev pub is_same_token : List ℕ → List ℕ → Elems → Elems → Bool
is_same_token code text p c = is_a_token p && agree (kind_of p) (text_of code p) (kind_of c) (text_of text c)

-- `attempt_match_token` of a token that is no trivia, from the pattern's next element that is none: whether it matches, and what is left of
-- the pattern then
abbrev pub matches_token : List Skip → List ℕ → List ℕ → Elems → Elems → Bool
matches_token s code text p c = is_extra s p c || is_same_token code text (past_separator s p c) c

abbrev pub after_token : List Skip → Elems → Elems → Elems
after_token s p c = cond (is_extra s p c) p (rest (past_separator s p c))

-- What the code gives of a token: what is left of the pattern, or nothing where it does not match.
abbrev pub TokenIs : Matcher → Part → Part → Option Part → Type 0
TokenIs x p c None = matches_token x.sheet x.code x.text (elems_of p) (elems_of c) ≡ false
TokenIs x p c (Some q) =
    (matches_token x.sheet x.code x.text (elems_of p) (elems_of c) ≡ true) × (elems_of q ≡ after_token x.sheet (elems_of p) (elems_of c)) × IsWithin q p

-- `record_ignored_comments`
abbrev pub note : List ℕ → Elems → Attempt
note text c = cond (is_comment c) (matched (Noted (text_of text c) ∷ [])) (matched [])
