-- Reading tokens, document 01, "Refusals by operation": what a token list is read as, and the first refusal met from the left.
-- Each state says what may stand at the next token; `run` names the refusal where something else stands, and where the list ends.
-- Assumes nothing.
use Rattle.std.specs.Prelude.{ℕ, zero, suc, ◌+◌, Bool, false, cond, ◌||◌, List, [], ◌∷◌, ◌++◌, eqb, leb, length, Option, Some, None, Result, Ok, Err}
use Rattle.errors.specs.declared.Refusal.{Refusal}
use Rattle.errors.specs.declared.Refusal.TheVariants.{MalformedList, EndsAfterBrace, EndsBeforeClosingBrace, UnexpectedToken, NeitherNameNorBrace, NoName, EndsBeforeConstraint, UnsupportedConstraint, MissingParenthesis, NoKindIdent, UnknownKind, RepeatedName, NinthPlaceholder}
use Rattle.words.specs.Texts.{same_text, kind_text, not_text, literal_text, open_text, close_text}
use Rattle.tokens.specs.declared.Token.{Token}
use Rattle.tokens.specs.Tokens.{token_text, tokens_from, is_token_list}

-- a placeholder: its bytes in the text, its name, and the number of `not`s of each constraint
pub record Var : Type 0 where
  pub start : ℕ
  pub end : ℕ
  pub name : Token
  pub nots : List ℕ

-- an element of a read list, in docs/src `PatternElement`
pub data Element : Type 0 where
  plain : Token → Element
  placeholder : Var → Element

-- the placeholders among elements, in list order
unfoldable pub vars : List Element → List Var
vars [] = []
vars (plain t ∷ es) = vars es
vars (placeholder v ∷ es) = v ∷ vars es

-- a list is read, or refused
abbrev pub Reading : Type 0
Reading = Result (List Element) Refusal

abbrev pub read : List Element → Reading
read es = Ok es

abbrev pub refused : Refusal → Reading
refused r = Err r

-- a placeholder in braces so far; its name is there where the first token is an IDENT
pub record Open : Type 0 where
  pub start : ℕ
  pub name : Option Token
  pub nots : List ℕ

-- one constraint more, with n `not`s
abbrev pub more : Open → ℕ → Open
more p n = record { start = p.start; name = p.name; nots = p.nots ++ (n ∷ []) }

pub data State : Type 0 where
  top : State  -- between elements
  dollar : ℕ → State  -- behind the `$` that starts at a byte
  brace : ℕ → State  -- behind `${`
  inside : Open → State  -- in the braces, behind the first token or a constraint
  constraint : Open → ℕ → State  -- where a constraint should start, inside n `not`s
  not_open : Open → ℕ → State  -- behind `not`
  kind_open : Open → ℕ → State  -- behind `kind`
  kind_name : Open → ℕ → State  -- behind `kind(`
  kind_close : Open → ℕ → Token → State  -- behind the IDENT inside `kind`
  closing : Open → ℕ → ℕ → State  -- behind `kind(literal)` in n `not`s, of which k + 1 are still to be closed

-- behind the `)` of a constraint in n `not`s, of which k are still to be closed
abbrev pub closed : Open → ℕ → ℕ → State
closed p n zero = inside (more p n)
closed p n (suc k) = closing p n k

-- token kinds of 01
abbrev pub is_ident : Token → Bool
is_ident t = eqb t.kind 1

abbrev pub is_closing_brace : Token → Bool
is_closing_brace t = eqb t.kind 6

abbrev pub is_dollar : Token → Bool
is_dollar t = eqb t.kind 8

abbrev pub is_open_brace : Token → Bool
is_open_brace t = eqb t.kind 9

abbrev pub is_colon : Token → Bool
is_colon t = eqb t.kind 10

abbrev pub name_of : Token → Option Token
name_of t = cond (is_ident t) (Some t) None

-- the byte behind a token
abbrev pub behind : Token → ℕ
behind t = t.range.end

-- the refusal where a list ends
abbrev pub at_end : List Element → State → Reading
at_end acc top = read acc
at_end acc (dollar s) = refused NoName
at_end acc (brace s) = refused EndsAfterBrace
at_end acc (inside p) = refused EndsBeforeClosingBrace
at_end acc (constraint p n) = refused EndsBeforeConstraint
at_end acc (not_open p n) = refused MissingParenthesis
at_end acc (kind_open p n) = refused MissingParenthesis
at_end acc (kind_name p n) = refused NoKindIdent
at_end acc (kind_close p n t) = refused MissingParenthesis
at_end acc (closing p n k) = refused MissingParenthesis

-- what a token gives: the elements and the state behind it, or the refusal
pub data Next : Type 0 where
  go : List Element → State → Next
  stop : Refusal → Next

abbrev pub follow : Next → (List Element → State → Reading) → Reading
follow (go acc s) k = k acc s
follow (stop r) k = refused r

-- `text` is the list's text
module _ (text : List ℕ) where
  abbrev pub is_text : Token → List ℕ → Bool
  is_text t x = same_text (token_text text t) x

  -- one of the placeholders has a name
  unfoldable pub has_name : List Var → List ℕ → Bool
  has_name [] x = false
  has_name (v ∷ vs) x = is_text v.name x || has_name vs x

  -- a name that a placeholder before has
  abbrev pub is_repeated : List Var → Token → Bool
  is_repeated vs t = has_name vs (token_text text t)

  -- a placeholder ends at a byte: "6 no name", "12 name repeated", "13 ninth placeholder, its name new"
  abbrev pub ended_as : List Element → ℕ → Option Token → List ℕ → ℕ → Next
  ended_as acc s None ns end = stop NoName
  ended_as acc s (Some t) ns end =
      cond (is_repeated (vars acc) t) (stop RepeatedName)
      (cond (leb 8 (length (vars acc))) (stop NinthPlaceholder)
      (go (acc ++ (placeholder (record { start = s; end = end; name = t; nots = ns }) ∷ [])) top))

  abbrev pub ended : List Element → Open → ℕ → Next
  ended acc p end = ended_as acc p.start p.name p.nots end

  -- what a token gives in a state
  abbrev pub step : List Element → State → Token → Next
  step acc top t = cond (is_dollar t) (go acc (dollar t.range.start)) (go (acc ++ (plain t ∷ [])) top)
  step acc (dollar s) t =
      cond (is_ident t) (ended_as acc s (Some t) [] (behind t))
      (cond (is_open_brace t) (go acc (brace s)) (stop NeitherNameNorBrace))
  step acc (brace s) t = go acc (inside (record { start = s; name = name_of t; nots = [] }))
  step acc (inside p) t =
      cond (is_colon t) (go acc (constraint p 0))
      (cond (is_closing_brace t) (ended acc p (behind t)) (stop UnexpectedToken))
  step acc (constraint p n) t =
      cond (is_text t kind_text) (go acc (kind_open p n))
      (cond (is_text t not_text) (go acc (not_open p n)) (stop UnsupportedConstraint))
  step acc (not_open p n) t = cond (is_text t open_text) (go acc (constraint p (n + 1))) (stop MissingParenthesis)
  step acc (kind_open p n) t = cond (is_text t open_text) (go acc (kind_name p n)) (stop MissingParenthesis)
  step acc (kind_name p n) t = cond (is_ident t) (go acc (kind_close p n t)) (stop NoKindIdent)
  step acc (kind_close p n x) t =
      cond (is_text t close_text) (cond (is_text x literal_text) (go acc (closed p n n)) (stop UnknownKind))
      (stop MissingParenthesis)
  step acc (closing p n k) t = cond (is_text t close_text) (go acc (closed p n k)) (stop MissingParenthesis)

  -- the tokens from a state on, behind the elements read before
  unfoldable pub run : List Element → State → List Token → Reading
  run acc s [] = at_end acc s
  run acc s (t ∷ ts) = follow (step acc s t) (λ acc s. run acc s ts)

-- "1 malformed list or over 255 tokens. Then the first met from the left"
unfoldable pub reading : List ℕ → List ℕ → Reading
reading words text = cond (is_token_list words text) (run text [] top (tokens_from words 0)) (refused MalformedList)

-- the placeholders of a reading, or its refusal
abbrev pub placeholders_in : Reading → Result (List Var) Refusal
placeholders_in (Ok es) = Ok (vars es)
placeholders_in (Err r) = Err r

abbrev pub placeholders : List ℕ → List ℕ → Result (List Var) Refusal
placeholders words text = placeholders_in (reading words text)
