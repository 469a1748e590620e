-- The manual's placeholder syntax as a grammar over tokens: which lists are read, and as what. Quotations are the manual's, or document
-- 01's where a number of 01 stands before them.
-- Assumes nothing.
use Rattle.std.specs.Prelude.{ℕ, suc, ◌≤◌, ◌≡◌, true, List, [], ◌∷◌, ◌++◌, length}
use Rattle.words.specs.Texts.{kind_text, not_text, literal_text, open_text, close_text}
use Rattle.tokens.specs.declared.Token.{Token}
use Rattle.tokens.specs.Tokens.{token_text, tokens_from, is_token_list}
use Rattle.parsing.specs.Reading.{Var, Element, plain, placeholder, vars, behind}

-- tokens by their kind of 01, whatever their text: a name, `$`, `{`, `}` and `:`
abbrev pub Ident : Token → Type 0
Ident t = t.kind ≡ 1

abbrev pub Dollar : Token → Type 0
Dollar t = t.kind ≡ 8

abbrev pub LeftBrace : Token → Type 0
LeftBrace t = t.kind ≡ 9

abbrev pub RightBrace : Token → Type 0
RightBrace t = t.kind ≡ 6

abbrev pub Colon : Token → Type 0
Colon t = t.kind ≡ 10

-- `text` is the list's text
module _ (text : List ℕ) where
  -- a token by its text, whatever its kind: `kind`, `not`, `literal`, `(` and `)`
  abbrev pub Says : Token → List ℕ → Type 0
  Says t x = token_text text t ≡ x

  -- "Supported constraints", each with its number of `not`s
  pub data Constraint : List Token → ℕ → Type 0 where
    -- "kind(literal)": "Is a literal"
    kind_literal : (k o x c : Token) → Says k kind_text → Says o open_text → Ident x → Says x literal_text → Says c close_text → Constraint (k ∷ o ∷ x ∷ c ∷ []) 0
    -- "not(a)": "Negates the constraint `a`"
    negated : (k o c : Token) {a : List Token} {n : ℕ} → Says k not_text → Says o open_text → Constraint a n → Says c close_text → Constraint (k ∷ o ∷ (a ++ (c ∷ []))) (suc n)

  -- ":<constraint1>:<constraint2>...", none too
  pub data Constraints : List Token → List ℕ → Type 0 where
    unconstrained : Constraints [] []
    constrained : (t : Token) {a b : List Token} {n : ℕ} {ns : List ℕ} → Colon t → Constraint a n → Constraints b ns → Constraints (t ∷ (a ++ b)) (n ∷ ns)

  -- a placeholder: from its `$` to behind its last token, with its name and constraints
  pub data Placeholder : List Token → Var → Type 0 where
    -- "$<name>"
    bare : (d x : Token) → Dollar d → Ident x → Placeholder (d ∷ x ∷ []) (record { start = d.range.start; end = behind x; name = x; nots = [] })
    -- "${<name>:<constraint1>:<constraint2>...}"
    braced : (d o x c : Token) {cs : List Token} {ns : List ℕ} → Dollar d → LeftBrace o → Ident x → Constraints cs ns → RightBrace c → Placeholder (d ∷ o ∷ x ∷ (cs ++ (c ∷ []))) (record { start = d.range.start; end = behind c; name = x; nots = ns })

  -- a list of placeholders and of other tokens, of which none is `$`
  pub data Pattern : List Token → List Element → Type 0 where
    nothing : Pattern [] []
    token : (t : Token) {ts : List Token} {es : List Element} → (Dollar t → ⊥) → Pattern ts es → Pattern (t ∷ ts) (plain t ∷ es)
    place : {ps ts : List Token} {v : Var} {es : List Element} → Placeholder ps v → Pattern ts es → Pattern (ps ++ ts) (placeholder v ∷ es)

  -- none of these placeholders has a name with this text
  abbrev pub New : List ℕ → List Var → Type 0
  New x [] = Unit {0}
  New x (v ∷ vs) = (Says v.name x → ⊥) × New x vs

  -- no two have names with the same text
  abbrev pub Distinct : List Var → Type 0
  Distinct [] = Unit {0}
  Distinct (v ∷ vs) = New (token_text text v.name) vs × Distinct vs

-- the list with these words and this text is read as these elements; beside each part, the refusals of 01 that it rules out
pub record Reads (words text : List ℕ) (es : List Element) : Type 0 where
  pub formed : is_token_list words text ≡ true  -- 1 "malformed list or over 255 tokens"
  pub split : Pattern text (tokens_from words 0) es  -- 2 to 11
  pub distinct : Distinct text (vars es)  -- 12 "name repeated"
  pub few : length (vars es) ≤ 8  -- 13 "ninth placeholder, its name new"
