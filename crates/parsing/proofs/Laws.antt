-- Laws of reading: one token, the end of the list, and an expected parenthesis.
-- Assumes nothing.
use Rattle.std.proofs.Common.{◌≡◌, refl, ap, ◌∙◌, ℕ, ◌+◌, add-one, arith, true, false, List, [], ◌∷◌, length, ◌≤◌, Result, Ok, Err, Some}
use Rattle.errors.specs.declared.Refusal.{Refusal}
use Rattle.errors.specs.declared.Refusal.TheVariants.{MissingParenthesis}
use Rattle.tokens.specs.declared.Token.{Token}
use Rattle.words.specs.Texts.{open_text, kind_text, not_text}
use Rattle.parsing.specs.declared.patterns.Placeholder.{Placeholder}
use Rattle.parsing.specs.Reading.{Element, Open, State, brace, inside, name_of, constraint, not_open, kind_open, kind_name, kind_close, closed, closing, go, stop, refused, at_end, follow, step, run, is_text}
use Rattle.parsing.specs.Steps.{head_is, TextRead, PlaceholderRead}

module _ (text : List ℕ) (acc : List Element) (s : State) where
  pub follows : (t : Token) (ts : List Token) → run text acc s (t ∷ ts) ≡ follow (step text acc s t) (λ acc s. run text acc s ts)
  unfolding run
  follows t ts = refl

  -- a token that leads to a state, or to a refusal
  pub goes : (t : Token) (ts : List Token) (acc' : List Element) (s' : State) → step text acc s t ≡ go acc' s' → run text acc s (t ∷ ts) ≡ run text acc' s' ts
  unfolding run
  goes t ts acc' s' e = ap (λ n. follow n (λ acc s. run text acc s ts)) e

  pub stops : (t : Token) (ts : List Token) (r : Refusal) → step text acc s t ≡ stop r → run text acc s (t ∷ ts) ≡ refused r
  unfolding run
  stops t ts r e = ap (λ n. follow n (λ acc s. run text acc s ts)) e

  pub ends : run text acc s [] ≡ at_end acc s
  unfolding run
  ends = refl

  -- a parenthesis that stands next, or is missing
  pub passes : (x : List ℕ) (ts left : List Token) (s' : State) → TextRead text x ts (Ok tt) left → ((t : Token) → is_text text t x ≡ true → step text acc s t ≡ go acc s') → run text acc s ts ≡ run text acc s' left
  passes x ts left s' h e = rw h.1 (goes h.0 left acc s' (e h.0 h.2))

  pub misses : (x : List ℕ) (ts : List Token) (r : Refusal) → (r ≡ MissingParenthesis) × (head_is text ts x ≡ false) → at_end acc s ≡ refused MissingParenthesis → ((t : Token) → is_text text t x ≡ false → step text acc s t ≡ stop MissingParenthesis) → run text acc s ts ≡ refused r
  misses x [] r h a e = rw h.0 (ends ∙ a)
  misses x (t ∷ ts) r h a e = rw h.0 (stops t ts MissingParenthesis (e t h.1))

-- behind `kind`: `(` and an IDENT
pub named_inside : (text : List ℕ) (acc : List Element) (ts mid left : List Token) (name : Token) → TextRead text open_text ts (Ok tt) mid → mid ≡ name ∷ left → name.kind ≡ 1 → (p : Open) (n : ℕ) → run text acc (kind_open p n) ts ≡ run text acc (kind_close p n name) left
named_inside text acc ts mid left name h e k p n =
    passes text acc (kind_open p n) open_text ts mid (kind_name p n) h (λ t i. rw i)
    ∙ rw e (goes text acc (kind_name p n) name left acc (kind_close p n name) (rw k))

-- behind a token where a constraint should start: `kind`, or `not` and `(`
pub begins_kind : (text : List ℕ) (acc : List Element) (ts left : List Token) (t : Token) → ts ≡ t ∷ left → is_text text t kind_text ≡ true → (p : Open) (n : ℕ) → run text acc (constraint p n) ts ≡ run text acc (kind_open p n) left
begins_kind text acc ts left t h k p n = rw h (goes text acc (constraint p n) t left acc (kind_open p n) (rw k))

pub begins_not : (text : List ℕ) (acc : List Element) (ts left : List Token) (t : Token) → ts ≡ t ∷ left → is_text text t kind_text ≡ false → is_text text t not_text ≡ true → (p : Open) (n : ℕ) → run text acc (constraint p n) ts ≡ run text acc (not_open p n) left
begins_not text acc ts left t h k m p n = rw h (goes text acc (constraint p n) t left acc (not_open p n) (rw (k, m)))

pub negates : (text : List ℕ) (acc : List Element) (ts mid left : List Token) (t : Token) → ts ≡ t ∷ mid → is_text text t kind_text ≡ false → is_text text t not_text ≡ true → TextRead text open_text mid (Ok tt) left → (p : Open) (n : ℕ) → run text acc (constraint p n) ts ≡ run text acc (constraint p (n + 1)) left
negates text acc ts mid left t h k m r p n = begins_not text acc ts mid t h k m p n ∙ passes text acc (not_open p n) open_text mid left (constraint p (n + 1)) r (λ t i. rw i)

-- one `not` more is to be closed
pub closing_next : (p : Open) (n j : ℕ) → closed p (n + 1 + j) (n + 1) ≡ closing p (n + (j + 1)) n
closing_next p n j = let e : n + 1 + j ≡ n + (j + 1) = omega arith in rw (e, add-one n)

-- ---- a placeholder's name

pub ident_is : (t : Token) → t.kind ≡ 1 → name_of t ≡ Some (record { kind = 1; range = t.range })
ident_is t h = rw h

pub first_inside : (text : List ℕ) (acc : List Element) (ts left : List Token) (t : Token) (start : ℕ) → ts ≡ t ∷ left → run text acc (brace start) ts ≡ run text acc (inside (record { start = start; name = name_of t; nots = [] })) left
first_inside text acc ts left t start h = rw h (goes text acc (brace start) t left acc (inside (record { start = start; name = name_of t; nots = [] })) refl)

-- a placeholder read from a later state
pub placeholder_later : (text : List ℕ) (ts mid left : List Token) (s s' : State) (r : Result Placeholder Refusal) → length mid ≤ length ts → ((acc : List Element) → run text acc s ts ≡ run text acc s' mid) → PlaceholderRead text s' mid r left → PlaceholderRead text s ts r left
placeholder_later text ts mid left s s' (Ok p) l h k = (omega (arith, k.0), λ acc. h acc ∙ k.1 acc)
placeholder_later text ts mid left s s' (Err r) l h k = λ acc. h acc ∙ k acc
