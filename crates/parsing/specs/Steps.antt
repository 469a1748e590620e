-- What each function of the code reads: from a state at the tokens left before to a state at those left behind, or to a refusal.
-- Assumes nothing.
use Rattle.std.specs.Prelude.{ℕ, ◌+◌, ◌*◌, ◌≤◌, ◌≡◌, Bool, true, false, List, [], ◌∷◌, ◌++◌, length, Some, Result, Ok, Err}
use Rattle.errors.specs.declared.Refusal.{Refusal}
use Rattle.errors.specs.declared.Refusal.TheVariants.{MissingParenthesis}
use Rattle.errors.specs.Refusals.{Outcome}
use Rattle.tokens.specs.declared.Token.{Token}
use Rattle.parsing.specs.declared.arrays.Nots.{Nots}
use Rattle.parsing.specs.declared.patterns.Placeholder.{Placeholder}
use Rattle.parsing.specs.Reading.{Var, Element, placeholder, vars, Next, go, stop, Open, State, refused, top, constraint, kind_open, closed, inside, is_text, run, follow, ended, ended_as}
use Rattle.parsing.specs.Patterns.{nots_of, var_of}

-- with more constraints
abbrev pub mores : Open → List ℕ → Open
mores p ns = record { start = p.start; name = p.name; nots = p.nots ++ ns }

-- `text` is the list's text
module _ (text : List ℕ) where
  -- from a state to another, whatever was read before
  abbrev pub Leads : State → List Token → State → List Token → Type 0
  Leads s ts s' left = (acc : List Element) → run text acc s ts ≡ run text acc s' left

  -- from a state to a refusal
  abbrev pub Stops : State → List Token → Refusal → Type 0
  Stops s ts r = (acc : List Element) → run text acc s ts ≡ refused r

  -- a placeholder's end: the element it adds, or the refusal of its name
  abbrev pub ended_var : List Element → Var → Next
  ended_var acc v = ended_as text acc v.start (Some v.name) v.nots v.end

  -- the first of some tokens has a text
  abbrev pub head_is : List Token → List ℕ → Bool
  head_is [] x = false
  head_is (t ∷ ts) x = is_text text t x

  abbrev pub TextRead : List ℕ → List Token → Outcome → List Token → Type 0
  TextRead x ts (Ok tt) left = (t : Token) × (ts ≡ t ∷ left) × (is_text text t x ≡ true)
  TextRead x ts (Err r) left = (r ≡ MissingParenthesis) × (head_is ts x ≡ false)

  abbrev pub KindRead : List Token → Outcome → List Token → Type 0
  KindRead ts (Ok tt) left = (length left + 3 ≤ length ts) × ((p : Open) (n : ℕ) → Leads (kind_open p n) ts (closed p n n) left)
  KindRead ts (Err r) left = (p : Open) (n : ℕ) → Stops (kind_open p n) ts r

  abbrev pub ConstraintRead : List Token → Result ℕ Refusal → List Token → Type 0
  ConstraintRead ts (Ok m) left = (length left + m + 4 ≤ length ts) × ((p : Open) (n : ℕ) → Leads (constraint p n) ts (closed p (n + m) n) left)
  ConstraintRead ts (Err r) left = (p : Open) (n : ℕ) → Stops (constraint p n) ts r

  abbrev pub BracesRead : List Token → Result (Nots × ℕ) Refusal → List Token → Type 0
  BracesRead ts (Ok b) left =
      (length left + 5 * length (nots_of b.0) + 1 ≤ length ts)
      × ((acc : List Element) (p : Open) → run text acc (inside p) ts ≡ follow (ended text acc (mores p (nots_of b.0)) b.1) (λ acc s. run text acc s left))
  BracesRead ts (Err r) left = (p : Open) → Stops (inside p) ts r

  abbrev pub PlaceholderRead : State → List Token → Result Placeholder Refusal → List Token → Type 0
  PlaceholderRead s ts (Ok p) left =
      (length left + 5 * length (nots_of p.nots) + 1 ≤ length ts)
      × ((acc : List Element) → run text acc s ts ≡ follow (ended_var acc (var_of p)) (λ acc s. run text acc s left))
  PlaceholderRead s ts (Err r) left = Stops s ts r

  -- a placeholder taken in behind others, or the refusal of its name
  abbrev pub Added : List Var → Var → Outcome → List Var → Type 0
  Added vs v (Ok tt) ws = (ws ≡ vs ++ (v ∷ [])) × ((acc : List Element) → vars acc ≡ vs → ended_var acc v ≡ go (acc ++ (placeholder v ∷ [])) top)
  Added vs v (Err r) ws = (acc : List Element) → vars acc ≡ vs → ended_var acc v ≡ stop r
