-- Document 01, "Refusals by operation": the number of each refusal. Every answer and every promise takes its number from here.
-- Assumes nothing.
use Rattle.std.specs.Prelude.{ℕ, Bool, cond, List, [], ◌∷◌, leb, Result, Ok, Err}
use Rattle.errors.specs.declared.Refusal.{Refusal}
use Rattle.errors.specs.declared.Refusal.TheVariants.{MalformedList, EndsAfterBrace, EndsBeforeClosingBrace, UnexpectedToken, NeitherNameNorBrace, NoName, EndsBeforeConstraint, UnsupportedConstraint, MissingParenthesis, NoKindIdent, UnknownKind, RepeatedName, NinthPlaceholder, TemplateConstraint, UndefinedPlaceholder, DoesNotFit, NoForm, TreeTooLarge, MalformedTree, TreeTooDeep, MalformedFacts, UnresolvedPath, NoSuchNodeOrRule, TooManyRulesOrCandidates, NoSuchCandidate, RepeatedCandidate, NoTemplate, MalformedParses, UnboundPlaceholder, NoRoom}

abbrev pub number_of : Refusal → ℕ
-- Reading tokens
number_of MalformedList = 1  -- malformed list or over 255 tokens
number_of EndsAfterBrace = 2  -- list ends after `${`
number_of EndsBeforeClosingBrace = 3  -- ends before `}`
number_of UnexpectedToken = 4  -- another token inside the braces
number_of NeitherNameNorBrace = 5  -- after `$` a token that is neither IDENT nor `{`
number_of NoName = 6  -- no name, met at `}` or where the list ends right after `$`
number_of EndsBeforeConstraint = 7  -- ends where a constraint should start
number_of UnsupportedConstraint = 8  -- neither `kind` nor `not`
number_of MissingParenthesis = 9  -- `(` or `)` missing
number_of NoKindIdent = 10  -- no IDENT inside `kind`
number_of UnknownKind = 11  -- unknown kind, looked at after `)`
number_of RepeatedName = 12  -- name repeated
number_of NinthPlaceholder = 13  -- ninth placeholder, its name new
-- Checking a pair
number_of TemplateConstraint = 14  -- constraint in the template
number_of UndefinedPlaceholder = 15  -- undefined placeholder
-- Writing raw code
number_of DoesNotFit = 16  -- does not fit
-- Building rules
number_of NoForm = 17  -- no form has both its trees (its pattern alone, if no template was given)
-- Trees with facts
number_of TreeTooLarge = 18  -- over 16,383 elements or 65,535 bytes
number_of MalformedTree = 19  -- malformed
number_of TreeTooDeep = 20  -- an element deeper than 128, the root being at 1
number_of MalformedFacts = 21  -- facts malformed, over 16,383, or one repeated
-- Resolving
number_of UnresolvedPath = 22  -- a path that must resolve has no fact
-- Matching one node
number_of NoSuchNodeOrRule = 23  -- no such node or rule, or a range whose start is after its end
-- A job and the walk
number_of TooManyRulesOrCandidates = 24  -- over 16 rules or 1,024 candidates
number_of NoSuchCandidate = 25  -- a candidate without such node or rule, or 23's range
number_of RepeatedCandidate = 26  -- a pair twice
number_of NoTemplate = 27  -- a rule without template
number_of MalformedParses = 28  -- parses malformed or kind and text repeated
number_of UnboundPlaceholder = 29  -- a template placeholder unbound
number_of NoRoom = 30  -- the next byte does not fit

-- what a check, or an operation that gives nothing else, answers
abbrev pub Outcome : Type 0
Outcome = Result (Unit {0}) Refusal

abbrev pub ok : Outcome
ok = Ok tt

abbrev pub err : Refusal → Outcome
err r = Err r

-- an outcome's number, 0 where nothing is refused
abbrev pub outcome_number : Outcome → ℕ
outcome_number (Ok tt) = 0
outcome_number (Err r) = number_of r

-- "Where several lists, rules or trees refuse, the lowest of their numbers is given."
abbrev pub lowest_of : Outcome → Outcome → Outcome
lowest_of (Ok tt) b = b
lowest_of (Err r) (Ok tt) = err r
lowest_of (Err r) (Err s) = cond (leb (number_of r) (number_of s)) (err r) (err s)

unfoldable pub lowest : List Outcome → Outcome
lowest [] = ok
lowest (a ∷ rest) = lowest_of a (lowest rest)

-- checks in the order in which they are looked at: the first whose condition holds refuses
pub record Check : Type 0 where
  pub fails : Bool
  pub refusal : Refusal

unfoldable pub first_of : List Check → Outcome
first_of [] = ok
first_of (c ∷ cs) = cond c.fails (err c.refusal) (first_of cs)

-- stages in turn: the first that refuses
unfoldable pub in_turn : List Outcome → Outcome
in_turn [] = ok
in_turn (Ok tt ∷ rest) = in_turn rest
in_turn (Err r ∷ rest) = err r
