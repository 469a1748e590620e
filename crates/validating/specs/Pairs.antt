-- Checking a pair, document 01: "14 constraint in the template; 15 undefined placeholder. 14 comes first." Before them stand 1 to 13 of
-- either list, the lowest where both refuse.
-- Assumes nothing.
use Rattle.std.specs.Prelude.{ℕ, Bool, cond, List, ltb, length, Option, Some, None, Result, Ok, Err}
use Rattle.std.specs.List.{list_any, list_all}
use Rattle.errors.specs.declared.Refusal.{Refusal}
use Rattle.errors.specs.declared.Refusal.TheVariants.{TemplateConstraint, UndefinedPlaceholder}
use Rattle.errors.specs.Refusals.{Outcome, ok, err, lowest_of}
use Rattle.tokens.specs.Tokens.{token_text}
use Rattle.parsing.specs.Reading.{Var, has_name, placeholders}

-- one of the placeholders has a constraint
abbrev pub has_constraint : List Var → Bool
has_constraint vs = list_any (λ v. ltb 0 (length v.nots)) vs

-- the pattern has every name of the template's placeholders
abbrev pub defines : List ℕ → List Var → List ℕ → Var → Bool
defines pattern ps template v = has_name pattern ps (token_text template v.name)

abbrev pub defines_all : List ℕ → List Var → List ℕ → List Var → Bool
defines_all pattern ps template vs = list_all (defines pattern ps template) vs

-- both lists are read
abbrev pub checked_pair : List ℕ → List Var → List ℕ → List Var → Outcome
checked_pair pattern ps template ts =
    cond (has_constraint ts) (err TemplateConstraint)
    (cond (defines_all pattern ps template ts) ok (err UndefinedPlaceholder))

-- by the placeholders of each list, or its refusal
abbrev pub both_lists : List ℕ → Result (List Var) Refusal → List ℕ → Result (List Var) Refusal → Outcome
both_lists pattern (Err r) template (Err s) = lowest_of (err r) (err s)
both_lists pattern (Err r) template (Ok ts) = err r
both_lists pattern (Ok ps) template (Err s) = err s
both_lists pattern (Ok ps) template (Ok ts) = checked_pair pattern ps template ts

abbrev pub list_outcome : Result (List Var) Refusal → Outcome
list_outcome (Ok ps) = ok
list_outcome (Err r) = err r

-- the pair of the lists, or the pattern alone where no template is given
abbrev pub pair_outcome : List ℕ → List ℕ → Option (List ℕ × List ℕ) → Outcome
pair_outcome words text (Some l) = both_lists text (placeholders words text) l.1 (placeholders l.0 l.1)
pair_outcome words text None = list_outcome (placeholders words text)
