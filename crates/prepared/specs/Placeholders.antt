-- The placeholders of a rule: which element of the pattern is one, and what its constraints allow; docs/src/src/matching.rs,
-- `get_placeholder`, `check_constraint`, `NodeKind::matches`.
-- Assumes nothing.
use Rattle.std.specs.Prelude.{ℕ, zero, suc, ◌%◌, Bool, true, not, ◌&&◌, List, [], ◌∷◌, eqb, Option}
use Rattle.std.specs.List.{list_any}
use Rattle.parsing.specs.Reading.{Var}
use Rattle.rust_code.specs.StandIns.{stand_in_position}
use Rattle.syntax.specs.Trees.{Elems}
use Rattle.syntax.specs.Accessors.{text_of, only_ident, element_at, by_itself}
use Rattle.paths.specs.Steps.{Side}

-- the placeholder, by its place in the list, that the element of a number is "by its text", where it is or holds a lone IDENT
abbrev pub placeholder_at : Side → Elems → ℕ → Option ℕ
placeholder_at x root e = stand_in_position x.placeholders.text x.placeholders.vars (text_of x.code (only_ident (by_itself (element_at e root))))

-- "Box<Constraint>: the number of `not`s and the kind inside": a constraint holds of code that is a literal, or not
unfoldable pub holds : ℕ → Bool → Bool
holds zero isLiteral = isLiteral
holds (suc nots) isLiteral = not (holds nots isLiteral)

-- all of a placeholder's hold
unfoldable pub all_hold : List ℕ → Bool → Bool
all_hold [] isLiteral = true
all_hold (nots ∷ l) isLiteral = holds nots isLiteral && all_hold l isLiteral

-- the constraints of the placeholder at a place; one that is not there has none
unfoldable pub constraints_of : List Var → ℕ → List ℕ
constraints_of [] slot = []
constraints_of (v ∷ vs) zero = v.nots
constraints_of (v ∷ vs) (suc slot) = constraints_of vs slot

-- one of the constraints has `not`s that leave a remainder when halved
abbrev pub has_remainder : ℕ → List ℕ → Bool
has_remainder remainder l = list_any (λ nots. eqb (nots % 2) remainder) l
