-- `resolve` of docs/src/src/resolving.rs at one element: which paths must resolve, and which are resolved.
-- Assumes nothing.
use Rattle.std.specs.Prelude.{ℕ, ◌/◌, ◌%◌, ◌<◌, Bool, cond, not, ◌&&◌, List, eqb, slice_get, Option, Some, None}
use Rattle.parsing.specs.Reading.{Var}
use Rattle.syntax.specs.Trees.{Elems, tree}
use Rattle.syntax.specs.Accessors.{children, number_of, node_in}
use Rattle.facts.specs.declared.Sort.TheVariants.{RulePath}
use Rattle.facts.specs.declared.Fact.{Fact}
use Rattle.facts.specs.Facts.{facts_of, place_of}
use Rattle.paths.specs.Names.{Placeholders, is_self, contains_type_arguments, contains_placeholder}
use Rattle.paths.specs.declared.resolving.Step.{Step}
use Rattle.paths.specs.declared.resolving.Step.TheVariants.{Skips, Fails, Resolves, Enters}

-- what resolving looks at beside a rule's tree: the placeholders of its pattern's list, the tree's own text, and its facts
pub record Side : Type 0 where
  pub placeholders : Placeholders
  pub code : List ℕ
  pub facts : List ℕ

abbrev pub side_by : List ℕ → List Var → List ℕ → List ℕ → Side
side_by text vs code facts = record { placeholders = record { text = text; vars = vs }; code = code; facts = facts }

-- that with the words of the tree
pub record SideTree : Type 0 where
  pub side : Side
  pub words : List ℕ

abbrev pub root_of : SideTree → Elems
root_of t = tree t.words

-- "1 pattern or template path, resolution, flags (1 usable, as `ok_to_use_path_resolution` says; 2 a definition; 4 an associated
-- function)", of the fact at a place in the list; none where there is no such fact
abbrev pub flags_of : Option Fact → ℕ
flags_of None = 0
flags_of (Some f) = f.second

abbrev pub flags_at : List ℕ → ℕ → ℕ
flags_at facts place = flags_of (slice_get (facts_of facts) place)

abbrev pub is_usable : ℕ → Bool
is_usable flags = eqb (flags % 2) 1

abbrev pub is_definition : ℕ → Bool
is_definition flags = eqb (flags / 2 % 2) 1

abbrev pub is_associated : ℕ → Bool
is_associated flags = eqb (flags / 4 % 2) 1

-- the place of a path's fact, where it has one
abbrev pub path_place : List ℕ → ℕ → Option ℕ
path_place facts path = place_of RulePath path 0 (facts_of facts)

-- "Check if this is an appropriate place in the path to resolve"
abbrev pub is_place : Side → Elems → Bool
is_place x c = not (contains_type_arguments (children c)) && not (contains_placeholder x.placeholders x.code c)

-- a path that must resolve, by its fact's place: 22 without one, resolved with a usable one
abbrev pub by_fact : List ℕ → Option ℕ → Step
by_fact facts None = Fails
by_fact facts (Some place) = cond (is_usable (flags_at facts place)) (Resolves place) Enters

-- the first element: "Self cannot be resolved like other paths"; a resolved path is not looked into, any other element is
abbrev pub path_step : Side → Elems → Step
path_step x c = cond (is_self c) Skips (cond (is_place x c) (by_fact x.facts (path_place x.facts (number_of c))) Enters)

unfoldable pub step : Side → Elems → Step
step x c = cond (node_in 2 2 c) (path_step x c) Enters

-- the place of a fact, where there is one, is below n
abbrev pub PlacedBelow : ℕ → Step → Type 0
PlacedBelow n Skips = Unit {0}
PlacedBelow n Fails = Unit {0}
PlacedBelow n (Resolves place) = place < n
PlacedBelow n Enters = Unit {0}
