-- The table in which the code notes what resolving finds: for each element the place of its fact where it is a resolved path, and the path
-- that claims it where it is a call.
-- Assumes nothing.
use Rattle.std.specs.Prelude.{ℕ, ◌*◌, ◌+◌, ◌≤◌, ◌<◌, ◌≡◌, Bool, true, false, cond, List, [], ◌∷◌, map, length, set, slice_get, Option, Some, None, option_and_then}
use Rattle.errors.specs.Refusals.{Outcome, ok, err}
use Rattle.errors.specs.declared.Refusal.TheVariants.{UnresolvedPath}
use Rattle.syntax.specs.declared.parts.Part.{Part}
use Rattle.syntax.specs.Trees.{Elems, tree}
use Rattle.syntax.specs.Accessors.{children, number_of, node_in}
use Rattle.facts.specs.declared.Owner.{Owner}
use Rattle.facts.specs.Facts.{is_fact_list}
use Rattle.paths.specs.Steps.{Side, step}
use Rattle.paths.specs.Resolved.{fails_at, is_unresolved, Note, paths_at, resolved_paths, claims_at, claims, calls, last_note}
use Rattle.paths.specs.declared.resolving.Noted.{Noted}

-- the two columns of the table
abbrev pub paths_of : List Noted → List (Option ℕ)
paths_of notes = map (λ n. n.path) notes

abbrev pub calls_of : List Noted → List (Option ℕ)
calls_of notes = map (λ n. n.call) notes

-- notes written into a column, one after the other
unfoldable pub noted : List Note → List (Option ℕ) → List (Option ℕ)
noted [] t = t
noted (n ∷ ns) t = noted ns (set t n.element (Some n.value))

-- a CALL_EXPR by its number
abbrev pub call_number : Elems → Option ℕ
call_number c = cond (node_in 64 64 c) (Some (number_of c)) None

-- The table after a walk that began at one state: its answer is whether a path failed, and where none did, the notes and the claims were
-- written, for a parent and a grandparent that are known as calls only.
pub record Leaves (failed : Bool) (notes : List Note) (claimed : Elems → Elems → List Note) (parent grandparent : Option ℕ) (r : Outcome)
    (before after : List Noted) : Type 0 where
  pub answer : r ≡ cond failed (err UnresolvedPath) ok
  pub noting : failed ≡ false → paths_of after ≡ noted notes (paths_of before)
  pub claiming : failed ≡ false → (p g : Elems) → parent ≡ call_number p → grandparent ≡ call_number g → calls_of after ≡ noted (claimed p g) (calls_of before)

-- a walk over an element and what is below it, and over siblings
abbrev pub AtElement : Side → Elems → Option ℕ → Option ℕ → Outcome → List Noted → List Noted → Type 0
AtElement x c parent grandparent r =
    Leaves (fails_at (step x c) (is_unresolved x (children c))) (paths_at (number_of c) (step x c) (resolved_paths x (children c)))
    (λ p g. claims_at x (number_of c) g (step x c) (claims x c p (children c))) parent grandparent r

abbrev pub AtSiblings : Side → Elems → Option ℕ → Option ℕ → Outcome → List Noted → List Noted → Type 0
AtSiblings x c parent grandparent r = Leaves (is_unresolved x c) (resolved_paths x c) (λ p g. claims x p g c) parent grandparent r

-- a call is within a table
abbrev pub Within : Option ℕ → ℕ → Type 0
Within None n = Unit {0}
Within (Some i) n = i < n

-- siblings, and the calls around them, are within the table
pub record Room (part : Part) (parent grandparent : Option ℕ) (notes : List Noted) : Type 0 where
  pub few : length notes ≤ 16383
  pub within : part.number * 3 + length part.words.now ≤ length notes * 3
  pub parent_within : Within parent (length notes)
  pub grandparent_within : Within grandparent (length notes)

-- a list of words is the well-formed facts of a tree's words
pub record HasFacts (words facts : List ℕ) : Type 0 where
  pub owner : Owner
  pub bytes : ℕ
  pub good : is_fact_list owner (tree words) bytes facts ≡ true

-- what the table says of an element
abbrev pub path_in : List Noted → ℕ → Option ℕ
path_in notes e = option_and_then (λ n. n.path) (slice_get notes e)

abbrev pub call_in : List Noted → ℕ → Option ℕ
call_in notes e = option_and_then (λ n. n.call) (slice_get notes e)

-- it says of each element of a tree what was noted last
pub record NotesOf (x : Side) (c : Elems) (notes : List Noted) : Type 0 where
  pub path_notes : (e : ℕ) → path_in notes e ≡ last_note e (resolved_paths x c)
  pub call_notes : (e : ℕ) → call_in notes e ≡ last_note e (calls x c)
