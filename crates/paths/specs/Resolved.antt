-- `resolve_pattern_tree` of docs/src/src/resolving.rs: the resolved paths of a rule's tree, the calls that UFCS may match, and whether a
-- path that must resolve has no fact.
-- Assumes nothing.
use Rattle.std.specs.Prelude.{ℕ, Bool, true, false, cond, ◌&&◌, ◌||◌, List, [], ◌∷◌, ◌++◌, eqb, slice_get, Option, Some, None, option_map, option_and_then, Result, Ok, Err}
use Rattle.std.specs.Option.{option_or}
use Rattle.errors.specs.declared.Refusal.{Refusal}
use Rattle.errors.specs.declared.Refusal.TheVariants.{UnresolvedPath}
use Rattle.syntax.specs.Trees.{Elems, none, token, node}
use Rattle.syntax.specs.Accessors.{number_of, node_in}
use Rattle.facts.specs.declared.Call.{Call}
use Rattle.facts.specs.declared.Sort.TheVariants.{RulePath, PatternPath}
use Rattle.facts.specs.declared.Fact.{Fact}
use Rattle.facts.specs.Facts.{facts_of, fact_by}
use Rattle.paths.specs.Steps.{Side, SideTree, root_of, flags_of, flags_at, is_definition, is_associated, step}
use Rattle.paths.specs.declared.resolving.Step.{Step}
use Rattle.paths.specs.declared.resolving.Step.TheVariants.{Skips, Fails, Resolves, Enters}

-- 22: "a path that must resolve has no fact"
abbrev pub fails_at : Step → Bool → Bool
fails_at Skips below = false
fails_at Fails below = true
fails_at (Resolves place) below = false
fails_at Enters below = below

unfoldable pub is_unresolved : Side → Elems → Bool
is_unresolved x none = false
is_unresolved x (token i k s e r) = is_unresolved x r
is_unresolved x (node i k s e cs r) = fails_at (step x (node i k s e cs r)) (is_unresolved x cs) || is_unresolved x r

-- the answer of resolving a tree
abbrev pub resolving : SideTree → Result SideTree Refusal
resolving t = cond (is_unresolved t.side (root_of t)) (Err UnresolvedPath) (Ok t)

-- a number noted for an element
pub record Note : Type 0 where
  pub element : ℕ
  pub value : ℕ

-- `resolved_paths`: each with its fact's place, in the order of the tree
abbrev pub paths_at : ℕ → Step → List Note → List Note
paths_at i Skips below = []
paths_at i Fails below = []
paths_at i (Resolves place) below = record { element = i; value = place } ∷ []
paths_at i Enters below = below

unfoldable pub resolved_paths : Side → Elems → List Note
resolved_paths x none = []
resolved_paths x (token i k s e r) = resolved_paths x r
resolved_paths x (node i k s e cs r) = paths_at i (step x (node i k s e cs r)) (resolved_paths x cs) ++ resolved_paths x r

-- `ufcs_function_calls`: a resolved path of an associated function claims its grandparent where that is a CALL_EXPR; each call with its
-- path, in the order of the paths
abbrev pub claim_by : ℕ → ℕ → Elems → List Note
claim_by i flags grandparent = cond (is_associated flags && node_in 64 64 grandparent) (record { element = number_of grandparent; value = i } ∷ []) []

abbrev pub claims_at : Side → ℕ → Elems → Step → List Note → List Note
claims_at x i grandparent Skips below = []
claims_at x i grandparent Fails below = []
claims_at x i grandparent (Resolves place) below = claim_by i (flags_at x.facts place) grandparent
claims_at x i grandparent Enters below = below

unfoldable pub claims : Side → Elems → Elems → Elems → List Note
claims x parent grandparent none = []
claims x parent grandparent (token i k s e r) = claims x parent grandparent r
claims x parent grandparent (node i k s e cs r) =
    claims_at x i grandparent (step x (node i k s e cs r)) (claims x (node i k s e cs r) parent cs) ++ claims x parent grandparent r

-- the calls of a whole tree, whose root has no parent
abbrev pub calls : Side → Elems → List Note
calls x c = claims x none none c

-- the last number noted for an element: "the later in the tree counts"
unfoldable pub last_note : ℕ → List Note → Option ℕ
last_note e [] = None
last_note e (n ∷ ns) = option_or (last_note e ns) (cond (eqb n.element e) (Some n.value) None)

-- the fact of an element that is a resolved path, whether that refers to a definition, and what it resolves to
abbrev pub path_fact : Side → Elems → ℕ → Option Fact
path_fact x c e = option_and_then (slice_get (facts_of x.facts)) (last_note e (resolved_paths x c))

abbrev pub refers_to_definition : Side → Elems → ℕ → Bool
refers_to_definition x c e = is_definition (flags_of (path_fact x c e))

abbrev pub path_at : Side → Elems → ℕ → Option ℕ
path_at x c e = option_map (λ f. f.first) (path_fact x c e)

-- what an element is as a call that a path claims: the path's function, and its qualifier type, which a fact of sort 4 tells, or none
abbrev pub call_by : List ℕ → ℕ → Option Call
call_by facts path =
    option_map (λ f. record { function = f.first; qualifier = option_map (λ t. t.first) (fact_by PatternPath path 0 (facts_of facts)) })
    (fact_by RulePath path 0 (facts_of facts))

abbrev pub call_at : Side → Elems → ℕ → Option Call
call_at x c e = option_and_then (call_by x.facts) (last_note e (calls x c))
