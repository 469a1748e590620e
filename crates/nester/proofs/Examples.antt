-- Small jobs, computed: that the definitions say what they should. Each gives the kept matches with their places, in both orders of coming.
-- Assumes nothing.
use mathlib.Core.Path.{◌≡◌, refl}
use Prim.Native.Nat.{ℕ}
use mathlib.Core.List.{List, [], ◌∷◌, ◌++◌}
use mathlib.Core.Bool.{true, cond, ◌&&◌}
use lib.Dec.{eqb}
use Rattle.syntax.specs.Trees.{Elems, none, token, node, size, depth}
use Rattle.syntax.specs.Accessors.{ancestors, element_at, or_else}
use Rattle.captures.specs.declared.SelfKind.TheVariants.{Owned}
use Rattle.captures.specs.Attempts.{Event, Bound, Attempt, failed, matched, comments}
use Rattle.captures.specs.Effects.{recorded}
use Rattle.candidates.specs.Candidates.{each}
use Rattle.nester.specs.Matches.{Match, matches, by_element}
use Rattle.nester.specs.Nest as Nest
use Rattle.nester.specs.Nest.{come, nest}
use Rattle.nester.specs.Fates.{Place, outer, within, Placed, walk, rows, shown}
use Rattle.nester.specs.Places.{Item, before, insert, items}

-- a binding of so many bytes in a slot, and none
abbrev captures : ℕ → ℕ → ℕ → List Event → Attempt
captures k s e es = matched (Bound k (record { start = s; end = e; stars = 0; self_kind = Owned }) ∷ es)

abbrev fits : Attempt
fits = matched []

-- a kept match and its place
record Kept : Type 0 where
  node : ℕ
  rule : ℕ
  place : Place

abbrev at : ℕ → ℕ → Place → Kept
at n r p = record { node = n; rule = r; place = p }

kept : List Placed → List Kept
kept [] = []
kept (r ∷ l) = at r.match.node r.match.rule r.place ∷ kept l

-- every node with each of two rules
by_depth : Elems → (ℕ → ℕ → Attempt) → List Kept
by_depth t attempt = kept (rows t (matches t 2 attempt (λ n r. true)) [])

by_element_lem : Elems → (ℕ → ℕ → Attempt) → List Kept
by_element_lem t attempt = kept (rows t (by_element t 2 attempt (λ n r. true)) [])

-- `x`, an element without text behind it, and `k`, in one node
abbrev empty_behind : Elems
empty_behind = node 0 64 0 2 (node 1 66 0 1 (token 2 12 0 1 none) (node 3 100 1 1 none (token 4 13 1 2 none))) none

-- rule 0 matches all of it and captures `x`; rule 1 matches the empty node
abbrev on_empty : ℕ → ℕ → Attempt
on_empty n r = cond (eqb n 0 && eqb r 0) (captures 0 0 1 []) (cond (eqb n 3 && eqb r 1) fits failed)

-- `x`
abbrev one_node : Elems
one_node = node 0 66 0 1 (token 1 12 0 1 none) none

-- a rule that captures all and one that captures nothing, in either order
abbrev whole_first : ℕ → ℕ → Attempt
whole_first n r = cond (eqb r 0) (captures 0 0 1 []) fits

abbrev whole_last : ℕ → ℕ → Attempt
whole_last n r = cond (eqb r 0) fits (captures 0 0 1 [])

-- `foo(foo(foo(foo(42))))`
abbrev foos : Elems
foos =
    node 0 64 0 22 (token 1 12 0 4
    (node 2 64 4 21 (token 3 12 4 8
    (node 4 64 8 20 (token 5 12 8 12
    (node 6 64 12 19 (token 7 12 12 16
    (node 8 66 16 18 (token 9 14 16 18 none) (token 10 5 18 19 none)))
    (token 11 5 19 20 none))) (token 12 5 20 21 none))) (token 13 5 21 22 none))) none

-- rule 0 is `foo(foo($a))`
abbrev foo_foo : ℕ → ℕ → Attempt
foo_foo n r = cond (eqb r 0) (cond (eqb n 0) (captures 0 8 20 []) (cond (eqb n 2) (captures 0 12 19 []) (cond (eqb n 4) (captures 0 16 18 []) failed))) failed

-- rule 0 has its placeholder 0 unbound, and 1 and 2 bound to the same bytes
abbrev two_ranges : ℕ → ℕ → Attempt
two_ranges n r = cond (eqb r 0) (captures 2 0 1 (Bound 1 (record { start = 0; end = 1; stars = 0; self_kind = Owned }) ∷ [])) fits

-- what is rendered of a match is its rule, then of each match in its first range the node and what is rendered
texts : List (Item (List ℕ)) → List ℕ
texts [] = []
texts (x ∷ l) = x.node ∷ x.what ++ texts l

abbrev render : Match → (ℕ → List (Item (List ℕ))) → List ℕ
render m inner = m.rule ∷ texts (inner 0)

examples :
    -- holding is by bytes: the empty node right behind the captured one is held by it
    (by_depth empty_behind on_empty ≡ at 0 0 outer ∷ at 3 1 (within 0 0 0) ∷ [])
    × (by_element_lem empty_behind on_empty ≡ at 0 0 outer ∷ at 3 1 (within 0 0 0) ∷ [])
    -- on one node the second rule's match is kept in the first's capture; where the first captures nothing it is dropped
    × (by_depth one_node whole_first ≡ at 0 0 outer ∷ at 0 1 (within 0 0 0) ∷ [])
    × (by_element_lem one_node whole_first ≡ at 0 0 outer ∷ at 0 1 (within 0 0 0) ∷ [])
    × (by_depth one_node whole_last ≡ at 0 0 outer ∷ [])
    × (by_element_lem one_node whole_last ≡ at 0 0 outer ∷ [])
    -- "only the outermost and innermost matches can be accepted. The middle match would take the second `foo` from the outer match."
    × (by_depth foos foo_foo ≡ at 0 0 outer ∷ at 4 0 (within 0 0 0) ∷ [])
    × (by_element_lem foos foo_foo ≡ at 0 0 outer ∷ at 4 0 (within 0 0 0) ∷ [])
    -- of two captured ranges that hold a match the earlier placeholder's takes it
    × (by_depth one_node two_ranges ≡ at 0 0 outer ∷ at 0 1 (within 0 0 1) ∷ [])
    × (by_element_lem one_node two_ranges ≡ at 0 0 outer ∷ at 0 1 (within 0 0 1) ∷ [])
    -- and as the collections themselves
    × (items foos render (nest foos (matches foos 2 foo_foo (λ n r. true)) Nest.none) ≡ record { node = 0; what = 0 ∷ 4 ∷ 0 ∷ [] } ∷ [])
unfolding by_depth by_element_lem kept texts size depth ancestors element_at or_else comments recorded each matches by_element come nest walk rows shown before insert items
examples = (refl, refl, refl, refl, refl, refl, refl, refl, refl, refl, refl)
