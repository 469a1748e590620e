-- Small candidate lists, computed: that the definitions say what they should.
-- Assumes nothing.
use mathlib.Core.Path.{◌≡◌, refl}
use mathlib.Core.Bool.{true, false}
use mathlib.Core.List.{List, [], ◌∷◌}
use Prim.Native.Nat.{ℕ}
use Rattle.sorting.specs.Sorted.{insert, sort}
use Rattle.syntax.specs.Trees.{Elems, none, token, node}
use Rattle.syntax.specs.Accessors.{element_at, or_else}
use Rattle.candidates.specs.Candidates.{candidates_of, candidate_count, has, any_bad, is_twice, keys_of, each, has_equal_neighbours}

-- f(): element 0 is the call, 1 the path, 2 its token, 3 the arguments, 4 and 5 their parentheses
abbrev file : Elems
file = node 0 64 0 3 (node 1 2 0 1 (token 2 1 0 1 none) (node 3 7 1 3 (token 4 12 1 2 (token 5 13 2 3 none)) none)) none

-- the call with rule 1, the arguments with rule 0, the call with rule 0
abbrev three : List ℕ
three = 0 ∷ 1 ∷ 3 ∷ 0 ∷ 0 ∷ 0 ∷ []

examples :
    -- of 2 rules all are named; of 1 rule the first has none
    (any_bad file 2 (candidates_of three) ≡ false)
    × (any_bad file 1 (candidates_of three) ≡ true)
    -- a token, an element that is not there, a number of 32 bits
    × (any_bad file 2 (candidates_of (2 ∷ 0 ∷ [])) ≡ true)
    × (any_bad file 2 (candidates_of (6 ∷ 0 ∷ [])) ≡ true)
    × (any_bad file 2 (candidates_of (4294967295 ∷ 0 ∷ [])) ≡ true)
    -- a lone last word is a candidate without rule; no words are no candidates
    × (candidate_count (0 ∷ 1 ∷ 3 ∷ []) ≡ 2)
    × (any_bad file 2 (candidates_of (0 ∷ 1 ∷ 3 ∷ [])) ≡ true)
    × (any_bad file 0 (candidates_of []) ≡ false)
    -- the pair of the call and rule 0 comes again behind another; a node with two rules is not twice
    × (is_twice (candidates_of (0 ∷ 0 ∷ 3 ∷ 0 ∷ 0 ∷ 0 ∷ [])) ≡ true)
    × (is_twice (candidates_of three) ≡ false)
    -- by node and then rule
    × (sort (keys_of (candidates_of three)) ≡ 0 ∷ 1 ∷ 48 ∷ [])
    × (each 4 (λ n. each 2 (λ r. keys_of (candidates_of (n ∷ r ∷ [])))) ≡ 0 ∷ 1 ∷ 16 ∷ 17 ∷ 32 ∷ 33 ∷ 48 ∷ 49 ∷ [])
    × (has (candidates_of three) 3 0 ≡ true)
    × (has (candidates_of three) 3 1 ≡ false)
    × (has_equal_neighbours (0 ∷ 1 ∷ 48 ∷ []) ≡ false)
    × (has_equal_neighbours (0 ∷ 1 ∷ 48 ∷ 48 ∷ []) ≡ true)
unfolding candidates_of any_bad element_at or_else has is_twice sort insert each has_equal_neighbours
examples = (refl, refl, refl, refl, refl, refl, refl, refl, refl, refl, refl, refl, refl, refl, refl, refl)
