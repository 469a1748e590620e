-- The words of candidates that were found.
-- Assumes nothing.
use Rattle.std.proofs.Common.{◌≡◌, refl, ℕ, List, [], ◌∷◌, ◌++◌, map}
use Rattle.std.specs.List.{flat_map}
use Rattle.candidates.specs.Candidates.{Candidate, candidate_at}
use Rattle.walk_nodes.specs.WalkCandidates.{pair_of, words_of}

words_flat : (cs : List Candidate) → flat_map (λ x. x) (map pair_of cs) ≡ words_of cs
unfolding words_of
words_flat [] = refl
words_flat (c ∷ cs) = rw (words_flat cs)

-- pairs of words one after the other
pub flat_words : (pairs : List (List ℕ)) (cs : List Candidate) → pairs ≡ map pair_of cs → flat_map (λ x. x) pairs ≡ words_of cs
flat_words pairs cs h = rw h (words_flat cs)

-- one pair more
pub map_one : (pairs : List (List ℕ)) (p : List ℕ) → map candidate_at (pairs ++ p ∷ []) ≡ map candidate_at pairs ++ candidate_at p ∷ []
map_one [] p = refl
map_one (q ∷ pairs) p = rw (map_one pairs p)
