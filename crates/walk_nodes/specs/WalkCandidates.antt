-- The candidates of the walk, document 01: "a whole-file walk that makes a candidate of every node with every rule". And which of a list's
-- candidates match: "A match is a candidate that `get_match` accepts".
-- Assumes nothing.
use Rattle.std.specs.Prelude.{ℕ, Bool, true, false, cond, List, [], ◌∷◌}
use Rattle.syntax.specs.Trees.{Elems, size}
use Rattle.syntax.specs.Accessors.{element_at, node_in}
use Rattle.captures.specs.Attempts.{Attempt, failed, matched}
use Rattle.candidates.specs.Candidates.{Candidate, each}

-- the element of a number with a rule, if it is a node
abbrev pub node_with : Elems → ℕ → ℕ → List Candidate
node_with t r n = cond (node_in 1 4095 (element_at n t)) (record { node = n; rule = r } ∷ []) []

-- every node whose number is below n with a rule
abbrev pub nodes_with : Elems → ℕ → ℕ → List Candidate
nodes_with t r n = each n (node_with t r)

-- every node with a rule
abbrev pub nodes_of : Elems → ℕ → List Candidate
nodes_of t r = nodes_with t r (size t)

-- "a candidate of every node with every rule"
abbrev pub walk_candidates : Elems → ℕ → List Candidate
walk_candidates t rules = each rules (nodes_of t)

abbrev pub is_match : Attempt → Bool
is_match failed = false
is_match (matched es) = true

-- those of a list that match, by the attempt of each
unfoldable pub accepted : (ℕ → ℕ → Attempt) → List Candidate → List Candidate
accepted attempt [] = []
accepted attempt (c ∷ l) = cond (is_match (attempt c.node c.rule)) (c ∷ accepted attempt l) (accepted attempt l)

-- a candidate as two words
abbrev pub pair_of : Candidate → List ℕ
pair_of c = c.node ∷ c.rule ∷ []

-- a list of candidates as words, two to a candidate
unfoldable pub words_of : List Candidate → List ℕ
words_of [] = []
words_of (c ∷ l) = c.node ∷ c.rule ∷ words_of l
