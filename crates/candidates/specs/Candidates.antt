-- A job's candidates, document 01: "a candidate list of (node, rule) pairs", and what 25 and 26 refuse of it.
-- Assumes nothing.
use Rattle.std.specs.Prelude.{ℕ, zero, suc, ◌+◌, ◌*◌, ◌/◌, Bool, false, not, ◌&&◌, ◌||◌, List, [], ◌∷◌, ◌++◌, eqb, ltb, length, get_or}
use Rattle.syntax.specs.Trees.{Elems}
use Rattle.syntax.specs.Accessors.{element_at, node_in}

pub record Candidate : Type 0 where
  pub node : ℕ
  pub rule : ℕ

-- the rule of a candidate whose rule is missing: no word is this number
abbrev pub missing_rule : ℕ
missing_rule = 4294967296

-- the candidate that a part begins with
abbrev pub candidate_at : List ℕ → Candidate
candidate_at l = record { node = get_or l 0 0; rule = get_or l 1 missing_rule }

-- the candidates of a list of words, two to a candidate; of a lone last word the rule is missing
unfoldable pub candidates_of : List ℕ → List Candidate
candidates_of [] = []
candidates_of (a ∷ []) = candidate_at (a ∷ []) ∷ []
candidates_of (a ∷ (b ∷ l)) = candidate_at (a ∷ b ∷ l) ∷ candidates_of l

-- how many they are: half the words, rounded up
abbrev pub candidate_count : List ℕ → ℕ
candidate_count l = (length l + 1) / 2

-- a set of pairs of node and rule
abbrev pub Pairs : Type 0
Pairs = ℕ → ℕ → Bool

-- the pair is among the candidates
unfoldable pub has : List Candidate → Pairs
has [] n r = false
has (c ∷ l) n r = (eqb c.node n && eqb c.rule r) || has l n r

-- 25: "a candidate without such node or rule", of a tree and a number of rules
abbrev pub is_named : Elems → ℕ → Candidate → Bool
is_named tree rules c = node_in 1 4095 (element_at c.node tree) && ltb c.rule rules

unfoldable pub any_bad : Elems → ℕ → List Candidate → Bool
any_bad tree rules [] = false
any_bad tree rules (c ∷ l) = not (is_named tree rules c) || any_bad tree rules l

-- 26: "a pair twice"
unfoldable pub is_twice : List Candidate → Bool
is_twice [] = false
is_twice (c ∷ l) = has l c.node c.rule || is_twice l

-- the same elements in any order
pub data Perm {A : Type 0} : List A → List A → Type 0 where
  done : Perm [] []
  keep : {x : A} {a b : List A} → Perm a b → Perm (x ∷ a) (x ∷ b)
  swap : {x y : A} {a : List A} → Perm (x ∷ (y ∷ a)) (y ∷ (x ∷ a))
  both : {a b c : List A} → Perm a b → Perm b c → Perm a c

-- node and rule as one number, in the order by node and then rule: a job has at most 16 rules
abbrev pub key_of : Candidate → ℕ
key_of c = c.node * 16 + c.rule

abbrev pub keys_of : List Candidate → List ℕ
keys_of [] = []
keys_of (c ∷ l) = key_of c ∷ keys_of l

-- f 0, f 1 and so on, all below n, in turn
unfoldable pub each : {A : Type 0} → ℕ → (ℕ → List A) → List A
each zero f = []
each (suc n) f = each n f ++ f n

-- a list begins with a number; two neighbours of a list are equal
abbrev pub is_first : ℕ → List ℕ → Bool
is_first k [] = false
is_first k (j ∷ l) = eqb k j

unfoldable pub has_equal_neighbours : List ℕ → Bool
has_equal_neighbours [] = false
has_equal_neighbours (k ∷ l) = is_first k l || has_equal_neighbours l
