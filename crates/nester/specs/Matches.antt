-- The matches of a job and the order in which they come, document 01, "Modules", 6.
-- Assumes nothing.
use Rattle.std.specs.Prelude.{ℕ, ◌+◌, Bool, cond, ◌&&◌, List, [], ◌∷◌, eqb, Option}
use Rattle.syntax.specs.Trees.{Elems, size, depth}
use Rattle.syntax.specs.Accessors.{depth_of}
use Rattle.captures.specs.declared.Binding.{Binding}
use Rattle.captures.specs.Attempts.{Attempt, failed, matched, comments}
use Rattle.captures.specs.Effects.{nothing, recorded}
use Rattle.candidates.specs.Candidates.{Pairs, each}

-- "A match is a candidate that `get_match` accepts", with its bindings in pattern order and the texts of its comments
pub record Match : Type 0 where
  pub node : ℕ
  pub rule : ℕ
  pub bindings : List (Option Binding)
  pub comments : List ℕ

-- "A candidate that does not match is no match"
abbrev pub match_of : ℕ → ℕ → Attempt → List Match
match_of n r failed = []
match_of n r (matched es) = record { node = n; rule = r; bindings = (recorded 0 es nothing).bindings; comments = comments es } ∷ []

-- of one depth, the lower rule goes first
abbrev pub by_precedence : {A : Type 0} → ℕ → (ℕ → List A) → List A
by_precedence rules f = each rules f

-- a candidate on a node of a depth
abbrev pub stands_at : Elems → Pairs → ℕ → ℕ → ℕ → Bool
stands_at t pairs d r n = eqb (depth_of n t) d && pairs n r

-- "Matches come by depth, then rule"; those of one depth and one rule are on nodes of which none is an ancestor of another
unfoldable pub matches : Elems → ℕ → (ℕ → ℕ → Attempt) → Pairs → List Match
matches t rules attempt pairs =
    each (1 + depth t) λ d. by_precedence rules λ r. each (size t) λ n.
    cond (stands_at t pairs d r n) (match_of n r (attempt n r)) []

-- the same matches by element, then rule: the order in which code has them
unfoldable pub by_element : Elems → ℕ → (ℕ → ℕ → Attempt) → Pairs → List Match
by_element t rules attempt pairs = each (size t) λ n. by_precedence rules λ r. cond (pairs n r) (match_of n r (attempt n r)) []
