-- More calls change nothing of a match: what matches within a bound matches, with the same events, within any larger one.
-- Assumes nothing.
use mathlib.Core.Path.{◌≡◌, refl, subst}
use mathlib.Core.Bool.{Bool, true, false, cond}
use mathlib.Core.List.{List, ◌++◌}
use Prim.Native.Nat.{ℕ, zero, suc, ◌+◌, ◌-◌, ◌≤◌}
use native.Mathlib.Nat.{add-zero, add-suc}
use native.Mathlib.Omega.{arith}
use Rattle.std.proofs.Common.{Option, Some, None}
use Rattle.std.specs.Prelude.{unwrap_or, option_map}
use Rattle.syntax.specs.Trees.{Elems}
use Rattle.syntax.specs.Accessors.{some}
use Rattle.syntax.specs.Siblings.{is_a_token, is_trivia, skip_trivia}
use Rattle.captures.specs.Attempts.{Event, Attempt, failed, matched, and_then}
use Rattle.captures.proofs.PartLaws.{fails_not}
use Rattle.matcher.specs.Matcher.{Matcher, placeholder_of}
use Rattle.token_trees.specs.Runs.{Run, is_at_tree}
use Rattle.token_trees.specs.TokenTrees.{match_token_tree, match_tokens, match_run}

-- ---- where one attempt matches, the other does, with the same events
abbrev pub Below : Attempt → Attempt → Type 0
Below a b = (es : List Event) → a ≡ matched es → b ≡ matched es

pub below_refl : (a : Attempt) → Below a a
below_refl a es e = e

pub below-failed : (b : Attempt) → Below failed b
below-failed b es e = fails_not es e

pub below_then : {a a' b b' : Attempt} → Below a a' → Below b b' → Below (and_then a b) (and_then a' b')
unfolding and_then
below_then {a} {a'} {b} {b'} f g = by a b f g
  where
    by : (d e : Attempt) → Below d a' → Below e b' → Below (and_then d e) (and_then a' b')
    by failed e f g = below-failed _
    by (matched es) failed f g = below-failed _
    by (matched es) (matched fs) f g = rw (f es refl, g fs refl) (below_refl (matched (es ++ fs)))

pub below_cond : (h : Bool) {a a' b b' : Attempt} → Below a a' → Below b b' → Below (cond h a b) (cond h a' b')
below_cond true f g = f
below_cond false f g = g

pub below_slot : (slot : Option ℕ) {f g : ℕ → Attempt} {a b : Attempt} → ((n : ℕ) → Below (f n) (g n)) → Below a b
    → Below (unwrap_or (option_map f slot) a) (unwrap_or (option_map g slot) b)
below_slot (Some n) h k = h n
below_slot None h k = k

-- what one more keeps, any larger bound keeps
pub below_more : (f : ℕ → Attempt) → ((n : ℕ) → Below (f n) (f (suc n))) → (m n : ℕ) → m ≤ n → Below (f m) (f n)
below_more f step m n h = let e : m + (n - m) ≡ n = omega (arith, h) in subst (λ (k : ℕ). Below (f m) (f k)) e (by (n - m))
  where
    by : (k : ℕ) → Below (f m) (f (m + k))
    by zero = rw (add-zero m) (below_refl (f m))
    by (suc k) = rw (add-suc m k) (λ es e. step (m + k) es (by k es e))

-- ---- one more call
mutual
  unfolding match_token_tree

  pub step-tree : (n : ℕ) (x : Matcher) (p c : Elems) → Below (match_token_tree n x p c) (match_token_tree (suc n) x p c)
  step-tree zero x p c = below-failed _
  step-tree (suc n) x p c = step-tokens n x _ _

  pub step-tokens : (n : ℕ) (x : Matcher) (ps cs : Elems) → Below (match_tokens n x ps cs) (match_tokens (suc n) x ps cs)
  step-tokens zero x ps cs = below-failed _
  step-tokens (suc n) x ps cs =
      below_cond (some cs)
      (below_slot (placeholder_of x (skip_trivia ps)) (λ slot. step_run n x slot _ _)
      (below_cond (is_trivia cs) (below_then (below_refl _) (step-tokens n x _ _))
      (below_cond (is_a_token cs) (below_then (below_refl _) (step-tokens n x _ _))
      (below_then (below_refl _) (below_then (step-tree n x _ _) (step-tokens n x _ _))))))
      (below_refl _)

  pub step_run : (n : ℕ) (x : Matcher) (slot : ℕ) (c : Elems) (u : Run) → Below (match_run n x slot c u) (match_run (suc n) x slot c u)
  step_run zero x slot c u = below-failed _
  step_run (suc n) x slot c u =
      below_then (below_cond (is_at_tree u) (step-tree n x _ _) (below_refl _)) (below_then (below_refl _) (step-tokens n x _ _))
