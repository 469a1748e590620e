-- A number past a tree's elements: no note is of it.
-- Assumes nothing.
use mathlib.Core.Path.{◌≡◌, refl}
use mathlib.Core.Logic.{inr}
use mathlib.Core.Bool.{Bool, true, false, cond, ◌&&◌, false≢true}
use mathlib.Core.List.{List, [], ◌∷◌, ◌++◌}
use Prim.Native.Nat.{ℕ, ◌/◌, ◌≤◌}
use native.Mathlib.Omega.{arith}
use lib.Dec.{eqb}
use lib.ListN.{length}
use borrow.Author.Tests.{ne_eqb}
use Rattle.std.specs.Prelude.{Option, Some, None}
use Rattle.std.specs.Option.{option_or}
use Rattle.syntax.specs.Trees.{Elems, none, token, node, tree}
use Rattle.syntax.specs.Accessors.{number_of, node_in}
use Rattle.syntax.specs.Checks.{WellFormed}
use Rattle.syntax.proofs.Places.{Away, away, tree_good, tree-size}
use Rattle.paths.specs.Steps.{Side, is_associated, flags_at, step}
use Rattle.paths.specs.Resolved.{Note, last_note, paths_at, resolved_paths, claims_at, claims, calls}
use Rattle.paths.specs.declared.resolving.Step.{Step}
use Rattle.paths.specs.declared.resolving.Step.TheVariants.{Skips, Fails, Resolves, Enters}

or_neither : (a b : Option ℕ) → option_or a b ≡ None → (a ≡ None) × (b ≡ None)
or_neither None b h = (refl, h)
or_neither (Some x) b h = absurd (cc)

-- notes of which none is of an element
module _ (e : ℕ) where
  none_of : last_note e [] ≡ None
  unfolding last_note
  none_of = refl

  none_both : (xs ys : List Note) → last_note e xs ≡ None → last_note e ys ≡ None → last_note e (xs ++ ys) ≡ None
  unfolding last_note
  none_both [] ys p q = q
  none_both (n ∷ xs) ys p q =
      let h = or_neither (last_note e xs) (cond (eqb n.element e) (Some n.value) None) p in
      rw (none_both xs ys h.0 q) h.1

  path-none : (i : ℕ) (s : Step) (below : List Note) → (i ≡ e → ⊥) → last_note e below ≡ None → last_note e (paths_at i s below) ≡ None
  unfolding last_note
  path-none i Skips below a b = refl
  path-none i Fails below a b = refl
  path-none i (Resolves place) below a b = rw (ne_eqb i e a)
  path-none i Enters below a b = b

  paths_none : (x : Side) (c : Elems) → Away e c → last_note e (resolved_paths x c) ≡ None
  unfolding resolved_paths
  paths_none x none a = none_of
  paths_none x (token i k s t r) a = paths_none x r a.1
  paths_none x (node i k s t cs r) a =
      none_both _ _ (path-none i (step x (node i k s t cs r)) _ a.0 (paths_none x cs a.1)) (paths_none x r a.2)

  -- a call is another element
  abbrev Other : Elems → Type 0
  Other c = node_in 64 64 c ≡ true → number_of c ≡ e → ⊥

  claim_by_none : (i : ℕ) (g : Elems) (p q : Bool) → node_in 64 64 g ≡ q → Other g → last_note e (cond (p && q) (record { element = number_of g; value = i } ∷ []) []) ≡ None
  unfolding last_note
  claim_by_none i g false q t o = refl
  claim_by_none i g true false t o = refl
  claim_by_none i g true true t o = rw (ne_eqb (number_of g) e (o t))

  claim_none : (x : Side) (i : ℕ) (g : Elems) (s : Step) (below : List Note) → Other g → last_note e below ≡ None → last_note e (claims_at x i g s below) ≡ None
  unfolding last_note
  claim_none x i g Skips below o b = refl
  claim_none x i g Fails below o b = refl
  claim_none x i g (Resolves place) below o b = claim_by_none i g (is_associated (flags_at x.facts place)) (node_in 64 64 g) refl o
  claim_none x i g Enters below o b = b

  claims-none : (x : Side) (p g c : Elems) → Other p → Other g → Away e c → last_note e (claims x p g c) ≡ None
  unfolding claims
  claims-none x p g none op og a = none_of
  claims-none x p g (token i k s t r) op og a = claims-none x p g r op og a.1
  claims-none x p g (node i k s t cs r) op og a =
      none_both _ _
      (claim_none x i g (step x (node i k s t cs r)) _ og (claims-none x (node i k s t cs r) p cs (λ _. a.0) op a.1))
      (claims-none x p g r op og a.2)

module _ (x : Side) (l : List ℕ) (e : ℕ) (w : WellFormed l) (h : length l / 3 ≤ e) where
  past : Away e (tree l)
  past = away (tree l) 0 e (tree_good l w).numbered (inr (omega (arith, tree-size l w)))

  pub no_path : last_note e (resolved_paths x (tree l)) ≡ None
  no_path = paths_none e x (tree l) past

  pub no_call : last_note e (calls x (tree l)) ≡ None
  no_call = claims-none e x none none (tree l) (λ t. absurd (false≢true t)) (λ t. absurd (false≢true t)) past
