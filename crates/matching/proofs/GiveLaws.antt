-- What is right for an attempt at each bound that is enough, from what its step comes to.
-- Assumes nothing.
use mathlib.Core.Path.{◌≡◌, refl, sym, subst}
use mathlib.Core.Bool.{Bool, true, false}
use mathlib.Core.List.{List, [], ◌∷◌}
use Prim.Native.Nat.{ℕ, zero, suc, ◌≤◌, ◌<◌}
use native.Mathlib.Nat.{le_of_suc-le-suc, not-suc-le-zero}
use native.Mathlib.Omega.{arith}
use lib.ListN.{length}
use Rattle.std.proofs.Common.{Option, Some, None}
use Rattle.syntax.specs.Trees.{Elems}
use Rattle.syntax.specs.Views.{elems_of}
use Rattle.syntax.specs.declared.parts.Part.{Part}
use Rattle.captures.specs.Attempts.{Event, Attempt, failed, matched, and_then, given}
use Rattle.captures.specs.Effects.{recorded_one, laid_one, Gives}
use Rattle.captures.specs.declared.State.{State}
use Rattle.captures.proofs.AttemptLaws.{then_right, gives_done, gives_failed, gives_then, fails_then, gives_event}
use Rattle.matcher.specs.Matcher.{Matcher}
use Rattle.matching.specs.Matching.{enough, GivesFrom}

-- what holds at each bound above k holds where it is one more than some m that is not below k
pub by_suc : (G : ℕ → Type 0) {k : ℕ} → ((m : ℕ) → k ≤ m → G (suc m)) → (n : ℕ) → k < n → G n
by_suc G f zero h = absurd (not-suc-le-zero h)
by_suc G f (suc m) h = f m (le_of_suc-le-suc h)

-- what is right for an attempt is right for the same attempt
pub same_gives : {a b : Attempt} {s : State} {out : List ℕ} {r : Option State} {end : List ℕ} → a ≡ b → Gives b s out r end → Gives a s out r end
same_gives {a} {b} {s} {out} {r} {end} e g = subst (λ (d : Attempt). Gives d s out r end) (sym e) g

-- a test behind an attempt that matches
pub then_test : (a : Attempt) (b : Bool) (s : State) (out : List ℕ) (t : State) (out' : List ℕ) → Gives a s out (Some t) out' → b ≡ true → Gives (and_then a (given b)) s out (Some t) out'
then_test a b s out t out' g h = rw (h, then_right a) g

pub then_fails : (a : Attempt) (b : Bool) (s : State) (out : List ℕ) (t : State) (out' : List ℕ) → Gives a s out (Some t) out' → b ≡ false → Gives (and_then a (given b)) s out None out'
then_fails a b s out t out' g h = rw h (gives_then a failed s out t out' None out' g (gives_failed t out' out' refl))

-- ---- one step: at each bound that is one more than another, the attempt is one that is known
module _ (rank : ℕ) (attempt : ℕ → Matcher → Elems → Elems → Attempt) (x : Matcher) (p c : Part) (s : State) (out : List ℕ) where
  pub from_step : (r : Option State) (end : List ℕ) → ((m : ℕ) → enough rank p c ≤ m → Gives (attempt (suc m) x (elems_of p) (elems_of c)) s out r end) → GivesFrom rank attempt x p c s out r end
  from_step r end f = record { gives = by_suc (λ n. Gives (attempt n x (elems_of p) (elems_of c)) s out r end) f }

  -- it fails, or records nothing, or one event
  pub fails_at : (out' : List ℕ) → ((m : ℕ) → attempt (suc m) x (elems_of p) (elems_of c) ≡ failed) → length out' ≡ length out → GivesFrom rank attempt x p c s out None out'
  fails_at out' e l = from_step None out' (λ m h. rw (e m) (gives_failed s out out' l))

  pub done_at : ((m : ℕ) → attempt (suc m) x (elems_of p) (elems_of c) ≡ matched []) → GivesFrom rank attempt x p c s out (Some s) out
  done_at e = from_step (Some s) out (λ m h. rw (e m) (gives_done s out))

  pub event_at : (v : Event) → ((m : ℕ) → attempt (suc m) x (elems_of p) (elems_of c) ≡ matched (v ∷ [])) → GivesFrom rank attempt x p c s out (Some (recorded_one (length out) v s)) (laid_one v s out)
  event_at v e = from_step (Some (recorded_one (length out) v s)) (laid_one v s out) (λ m h. rw (e m) (gives_event v s out))

  module _ (low : ℕ) (first : ℕ → Matcher → Elems → Elems → Attempt) (q d : Part) (less : enough low q d < enough rank p c) where
    -- it is another attempt, of fewer words or a lower rank
    pub same_at : (r : Option State) (out' : List ℕ) → ((m : ℕ) → attempt (suc m) x (elems_of p) (elems_of c) ≡ first m x (elems_of q) (elems_of d))
        → GivesFrom low first x q d s out r out' → GivesFrom rank attempt x p c s out r out'
    same_at r out' e g = from_step r out' (λ m h. rw (e m) (g.gives m (omega (arith, less, h))))

    -- or that one and then more
    module _ (then : ℕ → Attempt) (e : (m : ℕ) → attempt (suc m) x (elems_of p) (elems_of c) ≡ and_then (first m x (elems_of q) (elems_of d)) (then m)) where
      pub first_fails : (out' : List ℕ) → GivesFrom low first x q d s out None out' → GivesFrom rank attempt x p c s out None out'
      first_fails out' g = from_step None out' (λ m h. rw (e m) (fails_then (first m x (elems_of q) (elems_of d)) (then m) s out out' (g.gives m (omega (arith, less, h)))))

      pub both_match : (t : State) (out' : List ℕ) (r : Option State) (end : List ℕ) → GivesFrom low first x q d s out (Some t) out' → ((m : ℕ) → enough rank p c ≤ m → Gives (then m) t out' r end)
          → GivesFrom rank attempt x p c s out r end
      both_match t out' r end g k = from_step r end (λ m h. rw (e m) (gives_then (first m x (elems_of q) (elems_of d)) (then m) s out t out' r end (g.gives m (omega (arith, less, h))) (k m h)))
