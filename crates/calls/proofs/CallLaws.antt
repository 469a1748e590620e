-- Laws of calls: the number of an element, the test of the first argument, and what is recorded of the receiver.
-- Assumes nothing.
use mathlib.Core.Path.{◌≡◌, refl, sym}
use mathlib.Core.Bool.{Bool, true, false, cond, not, ◌||◌, true≢false}
use mathlib.Core.List.{List, []}
use Prim.Native.Nat.{ℕ}
use lib.ListN.{length}
use Rattle.std.proofs.Common.{Option, Some, None}
use Rattle.std.specs.Prelude.{is_some, unwrap_or}
use Rattle.syntax.specs.Trees.{Elems}
use Rattle.syntax.specs.Accessors.{number_of, some}
use Rattle.syntax.specs.Views.{elems_of}
use Rattle.syntax.specs.declared.parts.Part.{Part}
use Rattle.syntax.proofs.AccessorLaws.{no_sibling}
use Rattle.captures.specs.declared.State.{State}
use Rattle.captures.specs.Attempts.{Bound, Attempt, matched}
use Rattle.captures.specs.Effects.{binding, recorded_one, Gives}
use Rattle.captures.proofs.AttemptLaws.{gives_done, gives_event}
use Rattle.matcher.specs.Matcher.{Matcher, placeholder_of}
use Rattle.matcher.specs.FileFacts.{takes_self, self_kind_at}
use Rattle.matcher.proofs.PlaceholderLaws.{number_of_part}
use Rattle.calls.specs.Calls.{argument_of, receiver_of, receiver_fits, receiver_derefs, derefs_of, bound, prefix, prefixed}

-- ---- the number of a part's first element

not_false : (b : Bool) → not b ≡ false → b ≡ true
not_false true h = refl
not_false false h = absurd (true≢false h)

not_true : (b : Bool) → not b ≡ true → b ≡ false
not_true true h = sym h
not_true false h = refl

pub number_there : (p : Part) → not (some (elems_of p)) ≡ false → p.number ≡ number_of (elems_of p)
number_there p h = sym (number_of_part p (not_false (some (elems_of p)) h))

pub number_none : (p : Part) → not (some (elems_of p)) ≡ true → 0 ≡ number_of (elems_of p)
number_none p h = rw (no_sibling (elems_of p) (not_true (some (elems_of p)) h))

-- ---- the receiver fits where it is dereferenced so often, and gets its stars

fits_by : (t : Bool) (d : Option ℕ) → is_some (cond t d (Some 0)) ≡ (not t || is_some d)
fits_by true d = refl
fits_by false d = refl

pub receiver_fits_is : (x : Matcher) (p c : Elems) → is_some (receiver_derefs x p c) ≡ receiver_fits x p c
receiver_fits_is x p c = fits_by (takes_self x.facts (number_of c)) (derefs_of x p (receiver_of c))

prefix_by : (t : Bool) (d : Option ℕ) (f : ℕ → Attempt) (n : ℕ) → cond t d (Some 0) ≡ Some n → cond t (f n) (matched []) ≡ cond t (f (unwrap_or d 0)) (matched [])
prefix_by true d f n h = rw h refl
prefix_by false d f n h = refl

pub prefixed_is : (x : Matcher) (p c : Elems) (n : ℕ) → receiver_derefs x p c ≡ Some n
    → prefix x n (argument_of p) (receiver_of c) (number_of c) ≡ prefixed x p c
prefixed_is x p c n h =
    prefix_by
    (takes_self x.facts (number_of c))
    (derefs_of x p (receiver_of c))
    (λ m. bound (placeholder_of x (argument_of p)) (binding (receiver_of c) (receiver_of c) m (self_kind_at x.facts (number_of c))))
    n
    h

-- where the function does not take self, where no placeholder was bound, where one was
module _ (x : Matcher) (stars : ℕ) (q r : Elems) (call : ℕ) (s : State) (out : List ℕ) where
  pub gives_no_self : takes_self x.facts call ≡ false → Gives (prefix x stars q r call) s out (Some s) out
  gives_no_self h = rw h (gives_done s out)

  pub gives_unbound : takes_self x.facts call ≡ true → placeholder_of x q ≡ None → Gives (prefix x stars q r call) s out (Some s) out
  gives_unbound h k = rw (h, k) (gives_done s out)

  pub gives_bound : (slot : ℕ) (t : State) → takes_self x.facts call ≡ true → placeholder_of x q ≡ Some slot
      → t ≡ recorded_one (length out) (Bound slot (binding r r stars (self_kind_at x.facts call))) s → Gives (prefix x stars q r call) s out (Some t) out
  gives_bound slot t h k e = rw (h, k, e) (gives_event (Bound slot (binding r r stars (self_kind_at x.facts call))) s out)
