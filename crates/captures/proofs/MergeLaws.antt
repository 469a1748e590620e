-- What a pair of a pattern's node and the code's gives does not depend on the state coming in: whether it matches is the attempt's alone,
-- bindings merge with the last one winning, and comments are noted behind those noted before.
-- Assumes nothing.
use mathlib.Core.Path.{◌≡◌, refl, sym, ap, ◌∙◌}
use mathlib.Core.Bool.{Bool, true, false, cond}
use mathlib.Core.List.{List, [], ◌∷◌, ◌++◌}
use Prim.Native.Nat.{ℕ, ◌<◌}
use native.Mathlib.Omega.{arith}
use lib.Dec.{eqb}
use lib.ListN.{length, set, get_or, length-set}
use lib.Seq.{get_or-set_same, get_or-set_other}
use borrow.Author.Tests.{eqb-true, eqb-false}
use Rattle.std.proofs.Common.{Option, Some}
use Rattle.std.specs.Prelude.{is_some}
use Rattle.captures.specs.declared.Binding.{Binding}
use Rattle.captures.specs.declared.State.{State}
use Rattle.captures.specs.Attempts.{Event, Bound, Noted, Attempt, failed, matched}
use Rattle.captures.specs.Effects.{recorded_one, recorded, AnswerOf, Gives}

-- ---- match or no match

same_answer : (a : Attempt) (s s' : State) (out out' : List ℕ) (r r' : Option State) → AnswerOf a s out r → AnswerOf a s' out' r' → is_some r ≡ is_some r'
same_answer failed s s' out out' r r' h h' = rw (h, h')
same_answer (matched es) s s' out out' r r' h h' = rw (h, h')

-- whatever was recorded before, and whatever the buffer
pub state_free : {a : Attempt} {s s' : State} {out out' end end' : List ℕ} {r r' : Option State} → Gives a s out r end → Gives a s' out' r' end' → is_some r ≡ is_some r'
state_free {a} {s} {s'} {out} {out'} {end} {end'} {r} {r'} g g' = same_answer a s s' out out' r r' g.answer g'.answer

-- ---- bindings

-- the binding of a placeholder after events, with the one before them
unfoldable pub last_bound : ℕ → List Event → Option Binding → Option Binding
last_bound slot [] b = b
last_bound slot (Bound k v ∷ es) b = last_bound slot es (cond (eqb k slot) (Some v) b)
last_bound slot (Noted t ∷ es) b = last_bound slot es b

pub last-append : (slot : ℕ) (es fs : List Event) (b : Option Binding) → last_bound slot (es ++ fs) b ≡ last_bound slot fs (last_bound slot es b)
unfolding last_bound
last-append slot [] fs b = refl
last-append slot (Bound k v ∷ es) fs b = last-append slot es fs (cond (eqb k slot) (Some v) b)
last-append slot (Noted t ∷ es) fs b = last-append slot es fs b

set_at : (l : List (Option Binding)) (k slot : ℕ) (v d : Option Binding) → slot < length l → (b : Bool) → eqb k slot ≡ b → get_or (set l k v) slot d ≡ cond b v (get_or l slot d)
set_at l k slot v d h true e = let q : k ≡ slot = eqb-true k slot e in rw q (get_or-set_same l slot v d h)
set_at l k slot v d h false e = get_or-set_other l k slot v d (λ q. eqb-false k slot e (sym q))

pub bindings_merge : (room : ℕ) (es : List Event) (s : State) (slot : ℕ) (d : Option Binding) → slot < length s.bindings → get_or (recorded room es s).bindings slot d ≡ last_bound slot es (get_or s.bindings slot d)
unfolding recorded last_bound
bindings_merge room [] s slot d h = refl
bindings_merge room (Bound k v ∷ es) s slot d h =
    let n : length (set s.bindings k (Some v)) ≡ length s.bindings = simp length-set in
    bindings_merge room es (recorded_one room (Bound k v) s) slot d (omega arith) ∙ ap (last_bound slot es) (set_at s.bindings k slot (Some v) d h (eqb k slot) refl)
bindings_merge room (Noted t ∷ es) s slot d h = bindings_merge room es (recorded_one room (Noted t) s) slot d h
