-- Laws of events that are recorded once where the crate records them twice: comments may be counted later, events whose placeholders are
-- all bound again may be left out but for their comments, and where no comment is laid the buffer stays.
-- Assumes nothing.
use mathlib.Core.Path.{◌≡◌, refl, sym, ap, ◌∙◌}
use mathlib.Core.Bool.{Bool, true, false, cond, not, ◌||◌, false≢true}
use mathlib.Core.List.{List, [], ◌∷◌, ◌++◌}
use Prim.Native.Nat.{ℕ, ◌+◌, ◌<◌}
use native.Mathlib.Omega.{arith}
use lib.Dec.{eqb, leb, ltb}
use lib.ListN.{length, set, get_or, length-set}
use lib.Seq.{ext_get_or}
use borrow.Author.Tests.{lt-leb, leb-false, lt-ltb, ltb-true}
use Rattle.std.proofs.Common.{Option, Some, None}
use Rattle.captures.specs.declared.Binding.{Binding}
use Rattle.captures.specs.declared.State.{State}
use Rattle.captures.specs.Attempts.{Event, Bound, Noted, notes}
use Rattle.captures.specs.Effects.{moved_to, place_behind, recorded_one, recorded, laid_one, laid_by}
use Rattle.captures.proofs.AttemptLaws.{recorded-append, noted_after, recorded_moved, recorded-noted, recorded-notes, pass_one}
use Rattle.captures.proofs.MergeLaws.{last_bound, last-append, bindings_merge}

-- ---- comments may be counted later

-- the place behind n bytes and m bytes more
place-two : (room at n m : ℕ) → place_behind room (place_behind room at n) m ≡ place_behind room at (n + m)
place-two room at n m = by (leb (at + n) room) refl
  where
    sum : at + n + m ≡ at + (n + m)
    sum = omega arith

    by : (b : Bool) → leb (at + n) room ≡ b → place_behind room (cond b (at + n) (room + 1)) m ≡ place_behind room at (n + m)
    by true e = ap (λ (k : ℕ). cond (leb k room) k (room + 1)) sum
    by false e = let h = leb-false (at + n) room e in pass_one room (room + 1) m (omega arith) ∙ sym (pass_one room at (n + m) (omega (arith, h)))

place-swap : (room at n m : ℕ) → place_behind room (place_behind room at n) m ≡ place_behind room (place_behind room at m) n
place-swap room at n m = let e : n + m ≡ m + n = omega arith in place-two room at n m ∙ ap (place_behind room at) e ∙ sym (place-two room at m n)

noted-place : (room : ℕ) (es : List Event) (at n : ℕ) → noted_after room es (place_behind room at n) ≡ place_behind room (noted_after room es at) n
unfolding noted_after
noted-place room [] at n = refl
noted-place room (Bound slot b ∷ es) at n = noted-place room es at n
noted-place room (Noted t ∷ es) at n = ap (noted_after room es) (place-swap room at n (length t)) ∙ noted-place room es (place_behind room at (length t)) n

noted-swap : (room : ℕ) (es fs : List Event) (at : ℕ) → noted_after room fs (noted_after room es at) ≡ noted_after room es (noted_after room fs at)
unfolding noted_after
noted-swap room [] fs at = refl
noted-swap room (Bound slot b ∷ es) fs at = noted-swap room es fs at
noted-swap room (Noted t ∷ es) fs at = noted-swap room es fs (place_behind room at (length t)) ∙ ap (noted_after room es) (noted-place room fs at (length t))

pub notes-later : (room : ℕ) (es fs : List Event) (s : State) → recorded room (notes es ++ fs) s ≡ recorded room (fs ++ notes es) s
notes-later room es fs s =
    let at = noted_after room es s.noted in let r = recorded room fs s in
    let n : r.noted ≡ noted_after room fs s.noted = ap (λ (u : State). u.noted) (recorded-noted room fs s) in
    let l : r.lays ≡ s.lays = ap (λ (u : State). u.lays) (recorded-noted room fs s) in
    recorded-append room (notes es) fs s ∙ ap (recorded room fs) (recorded-notes room es s) ∙ recorded_moved room fs at s.lays s
    ∙ ap (λ (k : ℕ). moved_to k s.lays r) (noted-swap room es fs s.noted ∙ sym (ap (noted_after room es) n))
    ∙ sym (recorded-append room fs (notes es) s ∙ recorded-notes room es r ∙ ap (λ (b : Bool). moved_to (noted_after room es r.noted) b r) l)

-- ---- which placeholders events bind

unfoldable pub binds : ℕ → List Event → Bool
binds slot [] = false
binds slot (Bound k v ∷ es) = eqb k slot || binds slot es
binds slot (Noted t ∷ es) = binds slot es

-- the first bind all that the second do
abbrev pub Covers : List Event → List Event → Type 0
Covers os es = (slot : ℕ) → binds slot es ≡ true → binds slot os ≡ true

pub binds-append : (slot : ℕ) (es fs : List Event) → binds slot (es ++ fs) ≡ (binds slot es || binds slot fs)
unfolding binds
binds-append slot [] fs = refl
binds-append slot (Bound k v ∷ es) fs = ap (λ (b : Bool). eqb k slot || b) (binds-append slot es fs) ∙ or_assoc (eqb k slot) (binds slot es) (binds slot fs)
  where
    or_assoc : (a b d : Bool) → (a || (b || d)) ≡ ((a || b) || d)
    or_assoc true b d = refl
    or_assoc false b d = refl
binds-append slot (Noted t ∷ es) fs = binds-append slot es fs

-- one that is not bound stays, and of one that is it does not matter what it was
last_stays : (slot : ℕ) (es : List Event) (b : Option Binding) → binds slot es ≡ false → last_bound slot es b ≡ b
unfolding last_bound binds
last_stays slot [] b h = refl
last_stays slot (Bound k v ∷ es) b h = by (last_stays slot es b) (eqb k slot) h
  where
    by : (binds slot es ≡ false → last_bound slot es b ≡ b) → (d : Bool) → (d || binds slot es) ≡ false → last_bound slot es (cond d (Some v) b) ≡ b
    by left true e = absurd (false≢true (sym e))
    by left false e = left e
last_stays slot (Noted t ∷ es) b h = last_stays slot es b h

last-same : (slot : ℕ) (es : List Event) (b d : Option Binding) → binds slot es ≡ true → last_bound slot es b ≡ last_bound slot es d
unfolding last_bound binds
last-same slot [] b d h = absurd (false≢true h)
last-same slot (Bound k v ∷ es) b d h = by (last-same slot es b d) (eqb k slot) h
  where
    by : (binds slot es ≡ true → last_bound slot es b ≡ last_bound slot es d) → (x : Bool) → (x || binds slot es) ≡ true
        → last_bound slot es (cond x (Some v) b) ≡ last_bound slot es (cond x (Some v) d)
    by left true e = refl
    by left false e = left e
last-same slot (Noted t ∷ es) b d h = last-same slot es b d h

last-notes : (slot : ℕ) (es : List Event) (b : Option Binding) → last_bound slot (notes es) b ≡ b
unfolding last_bound notes
last-notes slot [] b = refl
last-notes slot (Bound k v ∷ es) b = last-notes slot es b
last-notes slot (Noted t ∷ es) b = last-notes slot es b

-- ---- what is bound again may be left out

noted-append : (room : ℕ) (es fs : List Event) (at : ℕ) → noted_after room (es ++ fs) at ≡ noted_after room fs (noted_after room es at)
unfolding noted_after
noted-append room [] fs at = refl
noted-append room (Bound slot b ∷ es) fs at = noted-append room es fs at
noted-append room (Noted t ∷ es) fs at = noted-append room es fs (place_behind room at (length t))

noted-notes : (room : ℕ) (es : List Event) (at : ℕ) → noted_after room (notes es) at ≡ noted_after room es at
unfolding noted_after notes
noted-notes room [] at = refl
noted-notes room (Bound slot b ∷ es) at = noted-notes room es at
noted-notes room (Noted t ∷ es) at = noted-notes room es (place_behind room at (length t))

bindings_length : (room : ℕ) (es : List Event) (s : State) → length (recorded room es s).bindings ≡ length s.bindings
unfolding recorded
bindings_length room [] s = refl
bindings_length room (Bound k v ∷ es) s =
    let n : length (set s.bindings k (Some v)) ≡ length s.bindings = simp length-set in
    bindings_length room es (recorded_one room (Bound k v) s) ∙ n
bindings_length room (Noted t ∷ es) s = bindings_length room es (recorded_one room (Noted t) s)

-- events that bind the same and count the same leave the same
same-recorded : (room : ℕ) (es fs : List Event) (s : State) → ((slot : ℕ) (b : Option Binding) → last_bound slot es b ≡ last_bound slot fs b)
    → noted_after room es s.noted ≡ noted_after room fs s.noted → recorded room es s ≡ recorded room fs s
same-recorded room es fs s same at =
    let a = recorded room es s in let b = recorded room fs s in
    let n = bindings_length room es s in
    let e : a.bindings ≡ b.bindings = ext_get_or None a.bindings b.bindings (n ∙ sym (bindings_length room fs s))
    (λ slot h. let l : slot < length s.bindings = omega (arith, h, n) in
    bindings_merge room es s slot None l ∙ same slot (get_or s.bindings slot None) ∙ sym (bindings_merge room fs s slot None l)) in
    recorded-noted room es s ∙ ap (λ (k : ℕ). moved_to k s.lays a) at
    ∙ ap (λ (l : List (Option Binding)). let t : State = record { bindings = l; noted = noted_after room fs s.noted; lays = s.lays } in t) e ∙ sym (recorded-noted room fs s)

pub left_out : (room : ℕ) (es fs os : List Event) (s : State) → Covers os es → recorded room (es ++ (fs ++ os)) s ≡ recorded room ((fs ++ os) ++ notes es) s
left_out room es fs os s covers = same-recorded room (es ++ (fs ++ os)) ((fs ++ os) ++ notes es) s
    (λ slot b. last-append slot es (fs ++ os) b ∙ last-append slot fs os (last_bound slot es b) ∙ by slot b (binds slot es) refl
    ∙ sym (last-append slot (fs ++ os) (notes es) b ∙ last-notes slot es (last_bound slot (fs ++ os) b) ∙ last-append slot fs os b))
    (noted-append room es (fs ++ os) s.noted ∙ noted-swap room es (fs ++ os) s.noted
    ∙ sym (noted-append room (fs ++ os) (notes es) s.noted ∙ noted-notes room es (noted_after room (fs ++ os) s.noted)))
  where
    by : (slot : ℕ) (b : Option Binding) (d : Bool) → binds slot es ≡ d → last_bound slot os (last_bound slot fs (last_bound slot es b)) ≡ last_bound slot os (last_bound slot fs b)
    by slot b true e = last-same slot os (last_bound slot fs (last_bound slot es b)) (last_bound slot fs b) (covers slot e)
    by slot b false e = ap (λ (d : Option Binding). last_bound slot os (last_bound slot fs d)) (last_stays slot es b e)

-- ---- where no comment is laid

-- comments are only measured, or the room is used up
abbrev is_quiet : Bool → ℕ → ℕ → Bool
is_quiet lays room at = not lays || ltb room at

silent_one : (lays : Bool) (room at n : ℕ) → is_quiet lays room at ≡ true → is_quiet lays room (place_behind room at n) ≡ true
silent_one false room at n h = refl
silent_one true room at n h =
    ap (ltb room) (pass_one room at n (omega (arith, ltb-true room at h))) ∙ lt-ltb room (room + 1) (omega arith)

laid_none : (t : List ℕ) (s : State) (out : List ℕ) (lays : Bool) → s.lays ≡ lays → is_quiet lays (length out) s.noted ≡ true → laid_one (Noted t) s out ≡ out
laid_none t s out false e h = rw e
laid_none t s out true e h = rw (e, lt-leb (s.noted + length t) (length out) (omega (arith, ltb-true (length out) s.noted h)))

pub laid_silent : (es : List Event) (s : State) (out : List ℕ) → (not s.lays || ltb (length out) s.noted) ≡ true → laid_by es s out ≡ out
unfolding laid_by
laid_silent [] s out h = refl
laid_silent (Bound slot b ∷ es) s out h = laid_silent es (recorded_one (length out) (Bound slot b) s) out h
laid_silent (Noted t ∷ es) s out h =
    ap (laid_by es (recorded_one (length out) (Noted t) s)) (laid_none t s out s.lays refl h)
    ∙ laid_silent es (recorded_one (length out) (Noted t) s) out (silent_one s.lays (length out) s.noted (length t) h)

pub silent_stays : (es : List Event) (s : State) (out : List ℕ) → (not s.lays || ltb (length out) s.noted) ≡ true
    → (not (recorded (length out) es s).lays || ltb (length out) (recorded (length out) es s).noted) ≡ true
unfolding recorded
silent_stays [] s out h = h
silent_stays (Bound slot b ∷ es) s out h = silent_stays es (recorded_one (length out) (Bound slot b) s) out h
silent_stays (Noted t ∷ es) s out h =
    silent_stays es (recorded_one (length out) (Noted t) s) out (silent_one s.lays (length out) s.noted (length t) h)
