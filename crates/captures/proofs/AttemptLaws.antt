-- Laws of attempts: attempts in turn, what events in turn leave, and what is right of an answer after one attempt and then another.
-- Assumes nothing.
use mathlib.Core.Path.{◌≡◌, refl, sym, ap, ◌∙◌}
use mathlib.Core.Bool.{Bool, true, false, cond, ◌&&◌, false≢true}
use mathlib.Core.List.{List, [], ◌∷◌, ◌++◌, append_assoc, append-nil}
use Prim.Native.Nat.{ℕ, ◌+◌, ◌-◌, ◌≤◌, ◌<◌}
use native.Mathlib.Nat.{add-zero, zero-add}
use native.Mathlib.Omega.{arith}
use lib.Dec.{leb}
use lib.ListN.{length, take, drop, length-append, take-append-drop}
use borrow.Author.Tests.{le-leb, lt-leb, leb-true, leb-false}
use Rattle.std.proofs.Common.{Option, Some, None}
use Rattle.words.specs.Buffer.{laid, laid_if_room}
use Rattle.words.proofs.BufferLaws.{length-laid, laid-laid}
use Rattle.words.proofs.TestLaws.{and_both, and_of}
use Rattle.captures.specs.declared.State.{State}
use Rattle.captures.specs.Attempts.{Event, Bound, Noted, Attempt, failed, matched, and_then, given, comments, notes}
use Rattle.captures.specs.Effects.{nothing, moved_to, place_behind, recorded_one, recorded, laid_one, laid_by, BufferOf, Gives, Leads}

-- ---- one attempt and then another

pub then_assoc : (a b d : Attempt) → and_then (and_then a b) d ≡ and_then a (and_then b d)
unfolding and_then
then_assoc failed b d = refl
then_assoc (matched es) failed d = refl
then_assoc (matched es) (matched fs) failed = refl
then_assoc (matched es) (matched fs) (matched gs) = ap matched (append_assoc es fs gs)

pub then_nothing : (b : Attempt) → and_then (matched []) b ≡ b
unfolding and_then
then_nothing failed = refl
then_nothing (matched fs) = refl

pub then_right : (a : Attempt) → and_then a (matched []) ≡ a
unfolding and_then
then_right failed = refl
then_right (matched es) = ap matched (append-nil es)

pub given_true : (b : Attempt) → and_then (given true) b ≡ b
given_true b = then_nothing b

pub given_false : (b : Attempt) → and_then (given false) b ≡ failed
unfolding and_then
given_false b = refl

-- ---- events in turn

pub comments-append : (es fs : List Event) → comments (es ++ fs) ≡ comments es ++ comments fs
unfolding comments
comments-append [] fs = refl
comments-append (Bound slot b ∷ es) fs = comments-append es fs
comments-append (Noted t ∷ es) fs = ap (λ (l : List ℕ). t ++ l) (comments-append es fs) ∙ sym (append_assoc t (comments es) (comments fs))

pub recorded-append : (room : ℕ) (es fs : List Event) (s : State) → recorded room (es ++ fs) s ≡ recorded room fs (recorded room es s)
unfolding recorded
recorded-append room [] fs s = refl
recorded-append room (e ∷ es) fs s = recorded-append room es fs (recorded_one room e s)

pub if_room_length : (d : List ℕ) (at : ℕ) (bs : List ℕ) (b : Bool) → leb (at + length bs) (length d) ≡ b → length (cond b (laid d at bs) d) ≡ length d
if_room_length d at bs true h = length-laid d at bs (leb-true _ _ h)
if_room_length d at bs false h = refl

if_laid-length : (b : Bool) (d out : List ℕ) → length d ≡ length out → length (cond b d out) ≡ length out
if_laid-length true d out h = h
if_laid-length false d out h = refl

pub laid-one-length : (e : Event) (s : State) (out : List ℕ) → length (laid_one e s out) ≡ length out
laid-one-length (Bound slot b) s out = refl
laid-one-length (Noted t) s out =
    if_laid-length s.lays (laid_if_room out s.noted t) out (if_room_length out s.noted t (leb (s.noted + length t) (length out)) refl)

pub laid-length : (es : List Event) (s : State) (out : List ℕ) → length (laid_by es s out) ≡ length out
unfolding laid_by
laid-length [] s out = refl
laid-length (e ∷ es) s out = laid-length es (recorded_one (length out) e s) (laid_one e s out) ∙ laid-one-length e s out

pub laid-append : (es fs : List Event) (s : State) (out : List ℕ) → laid_by (es ++ fs) s out ≡ laid_by fs (recorded (length out) es s) (laid_by es s out)
unfolding laid_by recorded
laid-append [] fs s out = refl
laid-append (e ∷ es) fs s out =
    let s₁ = recorded_one (length out) e s in let out₁ = laid_one e s out in
    laid-append es fs s₁ out₁ ∙ ap (λ (n : ℕ). laid_by fs (recorded n es s₁) (laid_by es s₁ out₁)) (laid-one-length e s out)

-- ---- what an attempt gives

pub gives_done : (s : State) (out : List ℕ) → Gives (matched []) s out (Some s) out
unfolding recorded laid_by
gives_done s out = record { answer = refl; buffer = refl }

pub gives_failed : (s : State) (out out' : List ℕ) → length out' ≡ length out → Gives failed s out None out'
gives_failed s out out' h = record { answer = refl; buffer = h }

pub gives_event : (e : Event) (s : State) (out : List ℕ) → Gives (matched (e ∷ [])) s out (Some (recorded_one (length out) e s)) (laid_one e s out)
unfolding recorded laid_by
gives_event e s out = record { answer = refl; buffer = refl }

length_of : (a : Attempt) (s : State) (out out' : List ℕ) → BufferOf a s out out' → length out' ≡ length out
length_of failed s out out' h = h
length_of (matched es) s out out' h = ap length h ∙ laid-length es s out

pub gives_length : {a : Attempt} {s : State} {out : List ℕ} {r : Option State} {out' : List ℕ} → Gives a s out r out' → length out' ≡ length out
gives_length {a} {s} {out} {r} {out'} g = length_of a s out out' g.buffer

-- after events comes what is right after what they leave
matched_then : (es : List Event) (b : Attempt) (s : State) (out : List ℕ) (r : Option State) (end : List ℕ)
    → Gives b (recorded (length out) es s) (laid_by es s out) r end → Gives (and_then (matched es) b) s out r end
unfolding and_then
matched_then es failed s out r end g = record { answer = g.answer; buffer = g.buffer ∙ laid-length es s out }
matched_then es (matched fs) s out r end g = record {
  answer = g.answer ∙ rw (laid-length es s out, recorded-append (length out) es fs s);
  buffer = g.buffer ∙ sym (laid-append es fs s out);
}

leads_matched : (es : List Event) (b : Attempt) (s : State) (out : List ℕ) → Leads b (and_then (matched es) b) s out (recorded (length out) es s) (laid_by es s out)
leads_matched es b s out = record { gives = matched_then es b s out }

-- where the first matched, what is right for the second, made with what the first left, is right for both
pub leads_then : (a b : Attempt) (s : State) (out : List ℕ) (t : State) (out' : List ℕ) → Gives a s out (Some t) out' → Leads b (and_then a b) s out t out'
leads_then failed b s out t out' g = absurd (let h = g.answer in let z : ◌≡◌ {A = ℕ} 0 1 = cc in omega arith)
leads_then (matched es) b s out t out' g =
    let h = g.answer in let e : t ≡ recorded (length out) es s = cc in rw (e, g.buffer) (leads_matched es b s out)

pub gives_then : (a b : Attempt) (s : State) (out : List ℕ) (t : State) (out' : List ℕ) (r : Option State) (end : List ℕ)
    → Gives a s out (Some t) out' → Gives b t out' r end → Gives (and_then a b) s out r end
gives_then a b s out t out' r end g h = (leads_then a b s out t out' g).gives r end h

-- where it did not, neither do both
pub fails_then : (a b : Attempt) (s : State) (out out' : List ℕ) → Gives a s out None out' → Gives (and_then a b) s out None out'
unfolding and_then
fails_then failed b s out out' g = gives_failed s out out' g.buffer
fails_then (matched es) b s out out' g = absurd (let h = g.answer in let z : ◌≡◌ {A = ℕ} 0 1 = cc in omega arith)

pub leads_event : (e : Event) (b : Attempt) (s : State) (out : List ℕ) → Leads b (and_then (matched (e ∷ [])) b) s out (recorded_one (length out) e s) (laid_one e s out)
unfolding recorded laid_by
leads_event e b s out = leads_matched (e ∷ []) b s out

pub leads_none : (b : Attempt) (s : State) (out : List ℕ) → Leads b (and_then (matched []) b) s out s out
leads_none b s out = rw (then_nothing b) (record { gives = λ r end g. g })

pub leads_trans : {a b d : Attempt} {s s₁ s₂ : State} {out out₁ out₂ : List ℕ} → Leads b d s out s₁ out₁ → Leads a b s₁ out₁ s₂ out₂ → Leads a d s out s₂ out₂
leads_trans f g = record { gives = λ r end h. f.gives r end (g.gives r end h) }

-- ---- the place behind comments

unfoldable pub noted_after : ℕ → List Event → ℕ → ℕ
noted_after room [] at = at
noted_after room (Bound slot b ∷ es) at = noted_after room es at
noted_after room (Noted t ∷ es) at = noted_after room es (place_behind room at (length t))

-- it is all that the place before events changes of what they leave
pub recorded_moved : (room : ℕ) (es : List Event) (at : ℕ) (b : Bool) (s : State) → recorded room es (moved_to at b s) ≡ moved_to (noted_after room es at) b (recorded room es s)
unfolding recorded noted_after
recorded_moved room [] at b s = refl
recorded_moved room (Bound slot v ∷ es) at b s = recorded_moved room es at b (recorded_one room (Bound slot v) s)
recorded_moved room (Noted t ∷ es) at b s =
    let k = place_behind room at (length t) in let m = place_behind room s.noted (length t) in
    recorded_moved room es k b s ∙ ap (moved_to (noted_after room es k) b) (sym (recorded_moved room es m s.lays s))

pub recorded-noted : (room : ℕ) (es : List Event) (s : State) → recorded room es s ≡ moved_to (noted_after room es s.noted) s.lays (recorded room es s)
recorded-noted room es s = recorded_moved room es s.noted s.lays s

-- where they all fit
pub fits_one : (room at n : ℕ) → at + n ≤ room → place_behind room at n ≡ at + n
fits_one room at n h = rw (le-leb (at + n) room h)

pub noted-fits : (room : ℕ) (es : List Event) (at : ℕ) → at + length (comments es) ≤ room → noted_after room es at ≡ at + length (comments es)
unfolding noted_after comments
noted-fits room [] at h = sym (add-zero at)
noted-fits room (Bound slot b ∷ es) at h = noted-fits room es at h
noted-fits room (Noted t ∷ es) at h =
    let n : length (t ++ comments es) ≡ length t + length (comments es) = length-append t (comments es) in
    ap (noted_after room es) (fits_one room at (length t) (omega arith)) ∙ noted-fits room es (at + length t) (omega arith) ∙ omega arith

-- where they do not
pub pass_one : (room at n : ℕ) → room < at + n → place_behind room at n ≡ room + 1
pass_one room at n h = rw (lt-leb (at + n) room h)

at_most : (room at n : ℕ) → place_behind room at n ≤ room + 1
at_most room at n = by (leb (at + n) room) refl
  where
    by : (b : Bool) → leb (at + n) room ≡ b → cond b (at + n) (room + 1) ≤ room + 1
    by true e = omega (arith, leb-true (at + n) room e)
    by false e = omega arith

passes_by : (room n at : ℕ) (f : ℕ → ℕ) → ((k : ℕ) → k ≤ room + 1 → room < k + n → f k ≡ room + 1)
    → room < at + n → (b : Bool) → leb at room ≡ b → f (cond b at (room + 1)) ≡ room + 1
passes_by room n at f g h true e = g at (omega (arith, leb-true at room e)) h
passes_by room n at f g h false e = g (room + 1) (omega arith) (omega arith)

pub noted-passes : (room : ℕ) (es : List Event) (at : ℕ) → at ≤ room + 1 → room < at + length (comments es) → noted_after room es at ≡ room + 1
unfolding noted_after comments
noted-passes room [] at h k = omega arith
noted-passes room (Bound slot b ∷ es) at h k = noted-passes room es at h k
noted-passes room (Noted t ∷ es) at h k =
    let n : length (t ++ comments es) ≡ length t + length (comments es) = length-append t (comments es) in
    passes_by room (length (comments es)) (at + length t) (noted_after room es) (noted-passes room es) (omega arith) (leb (at + length t) room) refl

-- a place within the room is behind all of them
noted_low : (room : ℕ) (es : List Event) (at : ℕ) → room < at + length (comments es) → room < noted_after room es at
unfolding noted_after comments
noted_low room [] at h = omega arith
noted_low room (Bound slot b ∷ es) at h = noted_low room es at h
noted_low room (Noted t ∷ es) at h =
    let n : length (t ++ comments es) ≡ length t + length (comments es) = length-append t (comments es) in
    let k = place_behind room at (length t) in
    noted_low room es k (by (leb (at + length t) room) refl (omega arith))
  where
    by : (b : Bool) → leb (at + length t) room ≡ b → room < at + length t + length (comments es) → room < cond b (at + length t) (room + 1) + length (comments es)
    by true e l = l
    by false e l = omega arith

pub noted_exact : (room : ℕ) (es : List Event) (at : ℕ) → noted_after room es at ≤ room → (noted_after room es at ≡ at + length (comments es)) × (at + length (comments es) ≤ room)
noted_exact room es at h = by (leb (at + length (comments es)) room) refl
  where
    by : (b : Bool) → leb (at + length (comments es)) room ≡ b → (noted_after room es at ≡ at + length (comments es)) × (at + length (comments es) ≤ room)
    by true e = let f = leb-true (at + length (comments es)) room e in (noted-fits room es at f, f)
    by false e = absurd (omega (arith, h, noted_low room es at (leb-false _ _ e)))

-- ---- the comments alone

pub recorded-notes : (room : ℕ) (es : List Event) (s : State) → recorded room (notes es) s ≡ moved_to (noted_after room es s.noted) s.lays s
unfolding recorded notes noted_after
recorded-notes room [] s = refl
recorded-notes room (Bound slot b ∷ es) s = recorded-notes room es s
recorded-notes room (Noted t ∷ es) s = recorded-notes room es (recorded_one room (Noted t) s)

-- counted once more: within the room, by their length
pub noted-again : (room : ℕ) (es : List Event) (at : ℕ) → at ≤ room → noted_after room es at ≡ place_behind room at (length (comments es))
noted-again room es at h = by (leb (at + length (comments es)) room) refl
  where
    by : (b : Bool) → leb (at + length (comments es)) room ≡ b → noted_after room es at ≡ cond b (at + length (comments es)) (room + 1)
    by true e = noted-fits room es at (leb-true _ _ e)
    by false e = noted-passes room es at (omega arith) (leb-false _ _ e)

-- past the room nothing changes
full_stays : (room : ℕ) (es : List Event) → noted_after room es (room + 1) ≡ room + 1
full_stays room es = noted-passes room es (room + 1) (omega arith) (omega arith)

noted-most : (room : ℕ) (es : List Event) (at : ℕ) → at ≤ room + 1 → noted_after room es at ≤ room + 1
unfolding noted_after
noted-most room [] at h = h
noted-most room (Bound slot b ∷ es) at h = noted-most room es at h
noted-most room (Noted t ∷ es) at h = noted-most room es (place_behind room at (length t)) (at_most room at (length t))

capped : (room : ℕ) (es : List Event) (at : ℕ) → at ≤ room + 1 → room < at → noted_after room es at ≡ at
capped room es at h k = let e : at ≡ room + 1 = omega arith in rw (e) (full_stays room es)

pub noted_full : (room : ℕ) (es : List Event) (at : ℕ) → room < noted_after room es at → noted_after room es (noted_after room es at) ≡ noted_after room es at
unfolding noted_after
noted_full room [] at h = refl
noted_full room (Bound slot b ∷ es) at h = noted_full room es at h
noted_full room (Noted t ∷ es) at h =
    let k = place_behind room at (length t) in
    capped room (Noted t ∷ es) (noted_after room es k) (noted-most room es k (at_most room at (length t))) h

-- ---- counted once more

module _ (room : ℕ) (es : List Event) (s t : State) (f : t ≡ recorded room es s) where
  place : t.noted ≡ noted_after room es s.noted
  place = ap (λ (u : State). u.noted) (f ∙ recorded-noted room es s)

  -- by their length where the room was enough
  pub counted_once_more : (leb t.noted room && leb s.noted t.noted) ≡ true
      → moved_to (place_behind room t.noted (t.noted - s.noted)) t.lays t ≡ recorded room (notes es) t
  counted_once_more h =
      let l : t.noted ≤ room = leb-true t.noted room (and_both (leb t.noted room) (leb s.noted t.noted) h).0 in
      let m = noted_exact room es s.noted (omega (arith, place)) in
      let n : t.noted - s.noted ≡ length (comments es) = omega (arith, place, m.0) in
      sym (recorded-notes room es t ∙ ap (λ (k : ℕ). moved_to k t.lays t) (noted-again room es t.noted l ∙ sym (ap (place_behind room t.noted) n)))

  -- else they change nothing
  pub counted_full : (leb t.noted room && leb s.noted t.noted) ≡ false → t ≡ recorded room (notes es) t
  counted_full h = sym (recorded-notes room es t ∙ ap (λ (k : ℕ). moved_to k t.lays t) (ap (noted_after room es) place ∙ noted_full room es s.noted (by (leb t.noted room) refl) ∙ sym place))
    where
      by : (b : Bool) → leb t.noted room ≡ b → room < noted_after room es s.noted
      by true l =
          let k = leb-true t.noted room l in let m = noted_exact room es s.noted (omega (arith, place, k)) in
          absurd (false≢true (sym h ∙ and_of l (le-leb s.noted t.noted (omega (arith, place, m.0)))))
      by false l = omega (arith, place, leb-false t.noted room l)

-- ---- all comments

pub laid-fits : (es : List Event) (s : State) (out : List ℕ) → s.lays ≡ true → s.noted + length (comments es) ≤ length out → laid_by es s out ≡ laid out s.noted (comments es)
unfolding laid_by comments
laid-fits [] s out l h = sym (rw (add-zero s.noted, append-nil (take s.noted out)) (take-append-drop s.noted out))
laid-fits (Bound slot b ∷ es) s out l h = laid-fits es (recorded_one (length out) (Bound slot b) s) out l h
laid-fits (Noted t ∷ es) s out l h =
    let n : length (t ++ comments es) ≡ length t + length (comments es) = length-append t (comments es) in
    let k : s.noted + length t ≤ length out = omega arith in
    let e = length-laid out s.noted t k in
    rw (l, le-leb (s.noted + length t) (length out) k) (laid-fits es (moved_to (s.noted + length t) true s) (laid out s.noted t) refl (omega arith) ∙ laid-laid out s.noted t (comments es) k)

-- from the front: where all fit, they are what the buffer begins with; else the place is past its end
pub noted-total : (es : List Event) (out : List ℕ) → (length (comments es) ≤ length out → ((recorded (length out) es nothing).noted ≡ length (comments es)) × (laid_by es nothing out ≡ comments es ++ drop (length (comments es)) out)) × (length out < length (comments es) → (recorded (length out) es nothing).noted ≡ length out + 1)
noted-total es out =
    let z = zero-add (length (comments es)) in let e = ap (λ (s : State). s.noted) (recorded-noted (length out) es nothing) in (
      λ h. (
        e ∙ noted-fits (length out) es 0 (omega arith) ∙ z,
        laid-fits es nothing out refl (omega arith) ∙ ap (λ (n : ℕ). comments es ++ drop n out) z,
      ),
      λ h. e ∙ noted-passes (length out) es 0 (omega arith) (omega arith),
    )
