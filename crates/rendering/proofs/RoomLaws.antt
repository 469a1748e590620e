-- Laws of traces in a room: what is laid does not depend on the room, only whether it fits.
-- Assumes nothing.
use mathlib.Core.Path.{◌≡◌, refl, sym, ap, ◌∙◌, fun_ext}
use mathlib.Core.Bool.{Bool, true, false, cond}
use mathlib.Core.List.{List, [], ◌∷◌, ◌++◌, map, append_assoc}
use Prim.Native.Nat.{ℕ, ◌+◌, ◌-◌, ◌≤◌, ◌<◌}
use native.Mathlib.Omega.{arith}
use native.Mathlib.Nat.{add_assoc}
use borrow.Author.Tests.{leb-true, leb-false, le-leb, lt-leb}
use lib.Dec.{leb}
use lib.ListN.{length, length-append}
use Rattle.std.specs.Prelude.{Result, Ok, Err}
use Rattle.std.specs.List.{concat}
use Rattle.rendering.specs.Events.{Event, NoRoom, after, lay, ◌and_then◌, in_turn}
use Rattle.rendering.specs.Traces.{Trace, stopped, within, reach, ◌then◌, Traces, behind, first}

-- ---- an outcome that takes n bytes

abbrev pub in_room : {A : Type 0} → ℕ → Result A Event → ℕ → Result A Event
in_room n o room = cond (leb n room) o (Err NoRoom)

pub in_room-fits : {A : Type 0} (n : ℕ) (o : Result A Event) (room : ℕ) → n ≤ room → in_room n o room ≡ o
in_room-fits n o room h = rw (le-leb n room h)

pub in_room_full : {A : Type 0} (n : ℕ) (o : Result A Event) (room : ℕ) → room < n → in_room n o room ≡ Err NoRoom
in_room_full n o room h = rw (lt-leb n room h)

-- what follows takes no more
pub in_room-after : {A B : Type 0} (n : ℕ) (o : Result A Event) (f : A → Result B Event) (room : ℕ) → after (in_room n o room) f ≡ in_room n (after o f) room
in_room-after n o f room = by (leb n room)
  where
    by : (b : Bool) → after (cond b o (Err NoRoom)) f ≡ cond b (after o f) (Err NoRoom)
    by true = refl
    by false = refl

-- what follows begins where the first did, and takes no less
pub in_room-again : {A B : Type 0} (n m room : ℕ) (x : A) (f : A → Result B Event) (o : Result B Event) → n ≤ m → (n ≤ room → f x ≡ in_room m o room)
    → after (in_room n (Ok x) room) f ≡ in_room m o room
in_room-again n m room x f o h next = in_room-after n (Ok x) f room ∙ by (leb n room) refl
  where
    by : (b : Bool) → leb n room ≡ b → cond b (f x) (Err NoRoom) ≡ in_room m o room
    by true e = next (leb-true n room e)
    by false e = let l : room < n = leb-false n room e in sym (in_room_full m o room (omega arith))

-- what follows begins behind the first
pub in_room-behind : {A B : Type 0} (n m room : ℕ) (x : A) (f : A → Result B Event) (o : Result B Event) → f x ≡ in_room m o (room - n)
    → after (in_room n (Ok x) room) f ≡ in_room (n + m) o room
in_room-behind n m room x f o next = in_room-again n (n + m) room x f o (omega arith) (λ h. next ∙ by h (leb m (room - n)) refl)
  where
    by : n ≤ room → (b : Bool) → leb m (room - n) ≡ b → cond b o (Err NoRoom) ≡ in_room (n + m) o room
    by h true e = let l : m ≤ room - n = leb-true m (room - n) e in sym (in_room-fits (n + m) o room (omega arith))
    by h false e = let l : room - n < m = leb-false m (room - n) e in sym (in_room_full (n + m) o room (omega arith))

-- ---- a trace by its reach

-- what comes of it where it has room
abbrev pub outcome : Trace → Result (List ℕ) Event
outcome (Ok bs) = Ok bs
outcome (Err s) = Err s.event

pub within-reach : (u : Trace) (room : ℕ) → within u room ≡ in_room (reach u) (outcome u) room
within-reach (Ok bs) room = refl
within-reach (Err s) room = refl

pub within-fits : (u : Trace) (room : ℕ) → reach u ≤ room → within u room ≡ outcome u
within-fits u room h = within-reach u room ∙ in_room-fits (reach u) (outcome u) room h

pub within_full : (u : Trace) (room : ℕ) → room < reach u → within u room ≡ Err NoRoom
within_full u room h = within-reach u room ∙ in_room_full (reach u) (outcome u) room h

pub lay-within : (bs : List ℕ) → lay bs ≡ within (Ok bs)
lay-within bs = refl

-- ---- one trace behind another

pub nothing_then : (u : Trace) → Ok [] then u ≡ u
unfolding ◌then◌
nothing_then (Ok bs) = refl
nothing_then (Err s) = ap (λ (k : ℕ). stopped k s.event) (omega arith)

pub then_assoc : (t u v : Trace) → t then u then v ≡ t then (u then v)
unfolding ◌then◌
then_assoc (Ok xs) (Ok ys) (Ok zs) = ap Ok (append_assoc xs ys zs)
then_assoc (Ok xs) (Ok ys) (Err s) = rw (length-append xs ys, add_assoc (length xs) (length ys) s.at)
then_assoc (Ok xs) (Err s) v = refl
then_assoc (Err s) u v = refl

-- how many bytes the second adds: none where the first stops
abbrev pub added : Trace → Trace → ℕ
added (Ok xs) u = reach u
added (Err s) u = 0

pub reach_then : (t u : Trace) → reach (t then u) ≡ reach t + added t u
unfolding ◌then◌
reach_then (Ok xs) (Ok ys) = length-append xs ys
reach_then (Ok xs) (Err s) = refl
reach_then (Err s) u = omega arith

pub within_then : (t u : Trace) → within t and_then within u ≡ within (t then u)
unfolding ◌and_then◌ ◌then◌
within_then (Err s) u = fun_ext (λ room. in_room-after s.at (Err s.event) (λ x. after (within u (room - length x)) λ y. Ok (x ++ y)) room)
within_then (Ok xs) (Ok ys) = fun_ext λ room.
    rw (length-append xs ys)
    (in_room-behind (length xs) (length ys) room xs (λ x. after (lay ys (room - length x)) λ y. Ok (x ++ y)) (Ok (xs ++ ys))
    (in_room-after (length ys) (Ok ys) (λ y. Ok (xs ++ y)) (room - length xs)))
within_then (Ok xs) (Err s) = fun_ext λ room.
    in_room-behind (length xs) s.at room xs (λ x. after (within (stopped s.at s.event) (room - length x)) λ y. Ok (x ++ y)) (Err s.event)
    (in_room-after s.at (Err s.event) (λ y. Ok (xs ++ y)) (room - length xs))

-- ---- texts in turn

pub concat-append : (a b : List (List ℕ)) → concat (a ++ b) ≡ concat a ++ concat b
concat-append [] b = refl
concat-append (t ∷ a) b = ap (λ (l : List ℕ). t ++ l) (concat-append a b) ∙ sym (append_assoc t (concat a) (concat b))

pub length-concat : (t : List ℕ) (ts : List (List ℕ)) → length (concat (t ∷ ts)) ≡ length t + length (concat ts)
length-concat t ts = length-append t (concat ts)

-- all of them, where they fit together; or the first event
abbrev pub within_traces : Traces → ℕ → Result (List (List ℕ)) Event
within_traces (Ok ts) room = in_room (length (concat ts)) (Ok ts) room
within_traces (Err s) room = in_room s.at (Err s.event) room

unfoldable pub joined : List Trace → Traces
joined [] = Ok []
joined (u ∷ us) = first u (joined us)

pub joined-done : (ts : List (List ℕ)) → joined (map Ok ts) ≡ Ok ts
unfolding joined
joined-done [] = refl
joined-done (t ∷ ts) = ap (behind t) (joined-done ts)

-- the texts of traces of which none stops
pub joined-all : (us : List Trace) (ts : List (List ℕ)) → joined us ≡ Ok ts → us ≡ map Ok ts
unfolding joined
joined-all [] ts e = let f : ts ≡ [] = cc in rw f
joined-all (u ∷ us) ts e = by u (joined us) e (joined-all us)
  where
    by : (u : Trace) (v : Traces) → first u v ≡ Ok ts → ((xs : List (List ℕ)) → v ≡ Ok xs → us ≡ map Ok xs) → u ∷ us ≡ map Ok ts
    by (Ok x) (Ok xs) e rest = let f : ts ≡ x ∷ xs = cc in rw f (ap (λ (l : List Trace). Ok x ∷ l) (rest xs refl))
    by (Ok x) (Err s) e rest = absurd (let z : ◌≡◌ {A = ℕ} 0 1 = cc in omega arith)
    by (Err s) w e rest = absurd (let z : ◌≡◌ {A = ℕ} 0 1 = cc in omega arith)

first-within : (u : Trace) (v : Traces) (room : ℕ)
    → (after (within u room) λ x. after (within_traces v (room - length x)) λ xs. Ok (x ∷ xs)) ≡ within_traces (first u v) room
first-within (Err s) v room = in_room-after s.at (Err s.event) (λ x. after (within_traces v (room - length x)) λ xs. Ok (x ∷ xs)) room
first-within (Ok x) (Ok xs) room =
    rw (length-concat x xs)
    (in_room-behind (length x) (length (concat xs)) room x (λ y. after (within_traces (Ok xs) (room - length y)) λ ys. Ok (y ∷ ys))
    (Ok (x ∷ xs)) (in_room-after (length (concat xs)) (Ok xs) (λ ys. Ok (x ∷ ys)) (room - length x)))
first-within (Ok x) (Err s) room =
    in_room-behind (length x) s.at room x (λ y. after (within_traces (stopped s.at s.event) (room - length y)) λ ys. Ok (y ∷ ys)) (Err s.event)
    (in_room-after s.at (Err s.event) (λ ys. Ok (x ∷ ys)) (room - length x))

pub in_turn_within : (us : List Trace) (room : ℕ) → in_turn (map within us) room ≡ within_traces (joined us) room
unfolding in_turn joined
in_turn_within [] room = sym (in_room-fits 0 (Ok []) room (omega arith))
in_turn_within (u ∷ us) room =
    ap (λ (next : ℕ → Result (List (List ℕ)) Event). after (within u room) λ x. after (next (room - length x)) λ xs. Ok (x ∷ xs))
    (fun_ext (in_turn_within us))
    ∙ first-within u (joined us) room
