-- THEOREM: the text of every match of every collection, as document 01 lays it in a room, is its trace within that room. So nested texts
-- need to be rendered only once, and the second rendering is the first with parentheses put in.
-- Assumes nothing.
use mathlib.Core.Path.{◌≡◌, refl, sym, ap, ◌∙◌, fun_ext}
use mathlib.Core.Bool.{Bool, true, false, cond}
use mathlib.Core.List.{List, [], ◌∷◌, ◌++◌, map, map-map}
use Prim.Native.Nat.{ℕ, ◌+◌, ◌-◌, ◌≤◌}
use native.Mathlib.Omega.{arith}
use lib.ListN.{length, length-append, length-map}
use lib.Seq.{take-append_seam, drop-append_seam}
use Rattle.words.specs.Texts.{part, open_text, close_text}
use Rattle.syntax.specs.Trees.{Elems}
use Rattle.captures.specs.declared.Binding.{Binding}
use Rattle.parses.specs.Ranges.{NodeRange}
use Rattle.parses.specs.Parses.{lookup}
use Rattle.parentheses.specs.Parentheses.{Part, requires, wrapped}
use Rattle.nester.specs.Matches.{Match}
use Rattle.nester.specs.Nest.{Nest, none, kept}
use Rattle.nester.specs.Places.{Item, before, insert, items}
use Rattle.std.specs.Prelude.{Option, None, Some, Result, Ok, Err}
use Rattle.std.specs.List.{concat}
use Rattle.rendering.specs.Events.{Event, Unbound, Asked, after, Text, lay, ◌and_then◌, in_turn}
use Rattle.rendering.specs.Texts.{Fragment, fixed, captured, Setting, binding_at, prefix, is_parsed, enclosed, enclosed_each, parts_of, filled, captured_text, fragment_text, fragment_texts, rendered_again, judged, finished, rendered}
use Rattle.rendering.specs.Traces.{Trace, stopped, within, reach, ◌then◌, Traces, first, fragment_trace, traces_of, hole_trace, judged_trace, finished_trace, match_trace, filled_trace, slot_trace, rendered_trace}
use Rattle.rendering.proofs.RoomLaws.{in_room-fits, in_room-after, in_room-again, outcome, within-reach, within-fits, within_then, length-concat, within_traces, joined, joined-done, joined-all, in_turn_within}

-- ---- what is needed of parentheses

abbrev in_parentheses : Bool → List ℕ → List ℕ
in_parentheses m t = cond m (open_text ++ t ++ close_text) t

wrapped_end : (t : List ℕ) → wrapped [] [] t ≡ t
unfolding wrapped
wrapped_end t = refl

wrapped-part : (p : Part) (ps : List Part) (m : Bool) (ms : List Bool) (t u : List ℕ) → p.length ≡ length t
    → wrapped (p ∷ ps) (m ∷ ms) (t ++ u) ≡ in_parentheses m t ++ wrapped ps ms u
unfolding wrapped
wrapped-part p ps m ms t u e = rw (e, take-append_seam t u, drop-append_seam t u)

length-requires : (rs : List NodeRange) (x : ℕ) (ps : List Part) → length (requires rs x ps) ≡ length ps
unfolding requires
length-requires rs x [] = refl
length-requires rs x (p ∷ ps) = omega (arith, length-requires rs (x + p.length) ps)

-- ---- texts in parentheses, where they are marked

unfoldable parenthesised : List Bool → List (List ℕ) → List (List ℕ)
parenthesised [] ts = ts
parenthesised (m ∷ ms) [] = []
parenthesised (m ∷ ms) (t ∷ ts) = in_parentheses m t ∷ parenthesised ms ts

enclosed-done : (m : Bool) (t : List ℕ) → enclosed m (within (Ok t)) ≡ within (Ok (in_parentheses m t))
unfolding ◌then◌
enclosed-done true t =
    ap (λ (a : Text). a and_then lay close_text) (within_then (Ok open_text) (Ok t)) ∙ within_then (Ok (open_text ++ t)) (Ok close_text)
enclosed-done false t = refl

enclosed_each-done : (ms : List Bool) (ts : List (List ℕ))
    → enclosed_each ms (map within (map Ok ts)) ≡ map within (map Ok (parenthesised ms ts))
unfolding enclosed_each parenthesised
enclosed_each-done [] ts = refl
enclosed_each-done (m ∷ ms) [] = refl
enclosed_each-done (m ∷ ms) (t ∷ ts) = rw (enclosed-done m t, enclosed_each-done ms ts)

-- in turn they are the first rendering with parentheses put in
concat-parenthesised : (fs : List Fragment) (ts : List (List ℕ)) (ms : List Bool) → length fs ≡ length ts → length ms ≡ length ts
    → concat (parenthesised ms ts) ≡ wrapped (parts_of fs ts) ms (concat ts)
unfolding parenthesised parts_of
concat-parenthesised [] [] [] h k = sym (wrapped_end [])
concat-parenthesised [] [] (m ∷ ms) h k = absurd (omega arith)
concat-parenthesised [] (t ∷ ts) ms h k = absurd (omega arith)
concat-parenthesised (f ∷ fs) [] ms h k = absurd (omega arith)
concat-parenthesised (f ∷ fs) (t ∷ ts) [] h k = absurd (omega arith)
concat-parenthesised (f ∷ fs) (t ∷ ts) (m ∷ ms) h k =
    rw (concat-parenthesised fs ts ms (omega arith) (omega arith)) (sym (wrapped-part _ (parts_of fs ts) m ms t (concat ts) refl))

length_parts_of : (fs : List Fragment) (ts : List (List ℕ)) → length fs ≡ length ts → length (parts_of fs ts) ≡ length ts
unfolding parts_of
length_parts_of [] ts h = h
length_parts_of (f ∷ fs) [] h = refl
length_parts_of (f ∷ fs) (t ∷ ts) h = omega (arith, length_parts_of fs ts (omega arith))

-- parentheses only add
longer : (ms : List Bool) (ts : List (List ℕ)) → length ms ≡ length ts → length (concat ts) ≤ length (concat (parenthesised ms ts))
unfolding parenthesised
longer [] ts h = omega arith
longer (m ∷ ms) [] h = omega arith
longer (m ∷ ms) (t ∷ ts) h = simp length-concat (omega (arith, by m, longer ms ts (omega arith)))
  where
    by : (m : Bool) → length t ≤ length (in_parentheses m t)
    by true = simp length-append (omega arith)
    by false = omega arith

-- ---- a placeholder's text

-- an item with its trace as a text
abbrev pub as_text : Item Trace → Item Text
as_text x = record { node = x.node; what = within x.what }

module _ (S : Setting) where
  filled_within : (from to : ℕ) (xs : List (Item Trace)) → filled S from to (map as_text xs) ≡ within (filled_trace S from to xs)
  unfolding filled filled_trace
  filled_within from to [] = refl
  filled_within from to (x ∷ xs) =
      let front : Trace = Ok (part S.file from (S.start_of x.node)) in
      let rest : Trace = filled_trace S (S.end_of x.node) to xs in
      rw (filled_within (S.end_of x.node) to xs)
      (ap (λ (a : Text). a and_then within rest) (within_then front x.what) ∙ within_then (front then x.what) rest)

  captured-within : (b : Option Binding) (is_receiver : Bool) (xs : List (Item Trace))
      → captured_text S b is_receiver (map as_text xs) ≡ within (hole_trace b is_receiver (λ from to. filled_trace S from to xs))
  captured-within None is_receiver xs = fun_ext (λ room. sym (in_room-fits 0 (Err Unbound) room (omega arith)))
  captured-within (Some b) is_receiver xs =
      rw (filled_within b.start b.end xs) (within_then (Ok (prefix b is_receiver)) (filled_trace S b.start b.end xs))

-- ---- the text of a match

traces_of-joined : (hole : ℕ → Bool → Trace) (fs : List Fragment) → traces_of hole fs ≡ joined (map (fragment_trace hole) fs)
unfolding traces_of joined
traces_of-joined hole [] = refl
traces_of-joined hole (f ∷ fs) = ap (first (fragment_trace hole f)) (traces_of-joined hole fs)

after_assoc : {A B C : Type 0} (o : Result A Event) (f : A → Result B Event) (g : B → Result C Event) → (after o λ x. after (f x) g) ≡ after (after o f) g
after_assoc (Ok x) f g = refl
after_assoc (Err e) f g = refl

module _ (S : Setting) (m : Match) (inner : ℕ → List (Item Trace)) where
  abbrev kind : ℕ
  kind = S.kind m

  abbrev fs : List Fragment
  fs = S.fragments m

  abbrev parse : ℕ → List ℕ → Option (List NodeRange)
  parse k t = lookup S.parses k t

  abbrev hole : ℕ → Bool → Trace
  hole = slot_trace S m inner

  -- the traces of the fragments
  abbrev us : List Trace
  us = map (fragment_trace hole) fs

  -- what is nested, as texts
  abbrev texts : ℕ → List (Item Text)
  texts k = map as_text (inner k)

  fragment_within : (f : Fragment) → fragment_text S m texts f ≡ within (fragment_trace hole f)
  fragment_within (fixed bs) = refl
  fragment_within (captured slot is_receiver) = captured-within S (binding_at slot m.bindings) is_receiver (inner slot)

  fragments_within : fragment_texts S m texts ≡ map within us
  fragments_within = ap (λ f. map f fs) (fun_ext fragment_within) ∙ sym (map-map within (fragment_trace hole) fs)

  -- no fragment stops: every one has its text
  module _ (ts : List (List ℕ)) (e : us ≡ map Ok ts) where
    as_many : length fs ≡ length ts
    as_many = sym (length-map fs (fragment_trace hole)) ∙ ap length e ∙ length-map ts Ok

    -- the second rendering
    module _ (r : NodeRange) (rs : List NodeRange) where
      abbrev marks : List Bool
      marks = requires (r ∷ rs) 0 (parts_of fs ts)

      length-marks : length marks ≡ length ts
      length-marks = length-requires (r ∷ rs) 0 (parts_of fs ts) ∙ length_parts_of fs ts as_many

      second : concat (parenthesised marks ts) ≡ wrapped (parts_of fs ts) marks (concat ts)
      second = concat-parenthesised fs ts marks as_many length-marks

      again-within : (room : ℕ) → rendered_again S m texts marks room ≡ within (Ok (wrapped (parts_of fs ts) marks (concat ts))) room
      again-within room =
          let ps : List (List ℕ) = parenthesised marks ts in
          rw (fragments_within, e, enclosed_each-done marks ts, in_turn_within (map Ok ps) room, joined-done ps, ← second)
          (in_room-after (length (concat ps)) (Ok ps) (λ xs. Ok (concat xs)) room)

      again_longer : length (concat ts) ≤ length (wrapped (parts_of fs ts) marks (concat ts))
      again_longer = rw (← second) (longer marks ts length-marks)

    -- what becomes of the first rendering
    judged-within : (v : Option (List NodeRange)) (room : ℕ) → length (concat ts) ≤ room
        → judged S m texts ts v room ≡ within (judged_trace kind fs ts v) room
    judged-within None room h = sym (within-fits (stopped (length (concat ts)) (Asked kind (concat ts))) room h)
    judged-within (Some []) room h = sym (within-fits (Ok (concat ts)) room h)
    judged-within (Some (r ∷ rs)) room h = again-within r rs room

    judged_longer : (v : Option (List NodeRange)) → length (concat ts) ≤ reach (judged_trace kind fs ts v)
    judged_longer None = omega arith
    judged_longer (Some []) = omega arith
    judged_longer (Some (r ∷ rs)) = again_longer r rs

    abbrev last : Trace
    last = finished_trace kind fs parse (Ok ts)

    finished-fits : (room : ℕ) → length (concat ts) ≤ room → finished S m texts ts room ≡ within last room
    finished-fits room h = by (is_parsed kind)
      where
        v : Option (List NodeRange)
        v = parse kind (concat ts)

        by : (b : Bool) → cond b (judged S m texts ts v room) (Ok (concat ts))
            ≡ within (cond b (judged_trace kind fs ts v) (Ok (concat ts))) room
        by true = judged-within v room h
        by false = sym (within-fits (Ok (concat ts)) room h)

    finished_longer : length (concat ts) ≤ reach last
    finished_longer = by (is_parsed kind)
      where
        by : (b : Bool) → length (concat ts) ≤ reach (cond b (judged_trace kind fs ts (parse kind (concat ts))) (Ok (concat ts)))
        by true = judged_longer (parse kind (concat ts))
        by false = omega arith

  finished-within : (u : Traces) → traces_of hole fs ≡ u → (room : ℕ)
      → (after (within_traces u room) λ ts. finished S m texts ts room) ≡ within (finished_trace kind fs parse u) room
  finished-within (Err s) e room = in_room-after s.at (Err s.event) (λ ts. finished S m texts ts room) room
  finished-within (Ok ts) e room =
      let d : us ≡ map Ok ts = joined-all us ts (sym (traces_of-joined hole fs) ∙ e) in
      let t : Trace = last ts d in
      in_room-again (length (concat ts)) (reach t) room ts (λ xs. finished S m texts xs room) (outcome t) (finished_longer ts d)
      (λ h. finished-fits ts d room h ∙ within-reach t room)
      ∙ sym (within-reach t room)

  pub rendered-within : rendered S m (λ k. map as_text (inner k)) ≡ within (rendered_trace S m inner)
  unfolding match_trace ◌and_then◌
  rendered-within = fun_ext λ room.
      let v : Traces = traces_of hole fs in
      let e : in_turn (fragment_texts S m texts) room ≡ within_traces v room =
      rw (fragments_within, traces_of-joined hole fs) (in_turn_within us room) in
      rw e
      (after_assoc (within_traces v room) (λ ts. finished S m texts ts room)
      (λ t. after (lay m.comments (room - length t)) λ c. Ok (t ++ c))
      ∙ rw (finished-within v refl room) (ap (λ (t : Text). t room) (within_then (finished_trace kind fs parse v) (Ok m.comments))))

-- ---- a collection

before_text : (t : Elems) (x y : Item Trace) → before t (as_text x) (as_text y) ≡ before t x y
unfolding before
before_text t x y = refl

-- the order looks at nodes only
insert-text : (t : Elems) (x : Item Trace) (l : List (Item Trace)) → insert t (as_text x) (map as_text l) ≡ map as_text (insert t x l)
unfolding insert
insert-text t x [] = refl
insert-text t x (y ∷ l) = rw (before_text t x y, insert-text t x l) (by (before t x y))
  where
    by : (b : Bool) → cond b (as_text x ∷ (as_text y ∷ map as_text l)) (as_text y ∷ map as_text (insert t x l))
        ≡ map as_text (cond b (x ∷ (y ∷ l)) (y ∷ insert t x l))
    by true = refl
    by false = refl

-- THE THEOREM
pub items-within : (S : Setting) (t : Elems) (c : Nest) → items t (rendered S) c ≡ map as_text (items t (rendered_trace S) c)
unfolding items
items-within S t none = refl
items-within S t (kept m inner rest) =
    let nested : ℕ → List (Item Trace) = λ k. items t (rendered_trace S) (inner k) in
    let x : Item Trace = record { node = m.node; what = rendered_trace S m nested } in
    let e : rendered S m (λ k. items t (rendered S) (inner k)) ≡ within x.what =
    ap (rendered S m) (fun_ext (λ k. items-within S t (inner k))) ∙ rendered-within S m nested in
    rw (e, items-within S t rest) (insert-text t x (items t (rendered_trace S) rest))
