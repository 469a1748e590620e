-- The parts of a first rendering, as a row and its frame tell them, are those of its texts.
-- Assumes nothing.
use mathlib.Core.Path.{◌≡◌, refl, sym, ap, ◌∙◌}
use mathlib.Core.Bool.{Bool}
use mathlib.Core.List.{List, [], ◌∷◌, ◌++◌, map-append}
use Prim.Native.Nat.{ℕ, zero, suc, ◌+◌, ◌<◌, ◌≤◌}
use native.Mathlib.Numerals.{add-one}
use native.Mathlib.Omega.{arith}
use lib.ListN.{length, get_or, take, drop, set, length-append}
use lib.Seq.{take-suc, take-suc-set, take_all}
use Rattle.std.proofs.Math.ListN.{get_or-eq_default}
use Rattle.words.proofs.TestLaws.{low_or}
use Rattle.std.specs.Prelude.{Option, None, Some, Ok, Err}
use Rattle.std.specs.List.{concat}
use Rattle.captures.specs.declared.Binding.{Binding}
use Rattle.nester.specs.Rows.{row_at}
use Rattle.parentheses.specs.Parentheses.{total}
use Rattle.parentheses.specs.declared.Part.{Part}
use Rattle.parentheses.specs.Parts.{part_of, parts_of as code_parts}
use Rattle.rendering.specs.Texts.{Fragment, fixed, captured, is_captured, prefix, parts_of}
use Rattle.rendering.specs.Traces.{Trace, ◌then◌, Traces, first, fragment_trace, traces_of}
use Rattle.rendering.proofs.TraceLaws.{done_then_done}
use Rattle.rows.specs.declared.frames.Span.{Span}
use Rattle.rows.specs.declared.frames.Frame.{Frame}
use Rattle.rows.specs.Rows.{World, binding_of, slot_hole}
use Rattle.rows.specs.Frames.{text_in, between, SlotStands}
use Rattle.rows.proofs.BetweenLaws.{length-between}
use Rattle.rows.proofs.StandLaws.{hole_bound, hole_unbound}
use Rattle.rerendering.specs.Parts.{captured_length, measured, measured_parts}

-- ---- a list that is filled with a part for each fragment

module _ (bindings : List (Option Binding)) (f : Frame) (fs : List Fragment) where
  -- a part is one of few bytes in all
  length_low : (d : Fragment) (l : List Fragment) (i : ℕ) → i < length l → (measured bindings f (get_or l i d)).length ≤ total (measured_parts bindings f l)
  unfolding total
  length_low d [] i h = absurd (omega arith)
  length_low d (y ∷ l) zero h = omega arith
  length_low d (y ∷ l) (suc i) h = omega (arith, length_low d l i (omega arith))

  pub part_low : (i : ℕ) (x d : Fragment) → i < length fs → total (measured_parts bindings f fs) ≤ 1048576 → x ≡ get_or fs i d → (measured bindings f x).length ≤ 1048576
  part_low i x d h few e = omega (arith, length_low d fs i h, ap (λ (y : Fragment). (measured bindings f y).length) e)

  pub parts_more : (parts : List Part) (i : ℕ) (x d : Fragment) (p : Part) → length parts ≡ length fs → i < length fs → x ≡ get_or fs i d
      → part_of p ≡ measured bindings f x → code_parts (take i parts) ≡ measured_parts bindings f (take i fs)
      → code_parts (take (i + 1) (set parts i p)) ≡ measured_parts bindings f (take (i + 1) fs)
  parts_more parts i x d p same h e is g =
      let k : i < length parts = omega arith in
      rw (
        add-one i,
        take-suc-set parts i p k,
        map-append part_of (take i parts) (p ∷ []),
        take-suc fs i d h,
        map-append (measured bindings f) (take i fs) (get_or fs i d ∷ []),
        g,
        is,
        e,
      )

  pub parts_all : (parts : List Part) (i : ℕ) → length parts ≡ length fs → length fs ≤ i → code_parts (take i parts) ≡ measured_parts bindings f (take i fs)
      → code_parts parts ≡ measured_parts bindings f fs
  parts_all parts i same h g =
      ap code_parts (sym (take_all i parts (omega arith))) ∙ g ∙ ap (measured_parts bindings f) (take_all i fs h)

-- ---- texts in turn

-- the texts of a first fragment and of the others
record Firsts (u : Trace) (v : Traces) (ts : List (List ℕ)) : Type 0 where
  pub text : List ℕ
  pub others : List (List ℕ)
  pub are : ts ≡ text ∷ others
  pub one : u ≡ Ok text
  pub rest : v ≡ Ok others

firsts : (u : Trace) (v : Traces) (ts : List (List ℕ)) → first u v ≡ Ok ts → Firsts u v ts
firsts (Ok xs) (Ok ys) ts h = record { text = xs; others = ys; are = cc; one = refl; rest = refl }
firsts (Ok xs) (Err s) ts h = absurd (let z : ◌≡◌ {A = ℕ} 0 1 = cc in omega arith)
firsts (Err s) v ts h = absurd (let z : ◌≡◌ {A = ℕ} 0 1 = cc in omega arith)

-- all placeholders have their slots' texts in the buffer
abbrev pub EachStands : Frame → List Fragment → Type 0
EachStands f fs =
    (i slot : ℕ) (is_receiver : Bool) (others : List Fragment) → slot < 8 → drop i fs ≡ captured slot is_receiver ∷ others → text_in f slot ≡ None → ⊥

-- ---- parts and texts

module _ (W : World) (k : ℕ) (f : Frame) (out : List ℕ) (at : ℕ) (ends : at ≤ length out) (eight : length (row_at W.rows k).bindings ≡ 8)
    (slots : (slot : ℕ) → slot < 8 → SlotStands W k slot (text_in f slot) out at) where
  abbrev bindings : List (Option Binding)
  bindings = (row_at W.rows k).bindings

  -- no slot from the eighth on is bound
  unbound_high : (slot : ℕ) → 8 ≤ slot → binding_of W k slot ≡ None
  unbound_high slot h = get_or-eq_default bindings None (omega (arith, eight))

  -- a placeholder whose text is there is bound, and how long that is
  module _ (slot : ℕ) (r : Bool) (t : List ℕ) (h : slot_hole W k slot r ≡ Ok t) where
    not_unbound : binding_of W k slot ≡ None → ⊥
    not_unbound e = let u = hole_unbound W k slot r e in let z : ◌≡◌ {A = ℕ} 0 1 = cc in omega arith

    low : slot < 8
    low = low_or slot 8 (λ l. l) (λ l. absurd (not_unbound (unbound_high slot l)))

    length_by : (o : Option Binding) (s : Option Span) → binding_of W k slot ≡ o → text_in f slot ≡ s → SlotStands W k slot s out at → (s ≡ None → ⊥)
        → length t ≡ captured_length bindings f slot r
    length_by None s e g st n = absurd (not_unbound e)
    length_by (Some b) None e g st n = absurd (n refl)
    length_by (Some b) (Some s) e g st n =
        let bs = between s.start s.end out in
        let u : slot_hole W k slot r ≡ Ok (prefix b r ++ bs) =
        hole_bound W k slot r b e ∙ ap (λ (x : Trace). Ok (prefix b r) then x) st.2 ∙ done_then_done (prefix b r) bs in
        let v : t ≡ prefix b r ++ bs = cc in
        rw (e, g) (ap length v ∙ length-append (prefix b r) bs ∙ ap (λ (x : ℕ). length (prefix b r) + x) (length-between s.start s.end out (omega (arith, st.1))))

    captured-length : (text_in f slot ≡ None → ⊥) → length t ≡ captured_length bindings f slot r
    captured-length n = length_by (binding_of W k slot) (text_in f slot) refl refl (slots slot low) n

  -- one fragment
  fragment_part : (x : Fragment) (t : List ℕ) → ((slot : ℕ) (r : Bool) → slot < 8 → x ≡ captured slot r → text_in f slot ≡ None → ⊥)
      → fragment_trace (slot_hole W k) x ≡ Ok t → measured bindings f x ≡ record { length = length t; is_placeholder = is_captured x }
  fragment_part (fixed bs) t h g = let e : bs ≡ t = cc in rw e
  fragment_part (captured slot r) t h g = rw (captured-length slot r t g (h slot r (low slot r t g) refl))

  -- all of them
  pub parts_are : (fs : List Fragment) (ts : List (List ℕ)) → EachStands f fs → traces_of (slot_hole W k) fs ≡ Ok ts → measured_parts bindings f fs ≡ parts_of fs ts
  unfolding traces_of parts_of
  parts_are [] ts h g = refl
  parts_are (x ∷ fs) ts h g =
      let p = firsts (fragment_trace (slot_hole W k) x) (traces_of (slot_hole W k) fs) ts g in
      let a = fragment_part x p.text (λ slot r l e. h 0 slot r fs l (ap (λ (y : Fragment). y ∷ fs) e)) p.one in
      rw (p.are, a, parts_are fs p.others (λ i. h (suc i)) p.rest)

-- the parts are as long as the texts
pub total_is : (fs : List Fragment) (ts : List (List ℕ)) → length fs ≡ length ts → total (parts_of fs ts) ≡ length (concat ts)
unfolding total parts_of
total_is [] [] h = refl
total_is [] (t ∷ ts) h = absurd (omega arith)
total_is (f ∷ fs) [] h = absurd (omega arith)
total_is (f ∷ fs) (t ∷ ts) h = rw (total_is fs ts (omega arith), length-append t (concat ts))
