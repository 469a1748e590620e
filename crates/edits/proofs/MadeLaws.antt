-- DEMAND 3, the edits: one for each item and no other, rising without overlap; and the file with all of them made.
-- Assumes nothing.
use mathlib.Core.Path.{◌≡◌, refl, sym, ap, ◌∙◌}
use mathlib.Core.Bool.{Bool, true, false, cond}
use mathlib.Core.List.{List, [], ◌∷◌, ◌++◌, append_assoc, append-nil}
use Prim.Native.Nat.{ℕ, ◌+◌, ◌-◌, ◌≤◌}
use native.Mathlib.Omega.{arith}
use lib.Dec.{ltb}
use lib.ListN.{length, take, drop, take-append-drop}
use lib.Seq.{take-append-le, drop-drop, take-take, take-add, take_all, drop-length, drop_at, length-take-le}
use Rattle.nester.specs.Places.{Item}
use Rattle.std.specs.Prelude.{Result, Ok, Err}
use Rattle.rendering.specs.Events.{Event, NoRoom, after, Text}
use Rattle.edits.specs.Edits.{Edit, edit_of, write}
use Rattle.edits.specs.Made.{Written, Rise, made, all_made, bytes_from, woven}

-- ---- one edit for each item

module _ (start_of end_of : ℕ → ℕ) where
  pub written : (xs : List (Item Text)) (room : ℕ) (es : List Edit) → write start_of end_of room xs ≡ Ok es → Written start_of end_of xs es
  unfolding write
  written [] room es h = let e : es ≡ [] = cc in rw e Written.nil
  written (x ∷ xs) room es h = by (ltb room 12) (x.what (room - 12)) refl (written xs) h
    where
      by : (b : Bool) (o : Result (List ℕ) Event) → x.what (room - 12) ≡ o
          → ((r : ℕ) (rest : List Edit) → write start_of end_of r xs ≡ Ok rest → Written start_of end_of xs rest)
          → cond b (Err NoRoom)
          (after o λ text. after (write start_of end_of (room - 12 - length text) xs) λ rest. Ok (edit_of start_of end_of x.node text ∷ rest)) ≡ Ok es
          → Written start_of end_of (x ∷ xs) es
      by true o p more q = absurd (let z : ◌≡◌ {A = ℕ} 0 1 = cc in omega arith)
      by false (Err e) p more q = absurd (let z : ◌≡◌ {A = ℕ} 0 1 = cc in omega arith)
      by false (Ok text) p more q = rest (write start_of end_of (room - 12 - length text) xs) refl q
        where
          rest : (w : Result (List Edit) Event) → write start_of end_of (room - 12 - length text) xs ≡ w
              → (after w λ rest. Ok (edit_of start_of end_of x.node text ∷ rest)) ≡ Ok es → Written start_of end_of (x ∷ xs) es
          rest (Err e) z y = absurd (let z : ◌≡◌ {A = ℕ} 0 1 = cc in omega arith)
          rest (Ok r) z y =
              let e : es ≡ edit_of start_of end_of x.node text ∷ r = cc in
              rw e (Written.more refl refl (room - 12) p (more (room - 12 - length text) r z))

  -- ---- which rise

  -- the ranges of the items' nodes follow each other from one byte to another
  abbrev pub Follow : {T : Type 0} → ℕ → ℕ → List (Item T) → Type 0
  Follow from to [] = from ≤ to
  Follow from to (x ∷ xs) = (from ≤ start_of x.node) × (start_of x.node ≤ end_of x.node) × Follow (end_of x.node) to xs

  pub edits_rise : {xs : List (Item Text)} {es : List Edit} (from to : ℕ) → Written start_of end_of xs es → Follow from to xs → Rise from to es
  edits_rise from to Written.nil f = f
  edits_rise from to (Written.more {e = e} p q room o w) f = rw (p, q) (f.0, f.1, edits_rise (end_of _) to w f.2)

-- ---- the file

-- bytes from one place to a third, cut at a second
cut : (a b c : ℕ) (file : List ℕ) → a ≤ b → b ≤ c → bytes_from a c file ≡ bytes_from a b file ++ bytes_from b c file
cut a b c file h i =
    let e : c - a ≡ (b - a) + (c - b) = omega arith in
    let g : a + (b - a) ≡ b = omega arith in
    rw (e, take-add (b - a) (c - b) (drop a file), drop-drop (b - a) a file, g)

front : (a b : ℕ) (file : List ℕ) → a ≤ b → take b file ≡ take a file ++ bytes_from a b file
front a b file h = let e : b ≡ a + (b - a) = omega arith in ap (λ (k : ℕ). take k file) e ∙ take-add a (b - a) file

back : (a b : ℕ) (file : List ℕ) → a ≤ b → drop a file ≡ bytes_from a b file ++ drop b file
back a b file h =
    let e : a + (b - a) ≡ b = omega arith in
    sym (take-append-drop (b - a) (drop a file)) ∙ rw (drop-drop (b - a) a file, e)

pub rise_end : (es : List Edit) (from to : ℕ) → Rise from to es → from ≤ to
rise_end [] from to r = r
rise_end (e ∷ es) from to r = omega (arith, rise_end es e.end to r.2)

-- bytes woven of themselves
pub as_it_was : (es : List Edit) (from to : ℕ) (file : List ℕ) → Rise from to es
    → bytes_from from to file ≡ woven (λ e. bytes_from e.start e.end file) from to es file
unfolding woven
as_it_was [] from to file r = refl
as_it_was (e ∷ es) from to file r =
    let h = rise_end es e.end to r.2 in
    cut from e.start to file r.0 (omega arith)
    ∙ ap (λ (w : List ℕ). bytes_from from e.start file ++ w)
    (cut e.start e.end to file r.1 h ∙ ap (λ (w : List ℕ). bytes_from e.start e.end file ++ w) (as_it_was es e.end to file r.2))

-- and with all edits of a range made, woven of their texts
pub made_from : (es : List Edit) (from to : ℕ) (file : List ℕ) → to ≤ length file → Rise from to es
    → all_made es file ≡ take from file ++ (woven (λ e. e.text) from to es file ++ drop to file)
unfolding all_made woven
made_from [] from to file z r = sym (take-append-drop from file) ∙ ap (λ (w : List ℕ). take from file ++ w) (back from to file r)
made_from (e ∷ es) from to file z r =
    let s = e.start in
    let k = e.end in
    let rest = woven (λ e. e.text) k to es file in
    let w = rest ++ drop to file in
    let fit : length (take k file) ≡ k = length-take-le k file (omega (arith, rise_end es k to r.2)) in
    let a : take s (take k file ++ w) ≡ take s file = take-append-le s (take k file) w (omega (arith, fit, r.1)) ∙ take-take s k file r.1 in
    let b : drop k (take k file ++ w) ≡ w = drop_at (take k file) w k fit in
    ap (λ (f : List ℕ). made e f) (made_from es k to file z r.2) ∙ rw (
      a,
      b,
      front from s file r.0,
      append_assoc (take from file) (bytes_from from s file) (e.text ++ w),
      append_assoc (bytes_from from s file) (e.text ++ rest) (drop to file),
      append_assoc e.text rest (drop to file),
    )

-- THE FILE with its edits made, and the file as it was
module _ (es : List Edit) (file : List ℕ) (r : Rise 0 (length file) es) where
  pub all_made_is : all_made es file ≡ woven (λ e. e.text) 0 (length file) es file
  all_made_is =
      made_from es 0 (length file) file (omega arith) r
      ∙ rw (drop-length file) (append-nil (woven (λ e. e.text) 0 (length file) es file))

  pub file_was : file ≡ woven (λ e. bytes_from e.start e.end file) 0 (length file) es file
  file_was = sym (take_all (length file - 0) file (omega arith)) ∙ as_it_was es 0 (length file) file r
