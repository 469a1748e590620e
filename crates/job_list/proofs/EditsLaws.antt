-- Laws of the edits of rows one after the other, and of the answer that they come to.
-- Assumes nothing.
use Prim.Native.Nat.{ℕ, zero, suc, ◌+◌, ◌-◌, ◌≤◌, ◌<◌}
use mathlib.Core.Path.{◌≡◌, refl, sym, ap, subst, ◌∙◌}
use mathlib.Core.List.{List, [], ◌∷◌, ◌++◌}
use native.Mathlib.Omega.{arith}
use lib.ListN.{length, take}
use Rattle.nester.specs.Places.{Item}
use native.Mathlib.Numerals.{add-one}
use Rattle.candidates.specs.Candidates.{each}
use Rattle.std.specs.Prelude.{Result, Ok, Err}
use Rattle.rendering.specs.Events as events
use Rattle.rendering.specs.Events.{Event}
use Rattle.replacing.specs.declared.Event as declared
use Rattle.replacing.specs.declared.Event.TheVariants.{Unbound, NoRoom, Asked}
use Rattle.rendering.specs.Traces.{Trace, stopped, reach, ◌then◌}
use Rattle.rendering.proofs.RoomLaws.{nothing_then, then_assoc}
use Rattle.rendering.proofs.TraceLaws.{then_stops, done_then_done, done_then_stopped, reach-first_of, reach_done_then}
use Rattle.edits.specs.Traces.{edit_trace, list_trace}
use Rattle.rows.specs.Rows.{World, count_of}
use Rattle.rows.specs.Frames.{between, Grows}
use Rattle.rows.proofs.BetweenLaws.{length-between, between_none, grows_between}
use Rattle.collections.specs.Worlds.{outer_item}
use Rattle.render_replace.specs.Answers.{Stops, Answers}
use Rattle.render_replace.specs.Worlds.{Handed, Shown}
use Rattle.job_list.specs.Lists.{node_start, node_end, row_edit, row_edits, EditLeft, EditsLeft}
use Rattle.job_list.proofs.EditLaws.{then_nothing}

list_append : (start_of end_of : ℕ → ℕ) (xs ys : List (Item Trace))
    → list_trace start_of end_of (xs ++ ys) ≡ (list_trace start_of end_of xs then list_trace start_of end_of ys)
unfolding list_trace
list_append start_of end_of [] ys = sym (nothing_then (list_trace start_of end_of ys))
list_append start_of end_of (x ∷ xs) ys =
    let one = edit_trace start_of end_of x.node x.what in
    ap (λ (u : Trace). one then u) (list_append start_of end_of xs ys)
    ∙ sym (then_assoc one (list_trace start_of end_of xs) (list_trace start_of end_of ys))

each_next : {A : Type 0} (k : ℕ) (f : ℕ → List A) → each (k + 1) f ≡ each k f ++ f k
unfolding each
each_next k f = rw (add-one k) refl

-- the edits of the first rows
module _ (words : List ℕ) (W : World) where
  abbrev pub first_edits : ℕ → Trace
  first_edits k = list_trace (node_start words) (node_end words) (each k (outer_item W))

  pub first-none : first_edits 0 ≡ Ok []
  unfolding each list_trace
  first-none = refl

  pub first_next : (k : ℕ) → first_edits (k + 1) ≡ (first_edits k then row_edit words W k)
  first_next k =
      ap (list_trace (node_start words) (node_end words)) (each_next k (outer_item W))
      ∙ list_append (node_start words) (node_end words) (each k (outer_item W)) (outer_item W k)

  -- and what follows them
  later : (m k : ℕ) → (rest : Trace) × (first_edits (k + m) ≡ (first_edits k then rest))
  later zero k = let e : k + 0 ≡ k = omega arith in (Ok [], ap first_edits e ∙ sym (then_nothing (first_edits k)))
  later (suc m) k =
      let e : k + suc m ≡ (k + m) + 1 = omega arith in let r = later m k in let u = row_edit words W (k + m) in (
        (r.0 then u),
        ap first_edits e ∙ first_next (k + m) ∙ ap (λ (v : Trace). v then u) r.1 ∙ then_assoc (first_edits k) r.0 u,
      )

  pub all_edits : (k : ℕ) → k < count_of W → (rest : Trace) × (row_edits words W ≡ (first_edits k then row_edit words W k then rest))
  all_edits k h =
      let e : count_of W ≡ (k + 1) + (count_of W - (k + 1)) = omega arith in let r = later (count_of W - (k + 1)) (k + 1) in
      (r.0, ap first_edits e ∙ r.1 ∙ ap (λ (v : Trace). v then r.0) (first_next k))

-- ---- what is laid so far, and one text more

module _ {t : Trace} (out : List ℕ) {at : ℕ} (laid : Answers t 0 out (Ok at)) (out' : List ℕ) (size : length out' ≡ length out) where
  abbrev front : List ℕ
  front = between 0 at out

  front-size : length front ≡ at
  front-size = let z : at - 0 ≡ at = omega arith in length-between 0 at out laid.1 ∙ z

  pub answers_more : {u : Trace} {behind : ℕ} → take at out' ≡ take at out → Answers u at out' (Ok behind) → Answers (t then u) 0 out' (Ok behind)
  answers_more {u} {behind} same a =
      let g : Grows out out' at behind (between at behind out') = record { size = size; same = same; rise = a.0; ends = a.1; new = refl } in (
        omega arith,
        a.1,
        (λ i. laid.2 i then a.2 i) ∙ done_then_done front (between at behind out')
            ∙ ap (λ (l : List ℕ). Ok l) (sym (grows_between 0 at behind out out' (between at behind out') (omega arith) g)),
      )

  -- an event ends the list
  pub stops_later : {u : Trace} (v : Trace) {e : Event} → Stops u at out' e → Stops (t then u then v) 0 out' e
  stops_later {u} v {e} s = record {
    count = at + s.count;
    fits = omega (arith, s.fits);
    stops =
        let n : length front + s.count ≡ at + s.count = omega (arith, front-size) in
        then_stops (t then u) v (at + s.count) e
        ((λ i. laid.2 i then s.stops i) ∙ done_then_stopped front s.count e ∙ ap (λ (k : ℕ). stopped k e) n);
  }

  pub full_later : (u v : Trace) → length out' < at + reach u → length out' < 0 + reach (t then u then v)
  full_later u v h =
      let r : reach (t then u) ≡ length front + reach u = ap (λ (x : Trace). reach (x then u)) laid.2 ∙ reach_done_then front u in
      omega (arith, reach-first_of (t then u) v, r, front-size)

-- ---- the rows passed so far: in every world that is shown, their edits stand in the buffer

pub record Laying (h : Handed) (out₀ out : List ℕ) (k at : ℕ) : Type 0 where
  pub size : length out ≡ length out₀
  pub fits : at ≤ length out
  pub laid : (W : World) → Shown W h → Answers (first_edits h.file.words W k) 0 out (Ok at)

module _ (h : Handed) (out₀ : List ℕ) where
  pub laying_none : Laying h out₀ out₀ 0 0
  laying_none = record {
    size = refl;
    fits = omega arith;
    laid = λ W s. (omega arith, omega arith, first-none h.file.words W ∙ ap (λ (l : List ℕ). Ok l) (sym (between_none 0 out₀)));
  }

  module _ (out : List ℕ) (k at : ℕ) (g : Laying h out₀ out k at) where
    pub laying_all : k ≡ length h.rows → EditsLeft h out (Ok at)
    laying_all e = record {
      left = λ W s. let n : k ≡ count_of W = e ∙ sym (ap length s.reads) in
          subst (λ (m : ℕ). Answers (first_edits h.file.words W m) 0 out (Ok at)) n (g.laid W s);
    }

    module _ (out' : List ℕ) (size : length out' ≡ length out) (same : take at out' ≡ take at out) where
      pub laying_next : (W : World) → Shown W h → (behind : ℕ) (q : Result ℕ declared.Event) → q ≡ Ok behind → EditLeft h k at out' q → Laying h out₀ out' (k + 1) behind
      laying_next W s behind q e l = record {
        size = size ∙ g.size;
        fits = (one W s).1;
        laid = λ V t. subst (λ (u : Trace). Answers u 0 out' (Ok behind)) (sym (first_next h.file.words V k))
            (answers_more out (g.laid V t) out' size same (one V t));
      }
        where
          one : (V : World) → Shown V h → Answers (row_edit h.file.words V k) at out' (Ok behind)
          one V t = rw e at (l.left V t)

      ends_with : (t u v : Trace) → Answers t 0 out (Ok at) → (e : declared.Event) → Answers u at out' (Err e) → Answers (t then u then v) 0 out' (Err e)
      ends_with t u v x Unbound a = stops_later out x out' size v a
      ends_with t u v x NoRoom a = full_later out x out' size u v a
      ends_with t u v x (Asked kind from to) a = (a.0, a.1, stops_later out x out' size v a.2)

      pub laying_ends : k < length h.rows → (e : declared.Event) (q r : Result ℕ declared.Event) → q ≡ Err e → r ≡ Err e → EditLeft h k at out' q → EditsLeft h out' r
      laying_ends i e q r y z l = record {
        left = λ W s.
            let all = all_edits h.file.words W k (omega (arith, i, ap length s.reads)) in
            let a : Answers (row_edit h.file.words W k) at out' (Err e) = subst (λ (x : Result ℕ declared.Event). Answers (row_edit h.file.words W k) at out' x) y (l.left W s) in
            rw z (subst (λ (u : Trace). Answers u 0 out' (Err e)) (sym all.1) (ends_with _ _ all.0 (g.laid W s) e a));
      }
