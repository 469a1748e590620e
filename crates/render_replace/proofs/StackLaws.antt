-- Laws of the texts around a row's text: what stands before it is kept, and what comes of it comes of the outermost.
-- Assumes nothing.
use mathlib.Core.Path.{◌≡◌, refl, sym, ap, ◌∙◌}
use mathlib.Core.List.{List, []}
use Prim.Native.Nat.{ℕ, ◌+◌, ◌-◌, ◌≤◌, ◌<◌}
use native.Mathlib.Omega.{arith}
use lib.ListN.{length, take}
use lib.Seq.{take-take}
use borrow.Author.Tests.{eqb-true}
use Rattle.std.specs.Prelude.{true, Some}
use Rattle.words.proofs.TestLaws.{and_both}
use Rattle.rendering.specs.Events.{Event}
use Rattle.rendering.specs.Traces.{Trace, stopped, reach, ◌then◌}
use Rattle.rendering.proofs.RoomLaws.{nothing_then}
use Rattle.nester.specs.declared.Nesting.{Nesting}
use Rattle.nester.specs.declared.Nesting.TheVariants.{NoMatch, NotKept, Outermost, Inside}
use Rattle.nester.specs.Rows.{row_at}
use Rattle.rows.specs.declared.frames.Frame.{Frame}
use Rattle.rows.specs.Rows.{World, row_trace, is_inside}
use Rattle.rows.specs.Frames.{frame_of, Grows, rest_from, Waiting}
use Rattle.rows.proofs.BetweenLaws.{between_none}
use Rattle.rows.proofs.StandLaws.{within_later}
use Rattle.rows.proofs.OwnerLaws.{frame_before, event_up, reach_up}
use Rattle.render_replace.specs.Stacks.{Stack, base, up}
use Rattle.render_replace.specs.Turns.{owner_in}

-- what stands before a place stands before an earlier one
pub before_less : {A : Type 0} (n m : ℕ) (x y : List A) → n ≤ m → take m y ≡ take m x → take n y ≡ take n x
before_less n m x y h e = sym (take-take n m y h) ∙ ap (take n) e ∙ take-take n m x h

-- a row that waits, where bytes before a place are kept
waits_still : {W : World} {f : Frame} {out out' : List ℕ} {o k at : ℕ} → Waiting W o k f out at → length out' ≡ length out → take at out' ≡ take at out → Waiting W o k f out' at
waits_still {W} {f} {out} {out'} {o} {k} {at} w size bytes =
    let rest : Trace = row_trace W k then rest_from W o (W.end_of k) (k + 1) w.progress.slot in
    let grows : Grows out out' at at [] =
    record { size = size; same = bytes; rise = omega arith; ends = omega (arith, w.within.begun.ends); new = between_none at out' } in
    record {
      progress = w.progress;
      within = within_later w.within f.filling w.progress.from w.progress.next out' at [] rest w.within.filling (sym (nothing_then rest)) grows;
      behind = w.behind;
      inside = w.inside;
      nested = w.nested;
      next = w.next;
      from = w.from;
    }

-- the row that waits for row k
pub record Owner (W : World) (k0 : ℕ) (frames : List Frame) (out : List ℕ) (k : ℕ) : Type 0 where
  pub owner : ℕ
  pub waiting : Waiting W owner k (frame_of frames owner) out (frame_of frames k).begin
  pub around : Stack W frames out k0 owner
  pub state : owner_in (row_at W.rows k).state ≡ Some owner

owner_is : (s : Nesting) (o slot : ℕ) → is_inside o slot s ≡ true → owner_in s ≡ Some o
owner_is NoMatch o slot h = absurd cc
owner_is NotKept o slot h = absurd cc
owner_is Outermost o slot h = absurd cc
owner_is (Inside row taken) o slot h = ap (λ (n : ℕ). Some n) (eqb-true row o (and_both _ _ h).0)

module _ {W : World} {k0 : ℕ} where
  -- the outermost stands first and begins first
  pub stack_low : {frames : List Frame} {out : List ℕ} {k : ℕ} → Stack W frames out k0 k → (k0 ≤ k) × ((frame_of frames k0).begin ≤ (frame_of frames k).begin)
  stack_low base = (omega arith, omega arith)
  stack_low (up w s) = let l = stack_low s in (omega (arith, w.behind, l.0), omega (arith, w.within.begun.begins, l.1))

  -- the same for all of them
  pub stack_stays : {frames : List Frame} {out : List ℕ} {frames' : List Frame} {out' : List ℕ} {k : ℕ} → Stack W frames out k0 k → take k frames' ≡ take k frames
      → (frame_of frames' k).begin ≡ (frame_of frames k).begin → length out' ≡ length out → take (frame_of frames k).begin out' ≡ take (frame_of frames k).begin out
      → Stack W frames' out' k0 k
  stack_stays base same begin size bytes = base
  stack_stays {frames} {out} {frames'} {out'} {k} (up {o} w s) same begin size bytes =
      let l : o < k = w.behind in
      let e : frame_of frames' o ≡ frame_of frames o = frame_before frames frames' o k l same in
      let b : (frame_of frames o).begin ≤ (frame_of frames k).begin = w.within.begun.begins in
      up (rw (e, begin) (waits_still w size bytes))
      (stack_stays s (before_less o k frames frames' (omega arith) same) (ap (λ (f : Frame). f.begin) e) size
      (before_less (frame_of frames o).begin (frame_of frames k).begin out out' b bytes))

  -- an event in the row's text ends the outermost's
  pub stack_event : {frames : List Frame} {out : List ℕ} {k : ℕ} → Stack W frames out k0 k → (n : ℕ) (e : Event) → row_trace W k ≡ stopped n e
      → row_trace W k0 ≡ stopped (((frame_of frames k).begin - (frame_of frames k0).begin) + n) e
  stack_event {frames} base n e h =
      let b = (frame_of frames k0).begin in let z : n ≡ (b - b) + n = omega arith in h ∙ ap (λ (m : ℕ). stopped m e) z
  stack_event {frames} {out} {k} (up {o} w s) n e h =
      let a = (frame_of frames k0).begin in let b = (frame_of frames o).begin in let c = (frame_of frames k).begin in
      let l : a ≤ b = (stack_low s).1 in let m : b ≤ c = w.within.begun.begins in
      let z : (b - a) + ((c - b) + n) ≡ (c - a) + n = omega arith in
      stack_event s ((c - b) + n) e (event_up W o k (frame_of frames o) out c w n e h) ∙ ap (λ (x : ℕ). stopped x e) z

  -- it reaches as far
  pub stack_reach : {frames : List Frame} {out : List ℕ} {k : ℕ} → Stack W frames out k0 k
      → ((frame_of frames k).begin - (frame_of frames k0).begin) + reach (row_trace W k) ≤ reach (row_trace W k0)
  stack_reach base = omega arith
  stack_reach {frames} {out} {k} (up {o} w s) =
      omega (arith, stack_reach s, reach_up W o k (frame_of frames o) out (frame_of frames k).begin w, (stack_low s).1, w.within.begun.begins)

  -- a row that is not the outermost has one
  pub owner_of_lem : {frames : List Frame} {out : List ℕ} {k : ℕ} → Stack W frames out k0 k → (k ≡ k0 → ⊥) → Owner W k0 frames out k
  owner_of_lem base h = absurd (h refl)
  owner_of_lem {k = k} (up {o} w s) h = record {
    owner = o;
    waiting = w;
    around = s;
    state = owner_is (row_at W.rows k).state o w.progress.slot w.nested;
  }
