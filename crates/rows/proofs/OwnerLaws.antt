-- Laws of the row that holds another: what comes of the nested row's text comes of the text around it.
-- Assumes nothing.
use mathlib.Core.Path.{◌≡◌, sym, ap, subst, ◌∙◌}
use mathlib.Core.List.{List}
use Prim.Native.Nat.{ℕ, ◌+◌, ◌-◌, ◌≤◌, ◌<◌}
use native.Mathlib.Omega.{arith}
use lib.ListN.{take, get_or}
use lib.Seq.{get_or-take}
use Rattle.std.specs.Prelude.{Ok}
use Rattle.rendering.specs.Events.{Event}
use Rattle.rendering.specs.Traces.{Trace, stopped, reach, ◌then◌}
use Rattle.rendering.proofs.TraceLaws.{then_stops, reach-first_of}
use Rattle.rows.specs.declared.frames.Frame.{Frame}
use Rattle.rows.specs.Rows.{World, row_trace}
use Rattle.rows.specs.Frames.{frame_at, frame_of, Grows, Within, rest_from, Filling, Waiting}
use Rattle.rows.proofs.StandLaws.{within_stops, within_reaches, within_later}

-- a frame before another, where what stands before that one is the same
pub frame_before : (frames frames' : List Frame) (k j : ℕ) → k < j → take j frames' ≡ take j frames → frame_of frames' k ≡ frame_of frames k
frame_before frames frames' k j h e =
    sym (get_or-take j frames' k (frame_at 0) h) ∙ ap (λ (l : List Frame). get_or l k (frame_at 0)) e ∙ get_or-take j frames k (frame_at 0) h

module _ (W : World) (o k : ℕ) (f : Frame) (out : List ℕ) (at : ℕ) (w : Waiting W o k f out at) where
  abbrev rest : Trace
  rest = rest_from W o (W.end_of k) (k + 1) w.progress.slot

  -- an event in it
  pub event_up : (n : ℕ) (e : Event) → row_trace W k ≡ stopped n e → row_trace W o ≡ stopped ((at - f.begin) + n) e
  event_up n e h = within_stops w.within n e (then_stops (row_trace W k) rest n e h)

  -- how far it reaches
  pub reach_up : (at - f.begin) + reach (row_trace W k) ≤ reach (row_trace W o)
  reach_up = omega (arith, within_reaches w.within, reach-first_of (row_trace W k) rest, w.within.begun.begins)

  -- it is done, and stands in the buffer: the text around it goes on behind it
  pub done_up : (out' : List ℕ) (at' : ℕ) (bs : List ℕ) → row_trace W k ≡ Ok bs → Grows out out' at at' bs → Filling W o f out' at'
  done_up out' at' bs h g =
      let p = w.progress in
      record {
        progress = p;
        within = subst (λ (t : Trace). Within W o f out' at' p t) (λ i. rest_from W o (sym w.from i) (sym w.next i) p.slot)
            (within_later w.within f.filling p.from p.next out' at' bs rest w.within.filling (ap (λ (t : Trace). t then rest) h) g);
        behind = omega (arith, w.behind, w.next);
        inside = omega (arith, w.inside, w.next);
      }
