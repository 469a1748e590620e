-- Laws of one turn after the other: what all turns so far leave.
-- Assumes nothing.
use mathlib.Core.Path.{◌≡◌, refl, ap, subst, ◌∙◌}
use mathlib.Core.List.{List}
use Prim.Native.Nat.{ℕ, ◌≤◌, ◌<◌}
use native.Mathlib.Omega.{arith}
use lib.ListN.{length, take, set}
use Rattle.std.specs.Prelude.{Option, Some, None, Result, Ok, Err}
use Rattle.rows.specs.declared.frames.Frame.{Frame}
use Rattle.rows.specs.Rows.{World, count_of, row_trace}
use Rattle.rows.specs.Frames.{frame_at, frame_of}
use Rattle.rows.proofs.StandLaws.{enters_passing}
use Rattle.replacing.specs.declared.Event.{Event}
use Rattle.replacing.proofs.CapturedLaws.{frame_here}
use Rattle.render_replace.specs.declared.turns.Turned.{Turned}
use Rattle.render_replace.specs.Worlds.{Handed, Shown}
use Rattle.render_replace.specs.Stacks.{base, work_left}
use Rattle.render_replace.specs.Answers.{Answers}
use Rattle.render_replace.specs.Turns.{AtTurn, TurnLeftIn, TurnLeft, TurnKeeps, NextIn, TextLeft, RunLeft}

-- the turns taken so far: every world in which row k0 stood at the first place has row k stand at the present one
pub record Going (h : Handed) (k0 : ℕ) (frames₀ : List Frame) (out₀ : List ℕ) (at₀ : ℕ) (frames : List Frame) (out : List ℕ) (k at : ℕ) : Type 0 where
  pub frames_length : length frames ≡ length frames₀
  pub begin : (frame_of frames k0).begin ≡ (frame_of frames₀ k0).begin
  pub out_length : length out ≡ length out₀
  pub before : take (frame_of frames₀ k0).begin out ≡ take (frame_of frames₀ k0).begin out₀
  pub still : (W : World) → AtTurn W h k0 k0 frames₀ out₀ at₀ → AtTurn W h k0 k frames out at

module _ (h : Handed) (k0 : ℕ) (frames₀ : List Frame) (out₀ : List ℕ) (at₀ : ℕ) where
  pub going_none : Going h k0 frames₀ out₀ at₀ frames₀ out₀ k0 at₀
  going_none = record { frames_length = refl; begin = refl; out_length = refl; before = refl; still = λ W p. p }

  module _ (frames : List Frame) (out : List ℕ) (k at : ℕ) (g : Going h k0 frames₀ out₀ at₀ frames out k at) where
    pub still_at : (W : World) → AtTurn W h k0 k0 frames₀ out₀ at₀ → AtTurn W h k0 k frames out at
    still_at W p = g.still W p

    module _ (frames' : List Frame) (out' : List ℕ) (r : Result Turned Event) (s : TurnKeeps k0 k frames frames' out out' r) where
      -- bytes before the outermost text
      pub kept : take (frame_of frames₀ k0).begin out' ≡ take (frame_of frames₀ k0).begin out₀
      kept = subst (λ (b : ℕ). take b out' ≡ take b out) g.begin s.out_before ∙ g.before

      module _ (l : TurnLeft h k0 k frames out at frames' out' r) where
        -- one more
        pub goes_on : (t : Turned) (j : ℕ) → r ≡ Ok t → t.next ≡ Some j → Going h k0 frames₀ out₀ at₀ frames' out' j t.at
        goes_on t j e n = record {
          frames_length = s.frames_length ∙ g.frames_length;
          begin = s.begin ∙ g.begin;
          out_length = s.out_length ∙ g.out_length;
          before = kept;
          still = λ W p.
              let x : TurnLeftIn W h k0 frames frames' out' (Ok t) = rw e at (l.left W (g.still W p)) in
              subst (λ (o : Option ℕ). NextIn W h k0 frames frames' out' t.at o) n x;
        }

        pub goes_less : (t : Turned) (j : ℕ) → r ≡ Ok t → t.next ≡ Some j → work_left frames' j < work_left frames k
        goes_less t j e n = (rw (e, n) at s.falls)

        -- the last one
        pub has_gone : (t : Turned) → r ≡ Ok t → t.next ≡ None → RunLeft h k0 frames₀ out₀ at₀ out' (Ok t.at)
        has_gone t e n = record {
          left = λ W p.
              let x : TurnLeftIn W h k0 frames frames' out' (Ok t) = rw e at (l.left W (g.still W p)) in
              subst (λ (b : ℕ). Answers (row_trace W k0) b out' (Ok t.at)) g.begin
              (subst (λ (o : Option ℕ). NextIn W h k0 frames frames' out' t.at o) n x);
        }

        pub has_ended : (v : Event) (q : Result ℕ Event) → r ≡ Err v → q ≡ Err v → RunLeft h k0 frames₀ out₀ at₀ out' q
        has_ended v q e i = record {
          left = λ W p.
              let x : TurnLeftIn W h k0 frames frames' out' (Err v) = rw e at (l.left W (g.still W p)) in
              rw i (subst (λ (b : ℕ). Answers (row_trace W k0) b out' (Err v)) g.begin x);
        }

-- ---- the first turn

module _ (k0 begin : ℕ) (frames frames' : List Frame) (is : frames' ≡ set frames k0 (frame_at begin)) (here : k0 < length frames) where
  entered : frame_of frames' k0 ≡ frame_at begin
  entered = ap (λ (l : List Frame). frame_of l k0) is ∙ frame_here frames k0 (frame_at begin) here

  pub begins_here : (frame_of frames' k0).begin ≡ begin
  begins_here = ap (λ (f : Frame). f.begin) entered

  pub begins_turn : (W : World) (h : Handed) (out : List ℕ) → Shown W h → k0 < count_of W → length h.rows ≤ length frames' → begin ≤ length out → AtTurn W h k0 k0 frames' out begin
  begins_turn W h out s inside all fits = record {
    at_row = record {
      shown = s;
      inside = inside;
      room = omega (arith, all, ap length s.reads);
      standing = rw entered (enters_passing W k0 begin out fits);
    };
    stack = base;
  }

  pub text_left : (h : Handed) (out : List ℕ) (out' : List ℕ) (r : Result ℕ Event) → length h.rows ≤ length frames' → begin ≤ length out
      → RunLeft h k0 frames' out begin out' r → TextLeft h k0 begin out' r
  text_left h out out' r all fits l = record {
    left = λ W s inside. subst (λ (b : ℕ). Answers (row_trace W k0) b out' r) begins_here (l.left W (begins_turn W h out s inside all fits));
  }
