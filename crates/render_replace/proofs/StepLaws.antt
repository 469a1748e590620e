-- Laws of the steps of a row, and of the end of its first rendering.
-- Assumes nothing.
use mathlib.Core.Path.{◌≡◌, ap, ◌∙◌}
use mathlib.Core.List.{List, ◌++◌}
use Prim.Native.Nat.{ℕ, ◌≤◌, ◌<◌}
use native.Mathlib.Omega.{arith}
use lib.ListN.{length, take}
use Rattle.std.specs.Prelude.{Option, None, Some, Result, Ok, Err}
use Rattle.parses.specs.Parses.{Parse}
use Rattle.rendering.specs.Texts.{Fragment}
use Rattle.nester.specs.declared.Row.{Row}
use Rattle.nester.specs.Rows.{row_at}
use Rattle.rows.specs.declared.frames.Frame.{Frame}
use Rattle.rows.specs.declared.frames.Progress.{Progress}
use Rattle.rows.specs.Rows.{World}
use Rattle.rows.specs.Frames.{frame_of, came, between, StandingBy, Standing, Keeps}
use Rattle.replacing.specs.declared.Event.{Event}
use Rattle.replacing.specs.declared.Event.TheVariants.{Unbound, NoRoom, Asked}
use Rattle.replacing.specs.declared.Step.{Step}
use Rattle.replacing.specs.declared.Step.TheVariants.{At, Nested}
use Rattle.replacing.specs.declared.Matches.{Matches}
use Rattle.replacing.specs.Steps.{StepsLeft, StepsLeftIn}
use Rattle.replacing.proofs.StepLaws.{came_below}
use Rattle.rerendering.specs.Endings.{Shows, Rendered, Answers, Ended}
use Rattle.render_replace.specs.Turns.{AtTemplate, RowLeftIn, StepsEnd}
use Rattle.render_replace.proofs.StackLaws.{before_less}

-- where a row stands
pub stands_in : (W : World) (k : ℕ) (f : Frame) (out : List ℕ) (at : ℕ) → Standing W k f out at → (f.begin ≤ at) × (at ≤ length out)
stands_in W k f out at s = by f.filling s
  where
    by : (o : Option Progress) → StandingBy W k f out at o → (f.begin ≤ at) × (at ≤ length out)
    by None s = (s.begun.begins, s.begun.ends)
    by (Some p) s = (s.within.begun.begins, s.within.begun.ends)

-- what is kept up to a place is kept up to where the row's text begins, and so is what a change of the text keeps
module _ (k : ℕ) (frames frames' : List Frame) (out out' : List ℕ) (at : ℕ) (keeps : Keeps k frames frames' at out out') (low : (frame_of frames k).begin ≤ at) where
  pub keeps_row : Keeps k frames frames' (frame_of frames k).begin out out'
  keeps_row = record {
    frames_length = keeps.frames_length;
    frames_before = keeps.frames_before;
    begin = keeps.begin;
    out_length = keeps.out_length;
    out_before = before_less (frame_of frames k).begin at out out' low keeps.out_before;
  }

  pub keeps_again : (out'' : List ℕ) → length out'' ≡ length out' → take (frame_of frames' k).begin out'' ≡ take (frame_of frames' k).begin out'
      → Keeps k frames frames' (frame_of frames k).begin out out''
  keeps_again out'' size same = record {
    frames_length = keeps.frames_length;
    frames_before = keeps.frames_before;
    begin = keeps.begin;
    out_length = size ∙ keeps.out_length;
    out_before = (rw keeps.begin at same) ∙ before_less (frame_of frames k).begin at out out' low keeps.out_before;
  }

-- a row whose steps were taken
module _ (m : Matches) (xs : List Fragment) (kind : ℕ) (parses : List Parse) (k : ℕ) (frames : List Frame) (out : List ℕ) (at : ℕ) (frames' : List Frame) (out' : List ℕ)
    (keeps : Keeps k frames frames' at out out') where
  -- every fragment is passed
  pub at_end : (behind : ℕ) → StepsLeft m xs k frames out at frames' out' (Ok (At behind)) → (W : World) → AtTemplate W m xs kind parses k (frame_of frames k) out at
      → Shows W k (row_at m.rows.now k).bindings (frame_of frames' k) xs kind parses out' behind
  at_end behind s W p = let l = s.left W p.at_step in record {
    are_bindings = ap (λ (r : List Row). (row_at r k).bindings) p.at_step.shows.reads;
    are_fragments = p.at_step.fragments_are;
    is_kind = p.is_kind;
    is_parse = p.is_parse;
    passing = l.0;
    are_passed = l.1;
  }

  pub steps_nested : (j behind : ℕ) → StepsLeft m xs k frames out at frames' out' (Ok (Nested j behind))
      → StepsEnd m xs kind parses k frames out at frames' out' (Ok (Nested j behind))
  steps_nested j behind s = record { left = λ W p. s.left W p.at_step }

  pub steps_ended : (e : Event) (r t : Result Step Event) → StepsLeft m xs k frames out at frames' out' r → r ≡ Err e → t ≡ Err e
      → StepsEnd m xs kind parses k frames out at frames' out' t
  steps_ended e r t s h i = record { left = λ W p. rw i (by W e (rw h at (s.left W p.at_step))) }
    where
      by : (W : World) (e : Event) → StepsLeftIn W k frames out frames' out' (Err e) → RowLeftIn W k frames frames' out out' (Err e)
      by W Unbound s = s
      by W NoRoom s = s
      by W (Asked kind from to) s = absurd s

  -- the first rendering has ended
  module _ (behind : ℕ) (s : StepsLeft m xs k frames out at frames' out' (Ok (At behind))) (out'' : List ℕ) (r : Result ℕ Event)
      (e : Ended (row_at m.rows.now k).bindings (frame_of frames' k) xs kind parses out' behind out'' r) where
    answers_in : (W : World) → AtTemplate W m xs kind parses k (frame_of frames k) out at → Answers W k (frame_of frames' k) out' behind out'' r
    answers_in W p = e.answers W k (at_end behind s W p)

    pub steps_done : (last : ℕ) → r ≡ Ok last → StepsEnd m xs kind parses k frames out at frames' out'' (Ok (At last))
    steps_done last h = record {
      left = λ W p.
          let x : Rendered W k (frame_of frames' k) out'' last = (rw h at (answers_in W p)) in
          record {
            begins = omega (arith, x.begins, keeps.begin);
            ends = x.ends;
            is = x.is ∙ ap (λ (b : ℕ). Ok (between b last out'' ++ W.comments k)) keeps.begin;
          };
    }

    pub steps_asked : (v : Event) (t : Result Step Event) → r ≡ Err v → t ≡ Err v → StepsEnd m xs kind parses k frames out at frames' out'' t
    steps_asked v t h i = record { left = λ W p. rw i (by W p v (rw h at (answers_in W p))) }
      where
        by : (W : World) → AtTemplate W m xs kind parses k (frame_of frames k) out at → (v : Event) → Answers W k (frame_of frames' k) out' behind out'' (Err v)
            → RowLeftIn W k frames frames' out out'' (Err v)
        by W p Unbound x = absurd x
        by W p NoRoom x = omega (arith, keeps.begin, keeps.out_length)
        by W p (Asked kind from to) x =
            let b = (s.left W p.at_step).0.begun in let a = x.0 in
            record {
              is_kind = a.is_kind;
              begins = a.begins ∙ keeps.begin;
              rise = omega (arith, a.begins, a.stands, b.begins);
              fits = omega (arith, a.stands, b.ends, ap length x.1);
              ends = rw (a.stands, x.1, a.begins, ← keeps.begin) a.ends;
            }

-- where the row's text begins
pub template_low : (W : World) (m : Matches) (xs : List Fragment) (kind : ℕ) (parses : List Parse) (k : ℕ) (f : Frame) (out : List ℕ) (at : ℕ) → AtTemplate W m xs kind parses k f out at → f.begin ≤ at
template_low W m xs kind parses k f out at p = (stands_in W k f out at p.at_step.standing).0

-- how far a row can come
pub came_low : (W : World) (m : Matches) (xs : List Fragment) (kind : ℕ) (parses : List Parse) (k : ℕ) (f : Frame) (out : List ℕ) (at : ℕ) → AtTemplate W m xs kind parses k f out at
    → length xs ≤ 16384 → came f < 33556480
came_low W m xs kind parses k f out at p few = omega (arith, came_below W m xs k f out at p.at_step)
