-- Laws of the next fragment: what its text leaves, its prefix, and its captured text, which begins or is laid once more.
-- Assumes nothing.
use mathlib.Core.Path.{◌≡◌, sym, ap, subst, ◌∙◌}
use mathlib.Core.Bool.{Bool}
use mathlib.Core.List.{List, ◌++◌}
use Prim.Native.Nat.{ℕ, ◌+◌, ◌-◌, ◌*◌, ◌≤◌, ◌<◌}
use native.Mathlib.Omega.{arith}
use lib.ListN.{length, take}
use lib.Seq.{take-take}
use Rattle.std.specs.Prelude.{Option, Some, None, Result, Ok, Err}
use Rattle.std.proofs.lemmas.Option.{none-some}
use Rattle.words.specs.Buffer.{place_after, laid_if_room}
use Rattle.captures.specs.declared.Binding.{Binding}
use Rattle.nester.specs.declared.Row.{Row}
use Rattle.rendering.specs.Events as events
use Rattle.rendering.specs.Texts.{Fragment, fixed, captured, prefix, binding_at}
use Rattle.rendering.specs.Traces.{Trace, reach, ◌then◌, fragment_trace, stopped}
use Rattle.rendering.proofs.TraceLaws.{done_then_done, reach_done_then}
use Rattle.rows.specs.declared.frames.Span.{Span}
use Rattle.rows.specs.declared.frames.Progress.{Progress}
use Rattle.rows.specs.declared.frames.Frame.{Frame}
use Rattle.rows.specs.Rows.{World, binding_of, slot_filling, slot_hole}
use Rattle.rows.specs.Frames.{piece_passed, slot_begun as begun_at, text_in, between, Grows, SlotStands, Passing, Filling, StandingBy, Standing, Bursts, came, came_by}
use Rattle.rows.proofs.BetweenLaws.{between-same}
use Rattle.rows.proofs.StandLaws as stand
use Rattle.replacing.specs.Laying.{Short, Lays}
use Rattle.replacing.specs.Steps.{AtPiece, PieceLeftIn, PieceLeft, KeepsFrame}
use Rattle.replacing.specs.declared.Event.{Event}
use Rattle.replacing.specs.declared.Event.TheVariants.{Unbound, NoRoom}
use Rattle.replacing.proofs.LayLaws.{lays_put, lays_then}

-- ---- where a row stands, and how far it has come

pub came_none : (f : Frame) → f.filling ≡ None → came f ≡ 2048 * f.passed
came_none f h = ap (came_by f.passed) h

pub came_some : (f : Frame) (p : Progress) → f.filling ≡ Some p → came f ≡ 2048 * f.passed + (p.next + 1)
came_some f p h = ap (came_by f.passed) h

pub stands_passing : {W : World} {k : ℕ} {f : Frame} {out : List ℕ} {at : ℕ} → Passing W k f out at → Standing W k f out at
stands_passing {W} {k} {f} {out} {at} p = subst (StandingBy W k f out at) (sym p.none) p

pub stands_filling : {W : World} {k : ℕ} {f : Frame} {out : List ℕ} {at : ℕ} → Filling W k f out at → Standing W k f out at
stands_filling {W} {k} {f} {out} {at} p = subst (StandingBy W k f out at) (sym p.within.filling) p

-- ---- what is kept

-- bytes before a place, with texts behind it
kept_twice : (at n : ℕ) (d e out : List ℕ) → at ≤ n → take at e ≡ take at d → take n out ≡ take n e → take at out ≡ take at d
kept_twice at n d e out h a b = sym (take-take at n out h) ∙ ap (take at) b ∙ take-take at n e h ∙ a

-- two texts, of which the first fits
pub kept_lays : (f f' : Frame) (at n : ℕ) (d e out xs ys : List ℕ) (r r' : Option ℕ) → f'.begin ≡ f.begin → r ≡ Some n → Lays d at xs e r → Lays e n ys out r'
    → KeepsFrame f f' at d out
kept_lays f f' at n d e out xs ys r r' b is l m =
    let g : Grows d e at n xs = subst (Lays d at xs e) is l in let k = lays_keep e n ys out r' m in
    record { begin = b; out_length = k.0 ∙ g.size; out_before = kept_twice at n d e out g.rise g.same k.1 }
  where
    lays_keep : (e : List ℕ) (n : ℕ) (ys out : List ℕ) (r : Option ℕ) → Lays e n ys out r → (length out ≡ length e) × (take n out ≡ take n e)
    lays_keep e n ys out (Some m) g = (g.size, g.same)
    lays_keep e n ys out None s = (s.size, s.same)

-- ---- a text is laid

module _ {W : World} {row : Row} {k : ℕ} {x : Fragment} {f : Frame} {out : List ℕ} {at : ℕ} (p : AtPiece W row k x f out at) where
  text_grows : (out' bs : List ℕ) (n : ℕ) → fragment_trace (slot_hole W k) x ≡ Ok bs
      → ((slot : ℕ) (b : Bool) → slot < 8 → x ≡ captured slot b → text_in f slot ≡ None → ⊥)
      → Grows out out' at n bs → PieceLeftIn W k f out at (piece_passed f) out' (Ok n)
  text_grows out' bs n t this g =
      let q = stand.piece_passes p.passing x p.others p.here out' n bs t g this in
      (stands_passing q, omega (arith, came_none f p.passing.none, came_none (piece_passed f) q.none), g.rise)

  text_short : (out' bs : List ℕ) → fragment_trace (slot_hole W k) x ≡ Ok bs → Short out out' at bs → Bursts W k f out
  text_short out' bs t s = omega (arith, s.short, stand.passing_reaches p.passing x p.others p.here, ap reach t)

-- ---- bytes

module _ (row : Row) (k : ℕ) (x : Fragment) (bs : List ℕ) (is : x ≡ fixed bs) (f : Frame) (out : List ℕ) (at : ℕ) (out' : List ℕ) (laid : out' ≡ laid_if_room out at bs) where
  pub fixed_laid : (n : ℕ) → place_after (length out) at (length bs) ≡ Some n → PieceLeft row k x f out at (piece_passed f) out' (Ok n)
  fixed_laid n e = record {
    left = λ W p. text_grows p out' bs n (ap (fragment_trace (slot_hole W k)) is)
        (λ slot b m q. absurd (let z : ◌≡◌ {A = ℕ} 0 1 = cc in omega arith)) (lays_put out at bs (Some n) out' (sym e) laid);
  }

  pub fixed_short : (r : Result ℕ Event) → r ≡ Err NoRoom → place_after (length out) at (length bs) ≡ None → PieceLeft row k x f out at f out' r
  fixed_short r e h = record {
    left = λ W p. rw e (text_short p out' bs (ap (fragment_trace (slot_hole W k)) is) (lays_put out at bs None out' (sym h) laid));
  }

-- ---- a placeholder

module _ {W : World} {row : Row} {k slot : ℕ} {b : Bool} {f : Frame} {out : List ℕ} {at : ℕ} (p : AtPiece W row k (captured slot b) f out at) where
  same_binding : binding_of W k slot ≡ binding_at slot row.bindings
  same_binding = ap (λ (r : Row). binding_at slot r.bindings) p.reads

  -- where its text stands
  pub stands_at : (s : Span) → slot < 8 → text_in f slot ≡ Some s → SlotStands W k slot (Some s) out at
  stands_at s low e = subst (λ (t : Option Span). SlotStands W k slot t out at) e (p.passing.begun.slots slot low)

  module _ (c : Binding) (bound : binding_at slot row.bindings ≡ Some c) where
    trace : slot_hole W k slot b ≡ (Ok (prefix c b) then slot_filling W k slot)
    trace = stand.hole_bound W k slot b c (same_binding ∙ bound)

    prefix_bursts : (out' : List ℕ) → Short out out' at (prefix c b) → Bursts W k f out
    prefix_bursts out' s =
        omega (arith, s.short, stand.passing_reaches p.passing (captured slot b) p.others p.here, ap reach trace, reach_done_then (prefix c b) (slot_filling W k slot))

    begins : (out' : List ℕ) (n : ℕ) → slot < 8 → Grows out out' at n (prefix c b) → PieceLeftIn W k f out at (begun_at k slot c.start n f) out' (Ok n)
    begins out' n low g =
        let q = stand.slot_begins W k slot b p.others c f out out' at n p.passing p.here low p.inside (same_binding ∙ bound) g in
        (stands_filling q, omega (arith, came_none f p.passing.none), g.rise)

    -- its text was rendered before
    module _ (s : Span) (low : slot < 8) (there : text_in f slot ≡ Some s) (mid : List ℕ) (m : ℕ) (g : Grows out mid at m (prefix c b)) where
      once_more : slot_hole W k slot b ≡ Ok (prefix c b ++ between s.start s.end mid)
      once_more =
          let t = stands_at s low there in
          let same : between s.start s.end mid ≡ between s.start s.end out = between-same s.start s.end at out mid t.1 g.same in
          trace ∙ ap (λ (u : Trace). Ok (prefix c b) then u) (t.2 ∙ ap (λ (l : List ℕ). Ok l) (sym same)) ∙ done_then_done (prefix c b) (between s.start s.end mid)

      again_grows : (out' : List ℕ) (n : ℕ) → Grows mid out' m n (between s.start s.end mid) → PieceLeftIn W k f out at (piece_passed f) out' (Ok n)
      again_grows out' n h =
          text_grows p out' (prefix c b ++ between s.start s.end mid) n once_more
          (λ other r l q e. let z : other ≡ slot = cc in none-some s (sym e ∙ ap (text_in f) z ∙ there))
          (lays_then out mid out' at m (prefix c b) (between s.start s.end mid) (Some n) g h)

      again_bursts : (out' : List ℕ) → Short mid out' m (between s.start s.end mid) → Bursts W k f out
      again_bursts out' h =
          text_short p out' (prefix c b ++ between s.start s.end mid) once_more
          (lays_then out mid out' at m (prefix c b) (between s.start s.end mid) None g h)

module _ (row : Row) (k slot : ℕ) (b : Bool) (f : Frame) (out : List ℕ) (at : ℕ) where
  pub hole_unbound : (r : Result ℕ Event) → binding_at slot row.bindings ≡ None → r ≡ Err Unbound → PieceLeft row k (captured slot b) f out at f out r
  hole_unbound r h e = record {
    left = λ W p. rw e (
        let n : (at - f.begin) + 0 ≡ at - f.begin = omega arith in
        stand.passing_stops p.passing (captured slot b) p.others p.here 0 events.Unbound (stand.hole_unbound W k slot b (same_binding p ∙ h))
        ∙ ap (λ (m : ℕ). stopped m events.Unbound) n
        );
  }

  module _ (c : Binding) (bound : binding_at slot row.bindings ≡ Some c) where
    pub prefix_short : (out' : List ℕ) (r : Result ℕ Event) → r ≡ Err NoRoom → Short out out' at (prefix c b) → PieceLeft row k (captured slot b) f out at f out' r
    prefix_short out' r e s = record { left = λ W p. rw e (prefix_bursts p c bound out' s) }

    pub slot_begun : (out' : List ℕ) (n : ℕ) → slot < 8 → Grows out out' at n (prefix c b)
        → PieceLeft row k (captured slot b) f out at (begun_at k slot c.start n f) out' (Ok n)
    slot_begun out' n low g = record { left = λ W p. begins p c bound out' n low g }

    module _ (s : Span) (low : slot < 8) (there : text_in f slot ≡ Some s) (mid : List ℕ) (m : ℕ) (g : Grows out mid at m (prefix c b)) (out' : List ℕ) where
      pub laid_again : (n : ℕ) → Grows mid out' m n (between s.start s.end mid) → PieceLeft row k (captured slot b) f out at (piece_passed f) out' (Ok n)
      laid_again n h = record {
        left = λ W p. again_grows p c bound s low there mid m g out' n h;
      }

      pub again_short : (r : Result ℕ Event) → r ≡ Err NoRoom → Short mid out' m (between s.start s.end mid) → PieceLeft row k (captured slot b) f out at f out' r
      again_short r e h = record {
        left = λ W p. rw e (again_bursts p c bound s low there mid m g out' h);
      }
