-- Laws of one step after the other: which step comes next, what it leaves, and what all of them leave.
-- Assumes nothing.
use mathlib.Core.Path.{◌≡◌, refl, sym, ap, subst, ◌∙◌}
use mathlib.Core.Bool.{false, ◌||◌}
use mathlib.Core.List.{List, [], ◌∷◌}
use Prim.Native.Nat.{ℕ, suc, ◌+◌, ◌-◌, ◌*◌, ◌≤◌, ◌<◌}
use native.Mathlib.Omega.{arith}
use lib.Dec.{ltb}
use lib.ListN.{length, take, drop, get_or, set, length-drop}
use Rattle.std.proofs.lemmas.List.{get_or_default}
use lib.Seq.{drop-cons, take-take}
use borrow.Author.Tests.{ltb-false}
use Rattle.std.specs.Prelude.{Option, Some, None, is_some, Result, Ok, Err}
use Rattle.words.proofs.TestLaws.{or_neither}
use Rattle.nester.specs.declared.Row.{Row}
use Rattle.nester.specs.Rows.{no_row, row_at}
use Rattle.rendering.specs.Events as events
use Rattle.rendering.specs.Texts.{Fragment, fixed}
use Rattle.rendering.specs.Traces.{stopped}
use Rattle.rows.specs.declared.frames.Progress.{Progress}
use Rattle.rows.specs.declared.frames.Frame.{Frame}
use Rattle.rows.specs.Rows.{World}
use Rattle.rows.specs.Frames.{frame_of, came, Passing, Filling, StandingBy, Keeps}
use Rattle.replacing.specs.Steps.{AtPiece, PieceLeftIn, PieceLeft, KeepsFrame, AtCaptured, CapturedLeftIn, CapturedLeft, AtStep, StepLeftIn, StepLeft, StepsLeftIn, StepsLeft}
use Rattle.replacing.specs.declared.Event.{Event}
use Rattle.replacing.specs.declared.Event.TheVariants.{Unbound, NoRoom, Asked}
use Rattle.replacing.specs.declared.Step.{Step}
use Rattle.replacing.specs.declared.Step.TheVariants.{At, Nested}
use Rattle.replacing.specs.declared.Matches.{Matches}
use Rattle.replacing.proofs.PieceLaws.{came_none, came_some, stands_passing}
use Rattle.replacing.proofs.CapturedLaws.{frame_here, frame_read, keeps_one}

-- ---- where a row stands

module _ {W : World} {m : Matches} {xs : List Fragment} {k : ℕ} {f : Frame} {out : List ℕ} {at : ℕ} (p : AtStep W m xs k f out at) where
  filling_is : (q : Progress) → f.filling ≡ Some q → Filling W k f out at
  filling_is q e = subst (StandingBy W k f out at) e p.standing

  passing_is : f.filling ≡ None → Passing W k f out at
  passing_is e = subst (StandingBy W k f out at) e p.standing

module _ (W : World) (m : Matches) (xs : List Fragment) (k : ℕ) (f : Frame) (out : List ℕ) (at : ℕ) (p : AtStep W m xs k f out at) where
  pub captured_at : (q : Progress) → f.filling ≡ Some q → AtCaptured W m k f out at
  captured_at q e = record { shows = p.shows; filling = filling_is p q e }

  pub captured_low : (q : Progress) → f.filling ≡ Some q → f.passed < length xs
  captured_low q e =
      let w = (filling_is p q e).within in
      omega (arith, ap length p.fragments_are, sym (length-drop f.passed (W.fragments k)) ∙ ap length w.here)

  piece_at : (x : Fragment) → f.filling ≡ None → f.passed < length xs → x ≡ get_or xs f.passed (fixed []) → AtPiece W (row_at m.rows.now k) k x f out at
  piece_at x e low h = record {
    reads = ap (λ (l : List Row). row_at l k) p.shows.reads;
    inside = p.shows.inside;
    passing = passing_is p e;
    others = drop (suc f.passed) xs;
    here = ap (drop f.passed) p.fragments_are ∙ drop-cons xs f.passed (fixed []) low ∙ ap (λ (y : Fragment). y ∷ drop (suc f.passed) xs) (sym h);
  }

  -- how far it can come
  pub came_below : came f < 2048 * (length xs + 1)
  came_below = by_filling f.filling refl
    where
      by_filling : (o : Option Progress) → f.filling ≡ o → came f < 2048 * (length xs + 1)
      by_filling None e = omega (arith, came_none f e, (passing_is p e).begun.few, ap length p.fragments_are)
      by_filling (Some q) e =
          let g = filling_is p q e in
          let same : g.progress ≡ q = let a = g.within.filling in cc in
          let next : g.progress.next ≡ q.next = ap (λ (x : Progress). x.next) same in
          omega (arith, came_some f q e, captured_low q e, g.inside, p.shows.few, next)

-- ---- what one step leaves

module _ (m : Matches) (xs : List Fragment) (k : ℕ) (frames : List Frame) (out : List ℕ) (at : ℕ) (frames' : List Frame) (out' : List ℕ) where
  pub captured_step : (q : Progress) (r : Result Step Event) → (frame_of frames k).filling ≡ Some q → CapturedLeft m k frames out at frames' out' r
      → StepLeft m xs k frames out at frames' out' r
  captured_step q r e l = record { left = λ W p. by_result W p r (l.left W (captured_at W m xs k (frame_of frames k) out at p q e)) }
    where
      by_result : (W : World) → AtStep W m xs k (frame_of frames k) out at → (r : Result Step Event) → CapturedLeftIn W k frames out at frames' out' r
          → StepLeftIn W k frames out at frames' out' r
      by_result W p (Ok (At n)) l =
          let f = frame_of frames k in let g = filling_is p q e in
          let same : g.progress ≡ q = let a = g.within.filling in cc in
          let next : g.progress.next ≡ q.next = ap (λ (x : Progress). x.next) same in (
            stands_passing l.0,
            omega (arith, came_some f q e, came_none (frame_of frames' k) l.0.none, l.1, g.inside, p.shows.few, next),
            l.2,
          )
      by_result W p (Ok (Nested j n)) l = l
      by_result W p (Err Unbound) l = absurd l
      by_result W p (Err NoRoom) l = l
      by_result W p (Err (Asked kind from to)) l = absurd l

-- the fragment of a row that is read, with its frame
module _ (m : Matches) (xs : List Fragment) (k : ℕ) (frames : List Frame) (out : List ℕ) (at : ℕ) (d : Frame) (e : Row) (x : Fragment) (here : k < length frames)
    (none : (get_or frames k d).filling ≡ None) (low : (frame_of frames k).filling ≡ None → (frame_of frames k).passed < length xs)
    (next : x ≡ get_or xs (get_or frames k d).passed (fixed [])) where
  read : get_or frames k d ≡ frame_of frames k
  read = frame_read frames k d here

  none_at : (frame_of frames k).filling ≡ None
  none_at = ap (λ (f : Frame). f.filling) (sym read) ∙ none

  pub next_at : (W : World) → AtStep W m xs k (frame_of frames k) out at → AtPiece W (get_or m.rows.now k e) k x (get_or frames k d) out at
  next_at W p =
      let row : get_or m.rows.now k e ≡ row_at m.rows.now k =
      get_or_default m.rows.now k e no_row (omega (arith, ap length p.shows.reads, p.shows.inside)) in
      rw (read, row) (piece_at W m xs k (frame_of frames k) out at p x none_at (low none_at) (next ∙ ap (λ (f : Frame). get_or xs f.passed (fixed [])) read))

  module _ (f' : Frame) (frames' : List Frame) (out' : List ℕ) (r : Result ℕ Event) (l : PieceLeft (get_or m.rows.now k e) k x (get_or frames k d) out at f' out' r)
      (is : frames' ≡ set frames k f') where
    left_in : (W : World) → AtStep W m xs k (frame_of frames k) out at → PieceLeftIn W k (frame_of frames k) out at f' out' r
    left_in W p = subst (λ (f : Frame). PieceLeftIn W k f out at f' out' r) read (l.left W (next_at W p))

    pub piece_step : (n : ℕ) → r ≡ Ok n → StepLeft m xs k frames out at frames' out' (Ok (At n))
    piece_step n q =
        let there : frame_of frames' k ≡ f' = ap (λ (y : List Frame). frame_of y k) is ∙ frame_here frames k f' here in
        record { left = λ W p. rw there (rw q at (left_in W p)) }

    pub piece_ends : (v : Event) (t : Result Step Event) → r ≡ Err v → t ≡ Err v → StepLeft m xs k frames out at frames' out' t
    piece_ends v t h i = record { left = λ W p. rw i (by_event W p v (rw h at (left_in W p))) }
      where
        by_event : (W : World) → AtStep W m xs k (frame_of frames k) out at → (v : Event) → PieceLeftIn W k (frame_of frames k) out at f' out' (Err v)
            → StepLeftIn W k frames out at frames' out' (Err v)
        by_event W p Unbound l = let b = (passing_is p none_at).begun in record { place = at; begins = b.begins; fits = b.ends; ends = l }
        by_event W p NoRoom l = l
        by_event W p (Asked kind from to) l = absurd l

pub keeps_piece : (k : ℕ) (frames frames' : List Frame) (at : ℕ) (out out' : List ℕ) (d f' : Frame) → k < length frames → KeepsFrame (get_or frames k d) f' at out out'
    → frames' ≡ set frames k f' → Keeps k frames frames' at out out'
keeps_piece k frames frames' at out out' d f' h s e =
    keeps_one k frames frames' at out out' f' h (s.begin ∙ ap (λ (f : Frame). f.begin) (frame_read frames k d h)) s.out_length s.out_before e

-- ---- one step behind another

-- what two steps keep
pub keeps_trans : (k at at' : ℕ) (f g h : List Frame) (x y z : List ℕ) → at ≤ at' → Keeps k f g at x y → Keeps k g h at' y z → Keeps k f h at x z
keeps_trans k at at' f g h x y z l a b = record {
  frames_length = b.frames_length ∙ a.frames_length;
  frames_before = b.frames_before ∙ a.frames_before;
  begin = b.begin ∙ a.begin;
  out_length = b.out_length ∙ a.out_length;
  out_before = sym (take-take at at' z l) ∙ ap (take at) b.out_before ∙ take-take at at' y l ∙ a.out_before;
}

-- the steps taken so far: every world in which row k stood at the first place has it stand at the present one
pub record Went (m : Matches) (xs : List Fragment) (k : ℕ) (frames₀ : List Frame) (out₀ : List ℕ) (at₀ : ℕ) (frames : List Frame) (out : List ℕ) (at : ℕ) : Type 0 where
  pub keeps : Keeps k frames₀ frames at₀ out₀ out
  pub later : at₀ ≤ at
  pub rise : came (frame_of frames₀ k) ≤ came (frame_of frames k)
  pub still : (W : World) → AtStep W m xs k (frame_of frames₀ k) out₀ at₀ → AtStep W m xs k (frame_of frames k) out at

module _ (m : Matches) (xs : List Fragment) (k : ℕ) (frames₀ : List Frame) (out₀ : List ℕ) (at₀ : ℕ) where
  pub went_none : Went m xs k frames₀ out₀ at₀ frames₀ out₀ at₀
  went_none = record {
    keeps = record { frames_length = refl; frames_before = refl; begin = refl; out_length = refl; out_before = refl };
    later = omega arith;
    rise = omega arith;
    still = λ W p. p;
  }

  module _ (frames : List Frame) (out : List ℕ) (at : ℕ) (g : Went m xs k frames₀ out₀ at₀ frames out at) where
    module _ (W : World) (p : AtStep W m xs k (frame_of frames₀ k) out₀ at₀) (frames' : List Frame) (out' : List ℕ) (n : ℕ)
        (s : StepLeft m xs k frames out at frames' out' (Ok (At n))) where
      pub went_on : Keeps k frames frames' at out out' → Went m xs k frames₀ out₀ at₀ frames' out' n
      went_on keeps =
          let t = s.left W (g.still W p) in
          record {
            keeps = keeps_trans k at₀ at frames₀ frames frames' out₀ out out' g.later g.keeps keeps;
            later = omega (arith, g.later, t.2);
            rise = omega (arith, g.rise, t.1);
            still = λ U q. record { shows = q.shows; fragments_are = q.fragments_are; standing = (s.left U (g.still U q)).0 };
          }

      pub went_less : 2048 * (length xs + 1) - came (frame_of frames' k) < 2048 * (length xs + 1) - came (frame_of frames k)
      went_less =
          let t = s.left W (g.still W p) in
          omega (arith, t.1, came_below W m xs k (frame_of frames k) out at (g.still W p))

    -- a step that ends them
    module _ (frames' : List Frame) (out' : List ℕ) where
      pub steps_nested : (j n : ℕ) → StepLeft m xs k frames out at frames' out' (Ok (Nested j n)) → StepsLeft m xs k frames₀ out₀ at₀ frames' out' (Ok (Nested j n))
      steps_nested j n s = record {
        left = λ W p.
            let t = s.left W (g.still W p) in
            record { waiting = t.waiting; passing = t.passing; fresh = t.fresh; begin = t.begin; rise = omega (arith, t.rise, g.rise) };
      }

      pub steps_event : (e : Event) (r t : Result Step Event) → StepLeft m xs k frames out at frames' out' r → r ≡ Err e → t ≡ Err e → StepsLeft m xs k frames₀ out₀ at₀ frames' out' t
      steps_event e r t s h i = record { left = λ W p. rw i (by_event W e (rw h at (s.left W (g.still W p)))) }
        where
          by_event : (W : World) (e : Event) → StepLeftIn W k frames out at frames' out' (Err e) → StepsLeftIn W k frames₀ out₀ frames' out' (Err e)
          by_event W Unbound s = record {
            place = s.place;
            begins = omega (arith, s.begins, g.keeps.begin);
            fits = omega (arith, s.fits, g.keeps.out_length);
            ends = s.ends ∙ ap (λ (n : ℕ). stopped (s.place - n) events.Unbound) g.keeps.begin;
          }
          by_event W NoRoom s = omega (arith, g.keeps.begin, g.keeps.out_length)
          by_event W (Asked kind from to) s = absurd s

    pub steps_end : (d : Frame) (count : ℕ) → k < length frames → count ≡ length xs
        → (is_some (get_or frames k d).filling || ltb (get_or frames k d).passed count) ≡ false → StepsLeft m xs k frames₀ out₀ at₀ frames out (Ok (At at))
    steps_end d count here e h =
        let f = frame_of frames k in let read = frame_read frames k d here in
        let n = or_neither (is_some (get_or frames k d).filling) (ltb (get_or frames k d).passed count) h in
        let none : f.filling ≡ None = none_of f.filling (ap (λ (x : Frame). is_some x.filling) (sym read) ∙ n.0) in
        let all : length xs ≤ f.passed = omega (arith, e, ap (λ (x : Frame). x.passed) read, ltb-false (get_or frames k d).passed count n.1) in
        record { left = λ W p. let q = g.still W p in let b = passing_is q none in (b, omega (arith, all, b.begun.few, ap length q.fragments_are)) }
      where
        none_of : (o : Option Progress) → is_some o ≡ false → o ≡ None
        none_of None e = refl
        none_of (Some q) e = absurd (let z : ◌≡◌ {A = ℕ} 0 1 = cc in omega arith)
