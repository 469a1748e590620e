-- Laws of a captured text: what the file's bytes up to the next nested row leave, and those behind the last.
-- Assumes nothing.
use mathlib.Core.Path.{◌≡◌, refl, sym, ap, subst, ◌∙◌}
use mathlib.Core.Bool.{true, false}
use mathlib.Core.List.{List}
use Prim.Native.Nat.{ℕ, ◌+◌, ◌≤◌, ◌<◌}
use native.Mathlib.Omega.{arith}
use lib.ListN.{length, take, get_or, set, length-set}
use lib.Seq.{get_or-set_same, get_or-set_other, take-set-le}
use Rattle.std.proofs.lemmas.List.{get_or_default}
use Rattle.std.specs.Prelude.{Some, None, Result, Ok, Err}
use Rattle.syntax.specs.Accessors.{range_of, element_at}
use Rattle.syntax.specs.Views.{tree_of}
use Rattle.words.specs.Buffer.{place_after, laid_if_room}
use Rattle.words.specs.Texts.{part}
use Rattle.words.proofs.TestLaws.{low_or, never}
use Rattle.rendering.specs.Texts.{binding_at}
use Rattle.rendering.specs.Traces.{Trace, reach, ◌then◌}
use Rattle.rendering.proofs.RoomLaws.{then_assoc}
use Rattle.rendering.proofs.TraceLaws.{reach_done_then}
use Rattle.nester.specs.declared.Row.{Row}
use Rattle.nester.specs.Rows.{row_at}
use Rattle.rows.specs.declared.frames.Progress.{Progress}
use Rattle.rows.specs.declared.frames.Frame.{Frame}
use Rattle.rows.specs.Rows.{World, count_of, end_in, is_nested, row_trace}
use Rattle.rows.specs.Frames.{frame_at, frame_of, row_passed, slot_ended, Within, rest_from, Keeps}
use Rattle.rows.proofs.RowLaws.{skip_to, fill_nested, fill_end}
use Rattle.rows.proofs.StandLaws.{enters_passing, within_reaches, waits, slot_ends}
use Rattle.replacing.specs.Steps.{AtCaptured, CapturedLeft}
use Rattle.replacing.specs.declared.Event.{Event}
use Rattle.replacing.specs.declared.Event.TheVariants.{NoRoom}
use Rattle.replacing.specs.declared.Step.{Step}
use Rattle.replacing.specs.declared.Step.TheVariants.{At, Nested}
use Rattle.replacing.specs.declared.Matches.{Matches}
use Rattle.replacing.proofs.LayLaws.{lays_put}
use Rattle.replacing.proofs.PieceLaws.{came_some}

-- ---- a frame that is written

pub frame_here : (frames : List Frame) (k : ℕ) (f : Frame) → k < length frames → frame_of (set frames k f) k ≡ f
frame_here frames k f h = get_or-set_same frames k f (frame_at 0) h

pub frame_there : (frames : List Frame) (k j : ℕ) (f : Frame) → (k ≡ j → ⊥) → frame_of (set frames j f) k ≡ frame_of frames k
frame_there frames k j f h = get_or-set_other frames j k f (frame_at 0) h

-- a frame read at another default
pub frame_read : (frames : List Frame) (k : ℕ) (d : Frame) → k < length frames → get_or frames k d ≡ frame_of frames k
frame_read frames k d h = get_or_default frames k d (frame_at 0) h

-- ---- what is kept

-- one frame is written
pub keeps_one : (k : ℕ) (frames frames' : List Frame) (at : ℕ) (out out' : List ℕ) (f : Frame) → k < length frames → f.begin ≡ (frame_of frames k).begin
    → length out' ≡ length out → take at out' ≡ take at out → frames' ≡ set frames k f → Keeps k frames frames' at out out'
keeps_one k frames frames' at out out' f here begin s t e = record {
  frames_length = ap length e ∙ length-set frames k f;
  frames_before = ap (take k) e ∙ take-set-le k frames k f (omega arith);
  begin = ap (λ (l : List Frame). (frame_of l k).begin) e ∙ ap (λ (x : Frame). x.begin) (frame_here frames k f here) ∙ begin;
  out_length = s;
  out_before = t;
}

-- ---- the next row

module _ (m : Matches) (k : ℕ) (frames : List Frame) (out : List ℕ) (at : ℕ) (q : Progress) (here : k < length frames) (filling : (frame_of frames k).filling ≡ Some q)
    (out' bs : List ℕ) (laid : out' ≡ laid_if_room out at bs) where
  module _ {W : World} (p : AtCaptured W m k (frame_of frames k) out at) where
    same : p.filling.progress ≡ q
    same = let a = p.filling.within.filling in let b = filling in cc

    within : Within W k (frame_of frames k) out at q (rest_from W k q.from q.next q.slot)
    within = subst (λ (x : Progress). Within W k (frame_of frames k) out at x (rest_from W k x.from x.next x.slot)) same p.filling.within

    behind : k < q.next
    behind = subst (λ (x : Progress). k < x.next) same p.filling.behind

    low : q.next ≤ count_of W
    low = subst (λ (x : Progress). x.next ≤ count_of W) same p.filling.inside

    nested_as : (i : ℕ) → is_nested m.rows.now k q.slot i ≡ is_nested W.rows k q.slot i
    nested_as i = ap (λ (l : List Row). is_nested l k q.slot i) (sym p.shows.reads)

  -- none is left
  module _ (free : (i : ℕ) → q.next ≤ i → i < (row_at m.rows.now k).end → is_nested m.rows.now k q.slot i ≡ false)
      (is : bs ≡ part m.text.now q.from (end_in (binding_at q.slot (row_at m.rows.now k).bindings))) where
    rest_is : {W : World} → AtCaptured W m k (frame_of frames k) out at → rest_from W k q.from q.next q.slot ≡ Ok bs
    rest_is {W} p =
        let s = q.slot in let end = (row_at m.rows.now k).end in
        fill_end W k s (end_in (binding_at s (row_at W.rows k).bindings)) q.from q.next (low p)
        (λ n l h. low_or n end (λ b. sym (nested_as p n) ∙ free n l b)
        (λ b. never (is_nested W.rows k s n) (λ t. let z : n < end = p.shows.nested s n h t in omega arith)))
        ∙ ap (λ (x : List ℕ). Ok (part x q.from (end_in (binding_at s (row_at W.rows k).bindings)))) p.shows.file
        ∙ ap (λ (x : List Row). Ok (part m.text.now q.from (end_in (binding_at s (row_at x k).bindings)))) p.shows.reads
        ∙ ap (λ (x : List ℕ). Ok x) (sym is)

    pub ends : (n : ℕ) (frames' : List Frame) (d f' : Frame) → place_after (length out) at (length bs) ≡ Some n → f' ≡ slot_ended q n (get_or frames k d)
        → frames' ≡ set frames k f' → CapturedLeft m k frames out at frames' out' (Ok (At n))
    ends n frames' d f' h t e =
        let g = lays_put out at bs (Some n) out' (sym h) laid in let f = frame_of frames k in
        let is : f' ≡ slot_ended q n f = t ∙ ap (slot_ended q n) (frame_read frames k d here) in
        let there : frame_of frames' k ≡ slot_ended q n f = ap (λ (l : List Frame). frame_of l k) e ∙ frame_here frames k f' here ∙ is in
        record {
          left = λ W p. rw there (slot_ends (within p) out' n bs (rest_is p) g, refl, g.rise);
        }

    pub rest_short : (r : Result Step Event) → r ≡ Err NoRoom → place_after (length out) at (length bs) ≡ None → CapturedLeft m k frames out at frames out' r
    rest_short r e h =
        let s = lays_put out at bs None out' (sym h) laid in
        record { left = λ W p. rw e (omega (arith, s.short, within_reaches (within p), ap reach (rest_is p))) }

  -- row j is the next
  module _ (j : ℕ) (from : q.next ≤ j) (before : j < (row_at m.rows.now k).end) (nested : is_nested m.rows.now k q.slot j ≡ true)
      (free : (i : ℕ) → q.next ≤ i → i < j → is_nested m.rows.now k q.slot i ≡ false)
      (is : bs ≡ part m.text.now q.from (range_of (element_at (row_at m.rows.now j).node (tree_of m.tree))).start) where
    module _ {W : World} (p : AtCaptured W m k (frame_of frames k) out at) where
      inside : j < count_of W
      inside = omega (arith, p.shows.last)

      after : Trace
      after = row_trace W j then rest_from W k (W.end_of j) (j + 1) q.slot

      left_is : rest_from W k q.from q.next q.slot ≡ (Ok bs then after)
      unfolding after
      left_is =
          let s = q.slot in let to = end_in (binding_at s (row_at W.rows k).bindings) in let start = W.start_of j in
          skip_to W k s to q.from q.next j from (omega (arith, inside)) (λ n l h. sym (nested_as p n) ∙ free n l h)
          ∙ fill_nested W k s to q.from j inside (sym (nested_as p j) ∙ nested)
          ∙ then_assoc (Ok (part W.file q.from start)) (row_trace W j) (rest_from W k (W.end_of j) (j + 1) s)
          ∙ ap (λ (x : List ℕ). Ok (part x q.from start) then (row_trace W j then rest_from W k (W.end_of j) (j + 1) s)) p.shows.file
          ∙ ap (λ (x : ℕ). Ok (part m.text.now q.from x) then (row_trace W j then rest_from W k (W.end_of j) (j + 1) s)) (p.shows.starts j inside)
          ∙ ap (λ (x : List ℕ). Ok x then (row_trace W j then rest_from W k (W.end_of j) (j + 1) s)) (sym is)

    pub before_short : (r : Result Step Event) → r ≡ Err NoRoom → place_after (length out) at (length bs) ≡ None → CapturedLeft m k frames out at frames out' r
    before_short r e h =
        let s = lays_put out at bs None out' (sym h) laid in
        record {
          left = λ W p. rw e (omega (arith, s.short, within_reaches (within p), ap reach (left_is p), reach_done_then bs (after p)));
        }

    pub nests : (n to : ℕ) (frames' : List Frame) (d f' g' : Frame) → k < q.next → place_after (length out) at (length bs) ≡ Some n → j < length frames
        → to ≡ (range_of (element_at (row_at m.rows.now j).node (tree_of m.tree))).end → f' ≡ row_passed q j to (get_or frames k d) → g' ≡ frame_at n
        → frames' ≡ set (set frames k f') j g' → CapturedLeft m k frames out at frames' out' (Ok (Nested j n))
    unfolding after
    nests n to frames' d f' g' next h high t u v e =
        let g = lays_put out at bs (Some n) out' (sym h) laid in let f = frame_of frames k in let mid = set frames k f' in
        let less : k < j = omega arith in
        let is : f' ≡ row_passed q j to f = u ∙ ap (row_passed q j to) (frame_read frames k d here) in
        let at_k : frame_of frames' k ≡ row_passed q j to f =
        ap (λ (l : List Frame). frame_of l k) e ∙ frame_there mid k j g' (λ z. omega arith) ∙ frame_here frames k f' here ∙ is in
        let at_j : frame_of frames' j ≡ frame_at n =
        ap (λ (l : List Frame). frame_of l j) e ∙ frame_here mid j g' (omega (arith, length-set frames k f')) ∙ v in
        record {
          left = λ W p.
              let end : W.end_of j ≡ to = p.shows.ends j (inside p) ∙ sym t in
              record {
                waiting = rw at_k (rw end at (waits (within p) j out' n bs (left_is p) g less (inside p) (sym (nested_as p j) ∙ nested)));
                passing = rw at_j (enters_passing W j n out' g.ends);
                fresh = rw at_j refl;
                begin = rw at_j refl;
                rise = rw at_k (omega (arith, came_some f q filling));
              };
        }

-- row k is before the next one
pub before_next : (W : World) (m : Matches) (k : ℕ) (f : Frame) (out : List ℕ) (at : ℕ) (q : Progress) → AtCaptured W m k f out at → f.filling ≡ Some q → k < q.next
before_next W m k f out at q p e =
    let same : p.filling.progress ≡ q = let a = p.filling.within.filling in cc in
    subst (λ (x : Progress). k < x.next) same p.filling.behind
