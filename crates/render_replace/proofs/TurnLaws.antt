-- Laws of a row's turn: what its steps leave, and where rendering goes on.
-- Assumes nothing.
use mathlib.Core.Path.{◌≡◌, refl, sym, ap, subst, ◌∙◌}
use mathlib.Core.Bool.{Bool, true, false, cond}
use mathlib.Core.List.{List, []}
use Prim.Native.Nat.{ℕ, ◌+◌, ◌-◌, ◌≤◌, ◌<◌}
use native.Mathlib.Omega.{arith}
use lib.ListN.{length, take, length-append}
use borrow.Author.Tests.{eq-eqb, ne_eqb}
use Rattle.words.proofs.TestLaws.{same_or}
use Rattle.std.specs.Prelude.{Some, None, Result, Ok, Err}
use Rattle.checks.specs.Given.{is_node_of}
use Rattle.rendering.specs.Events as events
use Rattle.rendering.specs.Traces.{reach}
use Rattle.nester.specs.declared.Row.{Row}
use Rattle.nester.specs.Rows.{row_at}
use Rattle.rows.specs.declared.frames.Frame.{Frame}
use Rattle.rows.specs.Rows.{World, row_trace}
use Rattle.rows.specs.Frames.{frame_of, came, between, Grows, StandingBy, Bursts, Keeps, Ends as EndsAt}
use Rattle.rows.proofs.BetweenLaws.{length-between, grows_between}
use Rattle.rows.proofs.OwnerLaws.{frame_before, done_up}
use Rattle.replacing.specs.declared.Event.{Event}
use Rattle.replacing.specs.declared.Event.TheVariants.{Unbound, NoRoom, Asked}
use Rattle.replacing.specs.declared.Step.{Step}
use Rattle.replacing.specs.declared.Step.TheVariants.{At, Nested}
use Rattle.replacing.specs.Laying.{Short}
use Rattle.replacing.specs.Steps.{Nests}
use Rattle.rerendering.specs.Endings.{Rendered}
use Rattle.render_replace.specs.declared.turns.Turned.{Turned}
use Rattle.render_replace.specs.Worlds.{Handed, comments_in}
use Rattle.render_replace.specs.Stacks.{up}
use Rattle.render_replace.specs.Answers.{Stops, Answers}
use Rattle.render_replace.specs.Turns.{AtRow, RowLeftIn, RowLeft, owner_in, row_behind, told_comments, EndedBy, AtTurn, NextIn, TurnLeftIn, TurnLeft, FallsTo, Falls, TurnKeeps}
use Rattle.render_replace.proofs.StackLaws.{before_less, stack_low, stack_stays, stack_event, stack_reach, Owner, owner_of_lem}
use Rattle.render_replace.proofs.WorkLaws.{nests_falls, ends_falls}

-- its comments, whether or not the row says that it has some
comments_by : (W : World) (h : Handed) (k : ℕ) (b : Bool) → (row_at h.rows k).has_comments ≡ b → ((row_at h.rows k).has_comments ≡ false → W.comments k ≡ [])
    → W.comments k ≡ comments_in h k → cond b (comments_in h k) [] ≡ W.comments k
comments_by W h k true e bare are = sym are
comments_by W h k false e bare are = sym (bare e)

comments_are : {W : World} {h : Handed} {k : ℕ} {frames : List Frame} {out : List ℕ} {at : ℕ} → AtRow W h k frames out at → told_comments h k ≡ W.comments k
comments_are {W} {h} {k} p = comments_by W h k (row_at h.rows k).has_comments refl (p.shown.bare k p.inside) (p.shown.comments k p.inside)

module _ {W : World} {h : Handed} {k0 k : ℕ} {frames : List Frame} {out : List ℕ} {at : ℕ} (p : AtTurn W h k0 k frames out at) where
  -- an event of row k's text
  stops_all : {out' : List ℕ} → length out' ≡ length out → (place : ℕ) (e : events.Event) → (frame_of frames k).begin ≤ place → place ≤ length out
      → EndsAt W k (frame_of frames k) place e → Stops (row_trace W k0) (frame_of frames k0).begin out' e
  stops_all size place e low fits s =
      let l : (frame_of frames k0).begin ≤ (frame_of frames k).begin = (stack_low p.stack).1 in
      record {
        count = ((frame_of frames k).begin - (frame_of frames k0).begin) + (place - (frame_of frames k).begin);
        fits = omega arith;
        stops = stack_event p.stack (place - (frame_of frames k).begin) e s;
      }

  -- no room for it
  ends_full : (out'' : List ℕ) → length out'' ≡ length out → Bursts W k (frame_of frames k) out → Answers (row_trace W k0) (frame_of frames k0).begin out'' (Err NoRoom)
  ends_full out'' size s = omega (arith, stack_reach p.stack, (stack_low p.stack).1)

  module _ {frames' : List Frame} {out' : List ℕ} (keeps : Keeps k frames frames' (frame_of frames k).begin out out') where
    -- an event of its steps
    event_in : (e : Event) → RowLeftIn W k frames frames' out out' (Err e) → Answers (row_trace W k0) (frame_of frames k0).begin out' (Err e)
    event_in Unbound e = stops_all keeps.out_length e.place events.Unbound e.begins e.fits e.ends
    event_in NoRoom e = ends_full out' keeps.out_length e
    event_in (Asked kind from to) a = (
      a.rise,
      a.fits,
      rw a.is_kind (stops_all keeps.out_length to (events.Asked (W.kind k) (between from to out'))
          (omega (arith, a.begins, a.rise)) (omega (arith, a.fits, keeps.out_length)) a.ends),
    )

    -- frames before row k are kept, and so is where row k0's text begins
    begin_kept : (frame_of frames' k0).begin ≡ (frame_of frames k0).begin
    begin_kept = same_or k0 k
        (λ e. rw e keeps.begin)
        (λ e. ap (λ (f : Frame). f.begin) (frame_before frames frames' k0 k (omega (arith, (stack_low p.stack).0)) keeps.frames_before))

    keeps_by : {out'' : List ℕ} (r : Result Turned Event) → length out'' ≡ length out → take (frame_of frames k).begin out'' ≡ take (frame_of frames k).begin out
        → Falls frames frames' k r → TurnKeeps k0 k frames frames' out out'' r
    keeps_by {out''} r size same falls = record {
      frames_length = keeps.frames_length;
      begin = begin_kept;
      out_length = size;
      out_before = before_less (frame_of frames k0).begin (frame_of frames k).begin out out'' (stack_low p.stack).1 same;
      falls = falls;
    }

    -- a nested row's turn comes next
    nested_in : (j behind : ℕ) → Nests W k j frames frames' out' behind → AtTurn W h k0 j frames' out' behind
    nested_in j behind n = record {
      at_row = record {
        shown = p.at_row.shown;
        inside = n.waiting.inside;
        room = omega (arith, p.at_row.room, keeps.frames_length);
        standing = (rw n.passing.none n.passing);
      };
      stack = up (rw n.begin n.waiting) (stack_stays p.stack keeps.frames_before keeps.begin keeps.out_length keeps.out_before);
    }

    nested_falls : came (frame_of frames k) < 33556480 → (j behind : ℕ) → Nests W k j frames frames' out' behind → FallsTo frames frames' k (Some j)
    nested_falls low j behind n =
        nests_falls frames frames' k keeps.frames_before j low n.rise n.waiting.behind (omega (arith, n.waiting.inside, p.at_row.shown.few))

    -- the row's text stands but for its comments, which are laid then
    module _ {at' : ℕ} (r : Rendered W k (frame_of frames k) out' at') where
      module _ {out'' : List ℕ} {behind : ℕ} (g : Grows out' out'' at' behind (W.comments k)) where
        -- the whole text
        whole : row_trace W k ≡ Ok (between (frame_of frames k).begin behind out'')
        whole = r.is ∙ ap (λ (l : List ℕ). Ok l) (sym (grows_between (frame_of frames k).begin at' behind out' out'' (W.comments k) r.begins g))

        before : take (frame_of frames k).begin out'' ≡ take (frame_of frames k).begin out
        before = before_less (frame_of frames k).begin at' out' out'' r.begins g.same ∙ keeps.out_before

        -- the outermost text ends
        ends_whole : k ≡ k0 → Answers (row_trace W k0) (frame_of frames k0).begin out'' (Ok behind)
        ends_whole e = subst (λ (n : ℕ). Answers (row_trace W n) (frame_of frames n).begin out'' (Ok behind)) e (omega (arith, r.begins, g.rise), g.ends, whole)

        -- the row that it is nested in goes on
        goes_out : (o : Owner W k0 frames out k) → AtTurn W h k0 o.owner frames' out'' behind
        goes_out o =
            let w = o.waiting in let n = o.owner in let b = (frame_of frames k).begin in
            let size : length out'' ≡ length out = g.size ∙ keeps.out_length in
            let all : Grows out out'' b behind (between b behind out'') =
            record { size = size; same = before; rise = omega (arith, r.begins, g.rise); ends = g.ends; new = refl } in
            let filling = done_up W n k (frame_of frames n) out b w out'' behind (between b behind out'') whole all in
            let l : n < k = w.behind in let m : (frame_of frames n).begin ≤ b = w.within.begun.begins in
            let e : frame_of frames' n ≡ frame_of frames n = frame_before frames frames' n k l keeps.frames_before in
            record {
              at_row = record {
                shown = p.at_row.shown;
                inside = omega (arith, p.at_row.inside);
                room = omega (arith, p.at_row.room, keeps.frames_length);
                standing = rw e (subst (λ (q : _). StandingBy W n (frame_of frames n) out'' behind q) (sym filling.within.filling) filling);
              };
              stack = stack_stays o.around (before_less n k frames frames' (omega arith) keeps.frames_before) (ap (λ (f : Frame). f.begin) e) size
                  (before_less (frame_of frames n).begin b out out'' m before);
            }

      -- they do not fit
      comments_burst : {out'' : List ℕ} → Short out' out'' at' (W.comments k) → Bursts W k (frame_of frames k) out
      comments_burst s =
          let b = (frame_of frames k).begin in
          let n : reach (row_trace W k) ≡ length (between b at' out') + length (W.comments k) =
          ap reach r.is ∙ length-append (between b at' out') (W.comments k) in
          omega (arith, n, length-between b at' out' r.ends, r.begins, s.short, keeps.out_length)

      -- which row comes next
      behind_owner : (o : Owner W k0 frames out k) → (k ≡ k0 → ⊥) → row_behind h.rows k0 k ≡ Some o.owner
      behind_owner o z = rw (ne_eqb k k0 z) (ap (λ (l : List Row). owner_in (row_at l k).state) (sym p.at_row.shown.reads) ∙ o.state)

      next_in : (out'' : List ℕ) (t : Turned) → Grows out' out'' at' t.at (W.comments k) → t.next ≡ row_behind h.rows k0 k → NextIn W h k0 frames frames' out'' t.at t.next
      next_in out'' t g e = same_or k k0
          (λ y. let s : row_behind h.rows k0 k ≡ None = (rw (eq-eqb k k0 y)) in rw (e ∙ s) (ends_whole g y))
          (λ y. let o = owner_of_lem p.stack y in rw (e ∙ behind_owner o y) (goes_out g o))

      next_falls : came (frame_of frames k) < 33556480 → (t : Turned) → t.next ≡ row_behind h.rows k0 k → FallsTo frames frames' k t.next
      next_falls low t e = same_or k k0
          (λ y. let s : row_behind h.rows k0 k ≡ None = (rw (eq-eqb k k0 y)) in rw (e ∙ s) tt)
          (λ y. let o = owner_of_lem p.stack y in rw (e ∙ behind_owner o y) (ends_falls frames frames' k keeps.frames_before o.owner low o.waiting.behind))

      ended_in : (out'' : List ℕ) (t : Result Turned Event) → EndedBy h k0 k out' at' out'' t → TurnLeftIn W h k0 frames frames' out'' t
      ended_in out'' (Ok t) e = next_in out'' t (rw (comments_are p.at_row) at e.0) e.1
      ended_in out'' (Err Unbound) e = absurd e
      ended_in out'' (Err NoRoom) e = ends_full out'' (e.size ∙ keeps.out_length) (comments_burst (rw (comments_are p.at_row) at e))
      ended_in out'' (Err (Asked kind from to)) e = absurd e

      ended_keeps : came (frame_of frames k) < 33556480 → (out'' : List ℕ) (t : Result Turned Event) → EndedBy h k0 k out' at' out'' t → TurnKeeps k0 k frames frames' out out'' t
      ended_keeps low out'' (Ok t) e =
          let g : Grows out' out'' at' t.at (W.comments k) = (rw (comments_are p.at_row) at e.0) in
          keeps_by (Ok t) (g.size ∙ keeps.out_length) (before g) (next_falls low t e.1)
      ended_keeps low out'' (Err Unbound) e = absurd e
      ended_keeps low out'' (Err NoRoom) e = keeps_by (Err NoRoom) (e.size ∙ keeps.out_length) (before_less (frame_of frames k).begin at' out' out'' r.begins e.same ∙ keeps.out_before) tt
      ended_keeps low out'' (Err (Asked kind from to)) e = absurd e

-- ---- what a turn leaves, in each world

module _ (h : Handed) (k0 k : ℕ) (frames : List Frame) (out : List ℕ) (at : ℕ) (frames' : List Frame) (out' : List ℕ)
    (keeps : Keeps k frames frames' (frame_of frames k).begin out out') (low : came (frame_of frames k) < 33556480) where
  module _ (r : Result Step Event) (l : RowLeft h k frames out at frames' out' r) where
    -- an event ends it
    pub ends_turn : (e : Event) (t : Result Turned Event) → r ≡ Err e → t ≡ Err e → TurnLeft h k0 k frames out at frames' out' t
    ends_turn e t s i = record { left = λ W p. rw i (event_in p keeps e (rw s at (l.left W p.at_row))) }

    pub ends_keeps : (W : World) → AtTurn W h k0 k frames out at → (e : Event) (t : Result Turned Event) → t ≡ Err e → TurnKeeps k0 k frames frames' out out' t
    ends_keeps W p e t i = rw i (keeps_by p keeps (Err e) keeps.out_length keeps.out_before tt)

  -- a nested row's turn comes next
  module _ (j behind : ℕ) (l : RowLeft h k frames out at frames' out' (Ok (Nested j behind))) where
    pub goes_in : TurnLeft h k0 k frames out at frames' out' (Ok (record { at = behind; next = Some j }))
    goes_in = record { left = λ W p. nested_in p keeps j behind (l.left W p.at_row) }

    pub goes_in_keeps : (W : World) → AtTurn W h k0 k frames out at → TurnKeeps k0 k frames frames' out out' (Ok (record { at = behind; next = Some j }))
    goes_in_keeps W p = keeps_by p keeps (Ok (record { at = behind; next = Some j })) keeps.out_length keeps.out_before (nested_falls p keeps low j behind (l.left W p.at_row))

  -- its text stands but for its comments
  module _ (behind : ℕ) (l : RowLeft h k frames out at frames' out' (Ok (At behind))) where
    pub text_fits : (W : World) → AtTurn W h k0 k frames out at → behind ≤ length out'
    text_fits W p = (l.left W p.at_row).ends

    module _ (out'' : List ℕ) (t : Result Turned Event) (e : EndedBy h k0 k out' behind out'' t) where
      pub row_ends : TurnLeft h k0 k frames out at frames' out'' t
      row_ends = record { left = λ W p. ended_in p keeps (l.left W p.at_row) out'' t e }

      pub row_keeps : (W : World) → AtTurn W h k0 k frames out at → TurnKeeps k0 k frames frames' out out'' t
      row_keeps W p = ended_keeps p keeps (l.left W p.at_row) low out'' t e

module _ (W : World) (h : Handed) (k0 k : ℕ) (frames : List Frame) (out : List ℕ) (at : ℕ) (p : AtTurn W h k0 k frames out at) where
  pub row_inside : k < length h.rows
  row_inside = omega (arith, p.at_row.inside, ap length p.at_row.shown.reads)

  pub row_node : is_node_of h.file (row_at h.rows k).node ≡ true
  row_node = p.at_row.shown.nodes k p.at_row.inside

  pub at_row_of : AtRow W h k frames out at
  at_row_of = p.at_row
