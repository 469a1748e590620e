-- Laws of one edit: its words before its text, whose length is put in last.
-- Assumes nothing.
use Prim.Native.Nat.{ℕ, ◌+◌, ◌-◌, ◌≤◌, ◌<◌}
use mathlib.Core.Path.{◌≡◌, refl, sym, ap, subst, ◌∙◌}
use mathlib.Core.List.{List, [], ◌++◌, append-nil}
use native.Mathlib.Omega.{arith}
use lib.ListN.{length, take, drop, length-append}
use lib.Seq.{length-take-le, drop-append_seam}
use Rattle.std.specs.Prelude.{true, false, Some, None, Result, Ok, Err}
use Rattle.words.specs.Buffer.{laid, laid_if_room, place_after}
use Rattle.words.proofs.BufferLaws.{room, no_room, placed_at, placed_full}
use Rattle.words.proofs.TestLaws.{low_or}
use Rattle.rendering.specs.Events.{Event}
use Rattle.rendering.specs.Events as events
use Rattle.rendering.specs.Traces.{Trace, reach, ◌then◌}
use Rattle.edits.specs.Edits.{edit_words}
use Rattle.edits.specs.Traces.{edit_trace, list_trace}
use Rattle.nester.specs.declared.Row.{Row}
use Rattle.nester.specs.Rows.{row_at}
use Rattle.replacing.specs.declared.Event as declared
use Rattle.replacing.specs.declared.Event.TheVariants.{Unbound, NoRoom, Asked}
use Rattle.rows.specs.Rows.{World, count_of, row_trace}
use Rattle.rows.specs.Frames.{between, Grows}
use Rattle.rows.proofs.BetweenLaws.{length-between, between_none, grows_between, grows_laid}
use Rattle.render_replace.specs.Answers.{Stops, Answers}
use Rattle.render_replace.specs.Worlds.{Handed, Shown}
use Rattle.render_replace.specs.Turns.{TextLeft}
use Rattle.render_replace.proofs.StackLaws.{before_less}
use Rattle.collections.specs.Worlds.{is_outer}
use Rattle.job_list.specs.Lists.{node_start, node_end, edit_over, row_edit, EditLeft}

-- bytes behind those that are laid
drop-laid : (d : List ℕ) (at : ℕ) (bs : List ℕ) → at + length bs ≤ length d → drop (at + length bs) (laid d at bs) ≡ drop (at + length bs) d
drop-laid d at bs h =
    let n : length (take at d ++ bs) ≡ at + length bs = length-append (take at d) bs ∙ ap (λ (k : ℕ). k + length bs) (length-take-le at d (omega arith)) in
    ap (λ (k : ℕ). drop k (laid d at bs)) (sym n) ∙ drop-append_seam (take at d ++ bs) (drop (at + length bs) d)

module _ (start end : ℕ) where
  pub reach-over : (u : Trace) → reach (edit_over start end u) ≡ 12 + reach u
  reach-over (Ok text) = length-append (edit_words start end (length text)) text
  reach-over (Err s) = refl

  -- where the text stands behind its words, and they say its length now
  pub length-put : (out out' : List ℕ) (at behind : ℕ) (u : Trace) → at + 12 ≤ length out
      → out' ≡ laid_if_room out at (edit_words start end (behind - (at + 12))) → Answers u (at + 12) out (Ok behind)
      → (take at out' ≡ take at out) × Answers (edit_over start end u) at out' (Ok behind)
  length-put out out' at behind u h e a =
      let text = between (at + 12) behind out in
      let ws = edit_words start end (behind - (at + 12)) in
      let put = laid out at ws in
      let g : Grows out put at (at + 12) ws = grows_laid out at ws h in
      let is : out' ≡ put = e ∙ sym (room out at ws h).1 in
      let same : between (at + 12) behind put ≡ text = ap (take (behind - (at + 12))) (drop-laid out at ws h) in
      let rest : Grows put put (at + 12) behind text =
      record { size = refl; same = refl; rise = a.0; ends = omega (arith, a.1, g.size); new = same } in
      let n : length text ≡ behind - (at + 12) = length-between (at + 12) behind out a.1 in
      let all : edit_over start end u ≡ Ok (between at behind put) =
      ap (edit_over start end) a.2 ∙ ap (λ (k : ℕ). Ok (edit_words start end k ++ text)) n
      ∙ ap (λ (l : List ℕ). Ok l) (ap (λ (xs : List ℕ). xs ++ text) (sym g.new) ∙ sym (grows_between at (at + 12) behind put put text (omega arith) rest)) in
      rw is (g.same, (omega (arith, a.0), omega (arith, a.1, g.size), all))

  -- an event in the text is one in the edit
  pub over_stops : (u : Trace) (at : ℕ) (out : List ℕ) (e : Event) → Stops u (at + 12) out e → Stops (edit_over start end u) at out e
  over_stops u at out e s = record { count = 12 + s.count; fits = omega (arith, s.fits); stops = ap (edit_over start end) s.stops }

  pub over_full : (u : Trace) (at : ℕ) (out : List ℕ) → length out < at + 12 + reach u → length out < at + reach (edit_over start end u)
  over_full u at out h = omega (arith, reach-over u)

-- ---- of a row

pub then_nothing : (u : Trace) → u then Ok [] ≡ u
unfolding ◌then◌
then_nothing (Ok bs) = ap (λ (l : List ℕ). Ok l) (append-nil bs)
then_nothing (Err s) = refl

edit_over_lem : (start_of end_of : ℕ → ℕ) (n : ℕ) (u : Trace) → edit_trace start_of end_of n u ≡ edit_over (start_of n) (end_of n) u
edit_over_lem start_of end_of n (Ok text) = refl
edit_over_lem start_of end_of n (Err s) = refl

module _ (words : List ℕ) (W : World) (k : ℕ) where
  pub row_outer : is_outer (row_at W.rows k).state ≡ true
      → row_edit words W k ≡ edit_over (node_start words (row_at W.rows k).node) (node_end words (row_at W.rows k).node) (row_trace W k)
  unfolding list_trace
  row_outer e =
      let n = (row_at W.rows k).node in
      rw e
      (then_nothing (edit_trace (node_start words) (node_end words) n (row_trace W k)) ∙ edit_over_lem (node_start words) (node_end words) n (row_trace W k))

  pub row_inner : is_outer (row_at W.rows k).state ≡ false → row_edit words W k ≡ Ok []
  unfolding list_trace
  row_inner e = rw e refl

-- ---- what is laid of a row, in each world

module _ (h : Handed) (k at : ℕ) where
  -- a row that is not outer has no edit
  pub inner_left : (out : List ℕ) → at ≤ length out → is_outer (row_at h.rows k).state ≡ false → EditLeft h k at out (Ok at)
  inner_left out fits e = record {
    left = λ W s. (
      omega arith,
      fits,
      row_inner h.file.words W k (ap (λ (l : List Row). is_outer (row_at l k).state) s.reads ∙ e) ∙ ap (λ (l : List ℕ). Ok l) (sym (between_none at out)),
    );
  }

  abbrev edit_here : Trace → Trace
  edit_here u = edit_over (node_start h.file.words (row_at h.rows k).node) (node_end h.file.words (row_at h.rows k).node) u

  -- an outer row's edit
  edit_is : is_outer (row_at h.rows k).state ≡ true → (W : World) → Shown W h → row_edit h.file.words W k ≡ edit_here (row_trace W k)
  edit_is o W s =
      row_outer h.file.words W k (ap (λ (l : List Row). is_outer (row_at l k).state) s.reads ∙ o)
      ∙ ap (λ (l : List Row). edit_over (node_start h.file.words (row_at l k).node) (node_end h.file.words (row_at l k).node) (row_trace W k)) s.reads

  here_in : {W : World} → Shown W h → k < length h.rows → k < count_of W
  here_in s i = omega (arith, i, ap length s.reads)

  event_over : (u : Trace) (out : List ℕ) (e : declared.Event) → Answers u (at + 12) out (Err e) → Answers (edit_here u) at out (Err e)
  event_over u out Unbound a = over_stops _ _ u at out events.Unbound a
  event_over u out NoRoom a = over_full _ _ u at out a
  event_over u out (Asked kind from to) a = (a.0, a.1, over_stops _ _ u at out (events.Asked kind (between from to out)) a.2)

  module _ (o : is_outer (row_at h.rows k).state ≡ true) where
    -- there is no room for its words
    pub full_left : (out out' : List ℕ) → length out' ≡ length out → place_after (length out) at 12 ≡ None → (r : Result ℕ declared.Event) → r ≡ Err NoRoom → EditLeft h k at out' r
    full_left out out' size p r i =
        let q = placed_full out at (edit_words 0 0 0) p in
        record { left = λ W s. rw (i, edit_is o W s) (omega (arith, q.0, size, reach-over (node_start h.file.words (row_at h.rows k).node) (node_end h.file.words (row_at h.rows k).node) (row_trace W k))) }

    -- an event ends its text
    pub event_left : (out : List ℕ) (begin : ℕ) → begin ≡ at + 12 → k < length h.rows → (e : declared.Event) (q r : Result ℕ declared.Event) → q ≡ Err e → r ≡ Err e
        → TextLeft h k begin out q → EditLeft h k at out r
    event_left out begin b i e q r y z l = record {
      left = λ W s.
          let a : Answers (row_trace W k) begin out (Err e) = subst (λ (x : Result ℕ declared.Event). Answers (row_trace W k) begin out x) y (l.left W s (here_in s i)) in
          let f : Answers (row_trace W k) (at + 12) out (Err e) = subst (λ (m : ℕ). Answers (row_trace W k) m out (Err e)) b a in
          subst (λ (x : Result ℕ declared.Event). Answers (row_edit h.file.words W k) at out x) (sym z)
          (subst (λ (u : Trace). Answers u at out (Err e)) (sym (edit_is o W s)) (event_over (row_trace W k) out e f));
    }

    -- its text is laid, and its length is put in its words
    pub done_left : (out out' : List ℕ) (begin behind : ℕ) → begin ≡ at + 12 → begin ≤ length out → k < length h.rows
        → out' ≡ laid_if_room out at (edit_words (node_start h.file.words (row_at h.rows k).node) (node_end h.file.words (row_at h.rows k).node) (behind - begin))
        → (q : Result ℕ declared.Event) → q ≡ Ok behind → TextLeft h k begin out q → EditLeft h k at out' (Ok behind)
    done_left out out' begin behind b f i w q y l = record {
      left = λ W s. let a : Answers (row_trace W k) (at + 12) out (Ok behind) = rw (y, b) at (l.left W s (here_in s i)) in
          rw (edit_is o W s) ((length-put _ _ out out' at behind (row_trace W k) (omega (arith, b, f)) (rw b at w) a).1);
    }

-- ---- the buffer before an edit, and its places

pub put_same : (out out' : List ℕ) (at : ℕ) (bs : List ℕ) → out' ≡ laid_if_room out at bs → take at out' ≡ take at out
put_same out out' at bs w = low_or (length out) (at + length bs)
    (λ h. ap (take at) (w ∙ sym (no_room out at bs h).1))
    (λ h. ap (take at) (w ∙ sym (room out at bs h).1) ∙ (grows_laid out at bs h).same)

pub begins_behind : (out : List ℕ) (at n : ℕ) → place_after (length out) at 12 ≡ Some n → (n ≡ at + 12) × (n ≤ length out)
begins_behind out at n p = let q = placed_at out at (edit_words 0 0 0) n p in (sym q.0, omega (arith, q.0, q.1))

pub text_rises : (h : Handed) (k begin behind : ℕ) (out : List ℕ) (W : World) → Shown W h → k < length h.rows → (q : Result ℕ declared.Event) → q ≡ Ok behind
    → TextLeft h k begin out q → (begin ≤ behind) × (behind ≤ length out)
text_rises h k begin behind out W s i q y l =
    let a : Answers (row_trace W k) begin out (Ok behind) = rw y at (l.left W s (omega (arith, i, ap length s.reads))) in (a.0, a.1)

-- what stood before the edit still does
pub all_same : (out₀ out₁ out₂ : List ℕ) (at begin : ℕ) → at ≤ begin → take at out₁ ≡ take at out₀ → take begin out₂ ≡ take begin out₁ → take at out₂ ≡ take at out₀
all_same out₀ out₁ out₂ at begin h e f = before_less at begin out₁ out₂ h f ∙ e
