-- Laws of what a frame says of the buffer: a fragment more is passed, a placeholder's text begins, goes on and ends, and an event in it is one
-- of the row's text.
-- Assumes nothing.
use mathlib.Core.Path.{◌≡◌, refl, sym, ap, subst, ◌∙◌}
use mathlib.Core.Bool.{Bool, true}
use mathlib.Core.List.{List, [], ◌∷◌, ◌++◌, append_assoc, append-nil}
use Prim.Native.Nat.{ℕ, ◌+◌, ◌-◌, ◌≤◌, ◌<◌}
use native.Mathlib.Omega.{arith}
use lib.ListN.{length, take, drop, length-set, length-append, length-drop, take-append-drop}
use lib.Seq.{take-add, get_or-set_same, get_or-set_other}
use Rattle.std.specs.Prelude.{Option, None, Some, Ok}
use Rattle.std.specs.List.{concat}
use Rattle.std.proofs.lemmas.List.{get_or-replicate}
use Rattle.std.proofs.lemmas.Option.{none-some}
use Rattle.words.proofs.TestLaws.{same_or}
use Rattle.captures.specs.declared.Binding.{Binding}
use Rattle.rendering.specs.Events.{Event, Unbound}
use Rattle.rendering.specs.Texts.{Fragment, captured, prefix}
use Rattle.rendering.specs.Traces.{Trace, stopped, reach, ◌then◌, fragment_trace, traces_of}
use Rattle.rendering.proofs.RoomLaws.{nothing_then, then_assoc, concat-append}
use Rattle.rendering.proofs.TraceLaws.{done_then_done, done_then_stopped, reach_done_then, one_more, one_stops, one_reaches, match_stops, match_reach, reach_all}
use Rattle.rows.specs.declared.frames.Span.{Span}
use Rattle.rows.specs.declared.frames.Progress.{Progress}
use Rattle.rows.specs.declared.frames.Frame.{Frame}
use Rattle.rows.specs.Rows.{World, count_of, binding_of, start_in, end_in, is_nested, slot_fill, slot_filling, slot_hole, row_trace}
use Rattle.rows.specs.Frames.{frame_at, slot_begun, row_passed, piece_passed, slot_ended, text_in, between, Grows, SlotStands, Begun, Passing, Within, rest_from, Filling, Waiting}
use Rattle.rows.proofs.BetweenLaws.{length-between, between-same, between_none, between_end, grows_between}

-- a slot's text with more bytes behind it
slot_later : (W : World) (k slot : ℕ) (s : Option Span) (out out' : List ℕ) (at at' : ℕ) → take at out' ≡ take at out → at ≤ at' → SlotStands W k slot s out at → SlotStands W k slot s out' at'
slot_later W k slot None out out' at at' e h x = tt
slot_later W k slot (Some s) out out' at at' e h x = (x.0, omega arith, x.2 ∙ ap (λ (b : List ℕ). Ok b) (sym (between-same s.start s.end at out out' x.1 e)))

-- ---- fragments that are passed

module _ {W : World} {k : ℕ} {f : Frame} {out : List ℕ} {at : ℕ} (b : Begun W k f out at) where
  -- with more bytes behind them
  abbrev begun_later : (filling : Option Progress) (out' : List ℕ) (at' : ℕ) → take at out' ≡ take at out → at ≤ at' → at' ≤ length out' → Begun W k (record f { filling = filling }) out' at'
  begun_later filling out' at' e h l = record {
    eight = b.eight;
    texts = b.texts;
    many = b.many;
    few = b.few;
    are = b.are;
    begins = omega (arith, b.begins);
    ends = l;
    slots = λ slot m. slot_later W k slot (text_in f slot) out out' at at' e h (b.slots slot m);
    stand = b.stand;
  }

  module _ (x : Fragment) (others : List Fragment) (here : drop f.passed (W.fragments k) ≡ x ∷ others) where
    fs : List Fragment
    fs = take f.passed (W.fragments k)

    whole : W.fragments k ≡ fs ++ (x ∷ others)
    unfolding fs
    whole = sym (take-append-drop f.passed (W.fragments k)) ∙ ap (λ (l : List Fragment). fs ++ l) here

    one : take (f.passed + 1) (W.fragments k) ≡ fs ++ (x ∷ [])
    unfolding fs
    one = take-add f.passed 1 (W.fragments k) ∙ ap (λ (l : List Fragment). fs ++ take 1 l) here

    left : f.passed < length (W.fragments k)
    left = omega (arith, sym (length-drop f.passed (W.fragments k)) ∙ ap length here)

    -- the next one stops
    pub row_stops : (n : ℕ) (e : Event) → fragment_trace (slot_hole W k) x ≡ stopped n e → row_trace W k ≡ stopped (length (concat b.texts) + n) e
    unfolding fs
    row_stops n e h =
        match_stops (W.kind k) (W.fragments k) (W.comments k) W.parse (slot_hole W k) (length (concat b.texts) + n) e
        (ap (traces_of (slot_hole W k)) whole ∙ one_stops (slot_hole W k) fs others x b.texts b.are n e h)

    -- it is laid
    pub row_reaches : length (concat b.texts) + reach (fragment_trace (slot_hole W k) x) ≤ reach (row_trace W k)
    unfolding fs
    row_reaches = omega (
      arith,
      match_reach (W.kind k) (W.fragments k) (W.comments k) W.parse (slot_hole W k),
      one_reaches (slot_hole W k) fs others x b.texts b.are,
      ap (λ (l : List Fragment). reach_all (traces_of (slot_hole W k) l)) whole,
    )

    -- it is passed
    passes : (f' : Frame) (out' : List ℕ) (at' : ℕ) (bs : List ℕ) → fragment_trace (slot_hole W k) x ≡ Ok bs → between f.begin at' out' ≡ concat b.texts ++ bs
        → f'.begin ≡ f.begin → f'.passed ≡ f.passed + 1 → f'.filling ≡ None → length f'.texts ≡ 8 → f.begin ≤ at' → at' ≤ length out'
        → ((slot : ℕ) → slot < 8 → SlotStands W k slot (text_in f' slot) out' at')
        → ((slot : ℕ) → slot < 8 → text_in f' slot ≡ None → text_in f slot ≡ None)
        → ((slot : ℕ) (r : Bool) → slot < 8 → x ≡ captured slot r → text_in f' slot ≡ None → ⊥) → Passing W k f' out' at'
    unfolding fs
    passes f' out' at' bs h stands begin passed none eight low high slots before this = record {
      begun = record {
        eight = eight;
        texts = b.texts ++ (bs ∷ []);
        many = omega (arith, length-append b.texts (bs ∷ []), b.many, passed);
        few = omega (arith, left, passed);
        are = ap (λ (p : ℕ). traces_of (slot_hole W k) (take p (W.fragments k))) passed ∙ ap (traces_of (slot_hole W k)) one
            ∙ one_more (slot_hole W k) fs others x b.texts b.are bs h;
        begins = omega (arith, begin);
        ends = high;
        slots = slots;
        stand = λ i slot r rest m p q n. same_or i f.passed
            (λ e. let g : x ≡ captured slot r = cc in this slot r m g n)
            (λ e. b.stand i slot r rest m (omega (arith, passed)) q (before slot m n));
      };
      none = none;
      laid = ap (λ (a : ℕ). between a at' out') begin ∙ stands
          ∙ sym (concat-append b.texts (bs ∷ []) ∙ ap (λ (l : List ℕ). concat b.texts ++ l) (append-nil bs));
    }

-- ---- between two fragments

-- a text that begins
pub enters_passing : (W : World) (k at : ℕ) (out : List ℕ) → at ≤ length out → Passing W k (frame_at at) out at
unfolding traces_of
enters_passing W k at out h = record {
  begun = record {
    eight = refl;
    texts = [];
    many = refl;
    few = omega arith;
    are = refl;
    begins = omega arith;
    ends = h;
    slots = λ slot m. subst (λ (s : Option Span). SlotStands W k slot s out at) (sym (get_or-replicate 8 slot None None m)) tt;
    stand = λ i slot r others m p q n. omega arith;
  };
  none = refl;
  laid = between_none at out;
}

module _ {W : World} {k : ℕ} {f : Frame} {out : List ℕ} {at : ℕ} (p : Passing W k f out at) where
  pub passing_place : f.begin + length (concat p.begun.texts) ≡ at
  passing_place =
      let b = p.begun in
      omega (arith, sym (length-between f.begin at out b.ends) ∙ ap length p.laid, b.begins)

  module _ (x : Fragment) (others : List Fragment) (here : drop f.passed (W.fragments k) ≡ x ∷ others) where
    pub passing_stops : (n : ℕ) (e : Event) → fragment_trace (slot_hole W k) x ≡ stopped n e → row_trace W k ≡ stopped ((at - f.begin) + n) e
    passing_stops n e h =
        let q : length (concat p.begun.texts) + n ≡ (at - f.begin) + n = omega (arith, passing_place) in
        row_stops p.begun x others here n e h ∙ ap (λ (m : ℕ). stopped m e) q

    pub passing_reaches : at + reach (fragment_trace (slot_hole W k) x) ≤ f.begin + reach (row_trace W k)
    passing_reaches = omega (arith, row_reaches p.begun x others here, passing_place)

    -- a fragment's text is laid
    pub piece_passes : (out' : List ℕ) (at' : ℕ) (bs : List ℕ) → fragment_trace (slot_hole W k) x ≡ Ok bs → Grows out out' at at' bs
        → ((slot : ℕ) (r : Bool) → slot < 8 → x ≡ captured slot r → text_in f slot ≡ None → ⊥) → Passing W k (piece_passed f) out' at'
    piece_passes out' at' bs h g this =
        let b = p.begun in
        passes b x others here (piece_passed f) out' at' bs h
        (grows_between f.begin at at' out out' bs b.begins g ∙ ap (λ (l : List ℕ). l ++ bs) p.laid)
        refl refl p.none b.eight (omega (arith, b.begins, g.rise)) g.ends
        (λ slot m. slot_later W k slot (text_in f slot) out out' at at' g.same g.rise (b.slots slot m)) (λ slot m n. n) this

-- ---- a placeholder

-- its trace where it is bound
pub hole_bound : (W : World) (k slot : ℕ) (r : Bool) (b : Binding) → binding_of W k slot ≡ Some b → slot_hole W k slot r ≡ (Ok (prefix b r) then slot_filling W k slot)
hole_bound W k slot r b h = rw h

pub hole_unbound : (W : World) (k slot : ℕ) (r : Bool) → binding_of W k slot ≡ None → slot_hole W k slot r ≡ stopped 0 Unbound
hole_unbound W k slot r h = rw h

-- its text begins behind its prefix
pub slot_begins : (W : World) (k slot : ℕ) (r : Bool) (others : List Fragment) (b : Binding) (f : Frame) (out out' : List ℕ) (at at' : ℕ)
    → Passing W k f out at → drop f.passed (W.fragments k) ≡ captured slot r ∷ others → slot < 8 → k < count_of W → binding_of W k slot ≡ Some b
    → Grows out out' at at' (prefix b r) → Filling W k (slot_begun k slot b.start at' f) out' at'
slot_begins W k slot r others b f out out' at at' p here low inside bound g =
    let n = p.begun in let bs = prefix b r in
    let progress : Progress = record { from = b.start; origin = at'; next = k + 1; slot = slot } in
    record {
      progress = progress;
      within = record {
        begun = begun_later n (Some progress) out' at' g.same g.rise g.ends;
        filling = refl;
        is_receiver = r;
        others = others;
        low = low;
        here = here;
        binding = b;
        bound = bound;
        sofar = [];
        laid = grows_between f.begin at at' out out' bs n.begins g ∙ ap (λ (l : List ℕ). l ++ bs) p.laid ∙ ap (λ (l : List ℕ). concat n.texts ++ l) (sym (append-nil bs));
        origin = omega arith;
        rest = ap (λ (s : ℕ). slot_fill W k slot s (end_in (binding_of W k slot))) (ap start_in bound) ∙ sym (nothing_then (rest_from W k b.start (k + 1) slot));
      };
      behind = omega arith;
      inside = omega arith;
    }

module _ {W : World} {k : ℕ} {f : Frame} {out : List ℕ} {at : ℕ} {p : Progress} {left : Trace} (w : Within W k f out at p left) where
  -- what stands of it in the buffer
  stood : List ℕ
  stood = prefix w.binding w.is_receiver ++ w.sofar

  hole-left : slot_hole W k p.slot w.is_receiver ≡ (Ok stood then left)
  unfolding stood
  hole-left =
      let bs = prefix w.binding w.is_receiver in
      hole_bound W k p.slot w.is_receiver w.binding w.bound ∙ ap (λ (t : Trace). Ok bs then t) w.rest
      ∙ sym (then_assoc (Ok bs) (Ok w.sofar) left) ∙ ap (λ (t : Trace). t then left) (done_then_done bs w.sofar)

  within-place : f.begin + (length (concat w.begun.texts) + length stood) ≡ at
  unfolding stood
  within-place =
      let b = w.begun in
      omega (arith, sym (length-between f.begin at out b.ends) ∙ ap length w.laid ∙ length-append (concat b.texts) stood, b.begins)

  -- what is left of it stops
  pub within_stops : (n : ℕ) (e : Event) → left ≡ stopped n e → row_trace W k ≡ stopped ((at - f.begin) + n) e
  within_stops n e h =
      let q : length (concat w.begun.texts) + (length stood + n) ≡ (at - f.begin) + n = omega (arith, within-place) in
      row_stops w.begun (captured p.slot w.is_receiver) w.others w.here (length stood + n) e
      (hole-left ∙ ap (λ (t : Trace). Ok stood then t) h ∙ done_then_stopped stood n e)
      ∙ ap (λ (m : ℕ). stopped m e) q

  -- it is laid
  pub within_reaches : at + reach left ≤ f.begin + reach (row_trace W k)
  within_reaches =
      omega (
        arith,
        row_reaches w.begun (captured p.slot w.is_receiver) w.others w.here,
        ap reach hole-left ∙ reach_done_then stood left,
        within-place,
      )

  -- a part of it is laid: the file goes on at a byte, and the rows at one
  pub within_later : (filling : Option Progress) (from next : ℕ) (out' : List ℕ) (at' : ℕ) (bs : List ℕ) (left' : Trace) → filling ≡ Some (record p { from = from; next = next })
      → left ≡ (Ok bs then left') → Grows out out' at at' bs → Within W k (record f { filling = filling }) out' at' (record p { from = from; next = next }) left'
  within_later filling from next out' at' bs left' is h g =
      let b = w.begun in let xs = concat b.texts in let ys = prefix w.binding w.is_receiver in
      let n : length (between at at' out') ≡ at' - at = length-between at at' out' g.ends in
      record {
        begun = begun_later b filling out' at' g.same g.rise g.ends;
        filling = is;
        is_receiver = w.is_receiver;
        others = w.others;
        low = w.low;
        here = w.here;
        binding = w.binding;
        bound = w.bound;
        sofar = w.sofar ++ bs;
        laid = grows_between f.begin at at' out out' bs b.begins g
            ∙ ap (λ (l : List ℕ). l ++ bs) w.laid ∙ append_assoc xs (ys ++ w.sofar) bs ∙ ap (λ (l : List ℕ). xs ++ l) (append_assoc ys w.sofar bs);
        origin = omega (arith, length-append w.sofar bs, w.origin, n, ap length g.new, g.rise);
        rest = w.rest ∙ ap (λ (t : Trace). Ok w.sofar then t) h ∙ sym (then_assoc (Ok w.sofar) (Ok bs) left')
            ∙ ap (λ (t : Trace). t then left') (done_then_done w.sofar bs);
      }

  -- the text of a nested row comes next
  pub waits : (j : ℕ) (out' : List ℕ) (at' : ℕ) (bs : List ℕ)
      → left ≡ (Ok bs then (row_trace W j then rest_from W k (W.end_of j) (j + 1) p.slot)) → Grows out out' at at' bs
      → k < j → j < count_of W → is_nested W.rows k p.slot j ≡ true → Waiting W k j (row_passed p j (W.end_of j) f) out' at'
  waits j out' at' bs h g behind inside nested = record {
    progress = record p { from = W.end_of j; next = j + 1 };
    within = within_later (Some (record p { from = W.end_of j; next = j + 1 })) (W.end_of j) (j + 1) out' at' bs (row_trace W j then rest_from W k (W.end_of j) (j + 1) p.slot) refl h g;
    behind = behind;
    inside = inside;
    nested = nested;
    next = refl;
    from = refl;
  }

  -- the rest of it is
  pub slot_ends : (out' : List ℕ) (at' : ℕ) (bs : List ℕ) → left ≡ Ok bs → Grows out out' at at' bs → Passing W k (slot_ended p at' f) out' at'
  unfolding stood
  slot_ends out' at' bs h g =
      let b = w.begun in let slot = p.slot in let xs = concat b.texts in let ys = prefix w.binding w.is_receiver in
      let o = p.origin in
      let span : Option Span = Some (record { start = o; end = at' }) in
      let n : o + length w.sofar ≡ at = w.origin in
      let part : between o at out ≡ w.sofar =
      between_end f.begin o at out (xs ++ ys) w.sofar b.begins b.ends (w.laid ∙ sym (append_assoc xs ys w.sofar)) n in
      let this : SlotStands W k slot span out' at' = (
        omega (arith, g.rise),
        omega arith,
        w.rest ∙ ap (λ (t : Trace). Ok w.sofar then t) h ∙ done_then_done w.sofar bs
            ∙ ap (λ (l : List ℕ). Ok l) (sym (grows_between o at at' out out' bs (omega arith) g ∙ ap (λ (l : List ℕ). l ++ bs) part)),
      ) in
      let here : text_in (slot_ended p at' f) slot ≡ span = get_or-set_same f.texts slot span None (omega (arith, b.eight, w.low)) in
      let elsewhere : (other : ℕ) → (other ≡ slot → ⊥) → text_in (slot_ended p at' f) other ≡ text_in f other = λ other e. get_or-set_other f.texts slot other span None e in
      let stands : (t : Option Span) → t ≡ span → t ≡ None → ⊥ = λ t e m. none-some (record { start = o; end = at' }) (sym m ∙ e) in
      passes b (captured slot w.is_receiver) w.others w.here (slot_ended p at' f) out' at' (stood ++ bs)
      (hole-left ∙ ap (λ (t : Trace). Ok stood then t) h ∙ done_then_done stood bs)
      (grows_between f.begin at at' out out' bs b.begins g ∙ ap (λ (l : List ℕ). l ++ bs) w.laid ∙ append_assoc xs stood bs)
      refl refl refl (length-set f.texts slot span ∙ b.eight) (omega (arith, b.begins, g.rise)) g.ends
      (λ other m. same_or other slot
      (λ e. subst (λ (x : ℕ). SlotStands W k x (text_in (slot_ended p at' f) x) out' at') (sym e) (subst (λ (s : Option Span). SlotStands W k slot s out' at') (sym here) this))
      (λ e. subst (λ (s : Option Span). SlotStands W k other s out' at') (sym (elsewhere other e)) (slot_later W k other (text_in f other) out out' at at' g.same g.rise (b.slots other m))))
      (λ other m l. same_or other slot (λ e. absurd (stands (text_in (slot_ended p at' f) other) (ap (text_in (slot_ended p at' f)) e ∙ here) l)) (λ e. sym (elsewhere other e) ∙ l))
      (λ other r m e l. let q : other ≡ slot = cc in stands (text_in (slot_ended p at' f) other) (ap (text_in (slot_ended p at' f)) q ∙ here) l)
