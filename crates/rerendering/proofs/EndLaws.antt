-- How a first rendering ends: laws of a row whose fragments are all passed.
-- Assumes nothing.
use mathlib.Core.Path.{◌≡◌, refl, sym, ap, ap₂, ◌∙◌}
use mathlib.Core.Bool.{Bool, true, false, cond}
use mathlib.Core.List.{List, [], ◌∷◌, ◌++◌}
use Prim.Native.Nat.{ℕ, ◌-◌, ◌<◌}
use native.Mathlib.Omega.{arith}
use lib.ListN.{length, take, length-append, length-drop}
use lib.Seq.{take-length}
use Rattle.std.specs.Prelude.{Option, None, Some, ok_or, Result, Ok, Err}
use Rattle.std.specs.List.{concat}
use Rattle.words.specs.Buffer.{place_after, laid, laid_if_room}
use Rattle.words.proofs.BufferLaws.{placed_at, placed_full}
use Rattle.captures.specs.declared.Binding.{Binding}
use Rattle.parses.specs.Ranges.{NodeRange, ranges_in}
use Rattle.parses.specs.Parses.{Parse, lookup}
use Rattle.parentheses.specs.Parentheses.{Part, total}
use Rattle.rendering.specs.Events as events
use Rattle.rendering.specs.Texts.{Fragment, is_parsed, parts_of}
use Rattle.rendering.specs.Traces.{Trace, stopped, ◌then◌, traces_of, judged_trace, match_trace}
use Rattle.rows.specs.declared.frames.Frame.{Frame}
use Rattle.rows.specs.Rows.{World, slot_hole, row_trace}
use Rattle.rows.specs.Frames.{between, Begun, Ends, Bursts}
use Rattle.rows.proofs.BetweenLaws.{length-between, grows_laid}
use Rattle.replacing.specs.declared.Event.{Event}
use Rattle.replacing.specs.declared.Event.TheVariants.{NoRoom, Asked}
use Rattle.rerendering.specs.Parts.{measured_parts}
use Rattle.rerendering.specs.Endings.{rendered_again, PutAgain, Shows, Rendered, Answers, Ended}
use Rattle.rerendering.proofs.PartLaws.{EachStands, parts_are, total_is}

-- a rendering in these texts goes by the parse of all of them
match_is : (kind : ℕ) (fs : List Fragment) (comments : List ℕ) (parse : ℕ → List ℕ → Option (List NodeRange)) (hole : ℕ → Bool → Trace) (ts : List (List ℕ))
    → traces_of hole fs ≡ Ok ts
    → match_trace kind fs comments parse hole ≡ (cond (is_parsed kind) (judged_trace kind fs ts (parse kind (concat ts))) (Ok (concat ts)) then Ok comments)
unfolding match_trace
match_is kind fs comments parse hole ts h = rw h

module _ {W : World} {k : ℕ} {bindings : List (Option Binding)} {f : Frame} {xs : List Fragment} {kind : ℕ} {parses : List Parse} {out : List ℕ} {at : ℕ}
    (s : Shows W k bindings f xs kind parses out at) where
  abbrev begun : Begun W k f out at
  begun = s.passing.begun

  abbrev texts : List (List ℕ)
  texts = begun.texts

  abbrev rendering : List ℕ
  rendering = between f.begin at out

  -- the trace of each fragment
  traces_are : traces_of (slot_hole W k) (W.fragments k) ≡ Ok texts
  traces_are =
      let e : take f.passed (W.fragments k) ≡ W.fragments k = rw s.are_passed (take-length (W.fragments k)) in
      rw e at begun.are

  -- the row's trace goes by the parse of what stands in the buffer
  row_is : (b : Bool) (l : Option (List NodeRange)) → is_parsed kind ≡ b → lookup parses kind rendering ≡ l
      → row_trace W k ≡ (cond b (judged_trace (W.kind k) (W.fragments k) texts l) (Ok rendering) then Ok (W.comments k))
  row_is b l e g =
      let p : is_parsed (W.kind k) ≡ b = ap is_parsed s.is_kind ∙ e in
      let h : W.parse (W.kind k) (concat texts) ≡ l =
      ap₂ (λ (p : ℕ → List ℕ → Option (List NodeRange)) (n : ℕ). p n (concat texts)) s.is_parse s.is_kind ∙ (rw s.passing.laid at g) in
      match_is (W.kind k) (W.fragments k) (W.comments k) W.parse (slot_hole W k) texts traces_are ∙ rw (p, h, s.passing.laid)

  text-length : length rendering ≡ at - f.begin
  text-length = length-between f.begin at out begun.ends

  -- each placeholder has its slot's text in the buffer
  each_stands : EachStands f (W.fragments k)
  each_stands i slot is_receiver others l e =
      begun.stand i slot is_receiver others l (omega (arith, s.are_passed, ap length e, length-drop i (W.fragments k))) e

  -- the parts are those of the texts
  measured_is : length bindings ≡ 8 → measured_parts bindings f xs ≡ parts_of (W.fragments k) texts
  measured_is eight =
      ap₂ (λ (bs : List (Option Binding)) (fs : List Fragment). measured_parts bs f fs) (sym s.are_bindings) (sym s.are_fragments)
      ∙ parts_are W k f out at begun.ends (ap length s.are_bindings ∙ eight) begun.slots (W.fragments k) texts each_stands traces_are

  -- they are as long as what stands in the buffer
  measured_total : length bindings ≡ 8 → total (measured_parts bindings f xs) ≡ at - f.begin
  measured_total eight =
      rw (measured_is eight) (total_is (W.fragments k) texts (omega (arith, s.are_passed, begun.many)) ∙ (rw s.passing.laid at text-length))

  -- a kind that is not parsed
  stays_so : is_parsed kind ≡ false → Rendered W k f out at
  unfolding ◌then◌
  stays_so h = record { begins = begun.begins; ends = begun.ends; is = row_is false (lookup parses kind rendering) h refl }

  module _ (h : is_parsed kind ≡ true) where
    -- it is asked for
    is_asked_lem : lookup parses kind rendering ≡ None → Ends W k f at (events.Asked (W.kind k) rendering)
    unfolding ◌then◌
    is_asked_lem e =
        row_is true None h e
        ∙ ap₂ (λ (n : ℕ) (t : List ℕ). stopped n (events.Asked (W.kind k) t)) (rw s.passing.laid at text-length) (sym s.passing.laid)

    -- it does not parse
    stays_unparsed : lookup parses kind rendering ≡ Some [] → Rendered W k f out at
    unfolding ◌then◌
    stays_unparsed e = record { begins = begun.begins; ends = begun.ends; is = row_is true (Some []) h e ∙ rw s.passing.laid }

    -- it is rendered again, with parentheses
    module _ (eight : length bindings ≡ 8) (rs : List NodeRange) (some : 0 < length rs) (e : lookup parses kind rendering ≡ Some rs) where
      abbrev text_again : List ℕ
      text_again = rendered_again rs (measured_parts bindings f xs) rendering

      again_is : row_trace W k ≡ Ok (text_again ++ W.comments k)
      unfolding ◌then◌
      again_is = by rs some e
        where
          by : (rs : List NodeRange) → 0 < length rs → lookup parses kind rendering ≡ Some rs
              → row_trace W k ≡ Ok (rendered_again rs (measured_parts bindings f xs) rendering ++ W.comments k)
          by [] h₀ e₀ = absurd (omega arith)
          by (r ∷ rs) h₀ e₀ = row_is true (Some (r ∷ rs)) h e₀ ∙ rw (measured_is eight, s.passing.laid)

      -- where there is room for it, and where not
      again_fits : (behind : ℕ) (out' : List ℕ) → place_after (length out) f.begin (length text_again) ≡ Some behind → out' ≡ laid_if_room out f.begin text_again
          → Rendered W k f out' behind
      again_fits behind out' g o =
          let p = placed_at out f.begin text_again behind g in
          let w = grows_laid out f.begin text_again p.1 in
          let u : out' ≡ laid out f.begin text_again = o ∙ p.2 in
          rw (u, sym p.0) (record { begins = w.rise; ends = w.ends; is = rw w.new again_is })

      again_full : place_after (length out) f.begin (length text_again) ≡ None → Bursts W k f out
      again_full g =
          let p = placed_full out f.begin text_again g in
          rw again_is (omega (arith, p.0, length-append text_again (W.comments k)))

-- ---- what each answer says

module _ (bindings : List (Option Binding)) (f : Frame) (xs : List Fragment) (kind : ℕ) (parses : List Parse) (out : List ℕ) (at : ℕ) where
  pub stays : is_parsed kind ≡ false → Ended bindings f xs kind parses out at out (Ok at)
  stays h = record { answers = λ W k s. stays_so s h }

  -- the parts are as long as the rendering
  pub whole : (W : World) (k : ℕ) → Shows W k bindings f xs kind parses out at → length bindings ≡ 8 → total (measured_parts bindings f xs) ≡ at - f.begin
  whole W k s eight = measured_total s eight

  module _ (h : is_parsed kind ≡ true) where
    pub asked : (r : Result ℕ Event) → lookup parses kind (between f.begin at out) ≡ None → r ≡ Err (Asked kind f.begin at)
        → Ended bindings f xs kind parses out at out r
    asked r e g = record {
      answers = λ W k s. rw g (record { is_kind = sym s.is_kind; begins = refl; stands = refl; ends = is_asked_lem s h e }, refl);
    }

    pub unparsed : (pairs : List (List ℕ)) → lookup parses kind (between f.begin at out) ≡ Some (ranges_in pairs) → length pairs ≡ 0
        → Ended bindings f xs kind parses out at out (Ok at)
    unparsed [] e n = record { answers = λ W k s. stays_unparsed s h e }
    unparsed (p ∷ ps) e n = absurd (omega arith)

    pub again : (eight : length bindings ≡ 8) (pairs : List (List ℕ)) (out' : List ℕ) (a : Option ℕ) (r : Result ℕ Event) (parts : List Part)
        → lookup parses kind (between f.begin at out) ≡ Some (ranges_in pairs) → (length pairs ≡ 0 → ⊥) → parts ≡ measured_parts bindings f xs
        → PutAgain (ranges_in pairs) parts f.begin at out out' a → r ≡ ok_or a NoRoom → Ended bindings f xs kind parses out at out' r
    again eight pairs out' a r parts e n m p g = record {
      answers = λ W k s. rw g (by W k s a (p.answers ∙ rw m) (p.leaves ∙ rw m));
    }
      where
        rs : List NodeRange
        rs = ranges_in pairs

        some_of : (l : List (List ℕ)) → (length l ≡ 0 → ⊥) → 0 < length (ranges_in l)
        some_of [] n = absurd (n refl)
        some_of (p ∷ l) n = omega arith

        by : (W : World) (k : ℕ) (s : Shows W k bindings f xs kind parses out at) (a : Option ℕ)
            → a ≡ place_after (length out) f.begin (length (rendered_again rs (measured_parts bindings f xs) (between f.begin at out)))
            → out' ≡ laid_if_room out f.begin (rendered_again rs (measured_parts bindings f xs) (between f.begin at out)) → Answers W k f out at out' (ok_or a NoRoom)
        by W k s (Some behind) q l = again_fits s h eight rs (some_of pairs n) e behind out' (sym q) l
        by W k s None q l = again_full s h eight rs (some_of pairs n) e (sym q)
