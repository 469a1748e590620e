-- Laws of a row and its template.
-- Assumes nothing.
use mathlib.Core.Path.{◌≡◌, refl, sym, ap, subst, ◌∙◌}
use mathlib.Core.List.{List}
use Prim.Native.Nat.{ℕ, ◌≤◌, ◌<◌}
use native.Mathlib.Omega.{arith}
use lib.ListN.{length, take, length-map, get_or}
use lib.Seq.{length-take-le}
use Rattle.std.specs.Prelude.{true, map, Some, is_some, Result}
use Rattle.rendering.specs.Texts.{Fragment}
use Rattle.nester.specs.declared.Row.{Row}
use Rattle.nester.specs.Rows.{no_row, row_at}
use Rattle.std.proofs.lemmas.List.{get_or_default}
use Rattle.parses.specs.Parses.{Parse}
use Rattle.rows.specs.declared.frames.Frame.{Frame}
use Rattle.rows.specs.Rows.{World}
use Rattle.rows.specs.Frames.{frame_of}
use Rattle.replacing.specs.declared.Event.{Event}
use Rattle.replacing.specs.declared.Step.{Step}
use Rattle.replacing.specs.declared.Matches.{Matches}
use Rattle.replacing.specs.Steps.{FramesFor}
use Rattle.checks.specs.declared.Rules.{Rules}
use Rattle.checks.specs.Given.{found_rule}
use Rattle.templates.specs.declared.Piece.{Piece}
use Rattle.readying.specs.declared.ReadyTemplate.{ReadyTemplate}
use Rattle.readying.specs.Templates.{found_template}
use Rattle.readying.specs.Ready.{told_fragment, Tells, TemplateOf}
use Rattle.render_replace.specs.Worlds.{Handed, AtHand}
use Rattle.render_replace.specs.Turns.{AtTemplate, StepsEnd, AtRow, RowLeft}

-- a row that is read
pub row_read : (rows : List Row) (k : ℕ) (d : Row) → k < length rows → get_or rows k d ≡ row_at rows k
row_read rows k d h = get_or_default rows k d no_row h

-- the template that was made ready is at hand
pub at_hand : (q : Rules) (n m : ℕ) (t : ReadyTemplate) (pieces : List Piece) → TemplateOf q n m t pieces → AtHand q (Some t) pieces
at_hand q n m t pieces h = record {
  rule = refl;
  module_is = refl;
  tells = subst (λ (x : ℕ). Tells (found_template q (found_rule q x)) t.«module» t pieces) (sym h.rule)
      (subst (λ (y : ℕ). Tells (found_template q (found_rule q n)) y t pieces) (sym h.module_is) h.tells);
}

-- its fragments
abbrev pub fragments_by : List ℕ → ReadyTemplate → List Piece → List Fragment
fragments_by fact_text t pieces = map (told_fragment fact_text t.code.now t.facts.now) (take t.count pieces)

pub few_fragments : (q : Rules) (n m : ℕ) (t : ReadyTemplate) (pieces : List Piece) (fact_text : List ℕ) → TemplateOf q n m t pieces
    → length (fragments_by fact_text t pieces) ≤ length pieces
few_fragments q n m t pieces fact_text h = omega (arith, length-map (take t.count pieces) (told_fragment fact_text t.code.now t.facts.now), length-take-le t.count pieces h.tells.within, h.tells.within)

module _ (W : World) (h : Handed) (k : ℕ) (frames : List Frame) (out : List ℕ) (at : ℕ) (p : AtRow W h k frames out at) where
  pub row_inside : k < length h.rows
  row_inside = omega (arith, p.inside, ap length p.shown.reads)

  pub has_template : is_some (found_template h.rules (found_rule h.rules (row_at h.rows k).rule)) ≡ true
  has_template = p.shown.templates k p.inside

  pub frame_there : k < length frames
  frame_there = omega (arith, p.inside, p.room)

  -- the template that was made ready is the row's
  module _ (m : Matches) (rows : m.rows.now ≡ h.rows) (words : m.tree.words.now ≡ h.file.words) (text : m.text.now ≡ h.file.text)
      (t : ReadyTemplate) (pieces : List Piece) (is : TemplateOf h.rules (row_at h.rows k).rule (row_at h.rows k).«module» t pieces) where
    -- the frames have room for the row and for those nested in it
    pub frames_for : FramesFor m k frames
    frames_for = record { here = frame_there; nested = rw rows (omega (arith, p.shown.last k p.inside, p.room)) }

    pub at_template : AtTemplate W m (fragments_by h.fact_text t pieces) t.kind h.parses k (frame_of frames k) out at
    at_template =
        let s = p.shown in
        record {
          at_step = record {
            shows = record {
              reads = s.reads ∙ sym rows;
              inside = p.inside;
              few = s.few;
              file = s.file ∙ sym text;
              starts = rw (rows, words) s.starts;
              ends = rw (rows, words) s.ends;
              nested = rw rows (s.nested k p.inside);
              last = rw rows (s.last k p.inside);
            };
            fragments_are = s.fragments k p.inside ∙ sym (is.tells.fragments h.fact_text);
            standing = p.standing;
          };
          is_kind = s.kinds k p.inside ∙ sym is.tells.kind;
          is_parse = s.parse;
        }

-- what its steps leave, in each world
pub row_left : (h : Handed) (m : Matches) (k : ℕ) (frames : List Frame) (out : List ℕ) (at : ℕ) (t : ReadyTemplate) (pieces : List Piece)
    (frames' : List Frame) (out' : List ℕ) (r : Result Step Event)
    → m.rows.now ≡ h.rows → m.tree.words.now ≡ h.file.words → m.text.now ≡ h.file.text
    → TemplateOf h.rules (row_at h.rows k).rule (row_at h.rows k).«module» t pieces
    → (xs : List Fragment) → xs ≡ fragments_by h.fact_text t pieces → (parses : List Parse) → parses ≡ h.parses
    → StepsEnd m xs t.kind parses k frames out at frames' out' r → RowLeft h k frames out at frames' out' r
row_left h m k frames out at t pieces frames' out' r rows words text is xs e parses i s = record {
  left = λ W p. (rw (e, i) at s).left W (at_template W h k frames out at p m rows words text t pieces is);
}
