-- The edit list of a job's rows. Document 01: "Then the list is written from front to back .. Every byte is laid where it will stand: an edit's
-- three words before its text".
-- Assumes nothing.
use Rattle.std.specs.Prelude.{ℕ, List, length, Result}
use Rattle.syntax.specs.Trees.{tree}
use Rattle.syntax.specs.Accessors.{range_of, element_at}
use Rattle.rendering.specs.Events.{Event}
use Rattle.rendering.specs.Traces.{Trace, within}
use Rattle.edits.specs.Traces.{edit_trace, list_trace}
use Rattle.replacing.specs.declared.Event as declared
use Rattle.rows.specs.Rows.{World}
use Rattle.collections.specs.Worlds.{outer_item, outer_items}
use Rattle.render_replace.specs.Answers.{Answers}
use Rattle.render_replace.specs.Worlds.{Handed, Shown}

-- the range of a node, by the words of its tree
abbrev pub node_start : List ℕ → ℕ → ℕ
node_start words n = (range_of (element_at n (tree words))).start

abbrev pub node_end : List ℕ → ℕ → ℕ
node_end words n = (range_of (element_at n (tree words))).end

-- the edit of a text in the place of a range
abbrev pub edit_over : ℕ → ℕ → Trace → Trace
edit_over start end text = edit_trace (λ _. start) (λ _. end) 0 text

-- the edit of row k, where it is outer, and those of all rows
abbrev pub row_edit : List ℕ → World → ℕ → Trace
row_edit words W k = list_trace (node_start words) (node_end words) (outer_item W k)

abbrev pub row_edits : List ℕ → World → Trace
row_edits words W = list_trace (node_start words) (node_end words) (outer_items W)

-- and in a buffer that is used whole
abbrev pub edits_within : List ℕ → World → List ℕ → Result (List ℕ) Event
edits_within words W out = within (row_edits words W) (length out)

-- what is laid from a place on, in each world that is shown: the edit of row k, and those of all rows
pub record EditLeft (h : Handed) (k at : ℕ) (out' : List ℕ) (r : Result ℕ declared.Event) : Type 0 where
  pub left : (W : World) → Shown W h → Answers (row_edit h.file.words W k) at out' r

pub record EditsLeft (h : Handed) (out' : List ℕ) (r : Result ℕ declared.Event) : Type 0 where
  pub left : (W : World) → Shown W h → Answers (row_edits h.file.words W) 0 out' r
