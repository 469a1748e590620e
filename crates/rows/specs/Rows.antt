-- A job's matches, by node and then rule, as rendering reads them: nester's rows, once they are nested.
-- Assumes nothing.
use Rattle.std.specs.Prelude.{ℕ, zero, suc, ◌+◌, ◌-◌, ◌<◌, ◌≡◌, Bool, true, false, cond, ◌&&◌, List, eqb, length, Option, None, Some, Ok}
use Rattle.words.specs.Texts.{part}
use Rattle.captures.specs.declared.Binding.{Binding}
use Rattle.parses.specs.Ranges.{NodeRange}
use Rattle.nester.specs.declared.Nesting.{Nesting}
use Rattle.nester.specs.declared.Nesting.TheVariants.{NoMatch, NotKept, Outermost, Inside}
use Rattle.nester.specs.declared.Row.{Row}
use Rattle.nester.specs.Rows.{row_at}
use Rattle.rendering.specs.Texts.{Fragment, binding_at}
use Rattle.rendering.specs.Traces.{Trace, ◌then◌, hole_trace, match_trace}

-- a state says a slot of row k
abbrev pub is_inside : ℕ → ℕ → Nesting → Bool
is_inside k slot NoMatch = false
is_inside k slot NotKept = false
is_inside k slot Outermost = false
is_inside k slot (Inside row taken) = eqb row k && eqb taken slot

-- row j is nested in a slot of row k
abbrev pub is_nested : List Row → ℕ → ℕ → ℕ → Bool
is_nested rows k slot j = is_inside k slot (row_at rows j).state

-- the rows, the file's text, and for each row the range of its node, its template's fragments and kind, and its comments; and the parses
pub record World : Type 0 where
  pub rows : List Row
  pub file : List ℕ
  pub start_of : ℕ → ℕ
  pub end_of : ℕ → ℕ
  pub fragments : ℕ → List Fragment
  pub kind : ℕ → ℕ
  pub comments : ℕ → List ℕ
  pub parse : ℕ → List ℕ → Option (List NodeRange)

abbrev pub count_of : World → ℕ
count_of W = length W.rows

-- the binding of a slot, and its range in the file; one that is not bound has none
abbrev pub binding_of : World → ℕ → ℕ → Option Binding
binding_of W k slot = binding_at slot (row_at W.rows k).bindings

abbrev pub start_in : Option Binding → ℕ
start_in None = 0
start_in (Some b) = b.start

abbrev pub end_in : Option Binding → ℕ
end_in None = 0
end_in (Some b) = b.end

-- the trace of row k's text, by that of each of its captured ranges
abbrev pub row_trace_by : World → ℕ → (ℕ → ℕ → ℕ → Trace) → Trace
row_trace_by W k fill =
    match_trace (W.kind k) (W.fragments k) (W.comments k) W.parse
    (λ slot is_receiver. hole_trace (binding_of W k slot) is_receiver (fill slot))

-- the file's bytes from one place to another, with the texts of the rows that are nested in a slot of row k, m rows being left from j on
unfoldable pub fill_trace : World → ℕ → ℕ → ℕ → ℕ → ℕ → ℕ → Trace
fill_trace W zero k slot from to j = Ok (part W.file from to)
fill_trace W (suc m) k slot from to j =
    cond (is_nested W.rows k slot j)
    (Ok (part W.file from (W.start_of j)) then row_trace_by W j (λ s f t. fill_trace W m j s f t (j + 1)) then fill_trace W m k slot (W.end_of j) to (j + 1))
    (fill_trace W m k slot from to (j + 1))

-- the captured text of row k's slot, and row k's text
abbrev pub slot_fill : World → ℕ → ℕ → ℕ → ℕ → Trace
slot_fill W k slot from to = fill_trace W (count_of W - (k + 1)) k slot from to (k + 1)

abbrev pub slot_filling : World → ℕ → ℕ → Trace
slot_filling W k slot = slot_fill W k slot (start_in (binding_of W k slot)) (end_in (binding_of W k slot))

abbrev pub slot_hole : World → ℕ → ℕ → Bool → Trace
slot_hole W k slot is_receiver = hole_trace (binding_of W k slot) is_receiver (slot_fill W k slot)

abbrev pub row_trace : World → ℕ → Trace
row_trace W k = row_trace_by W k (slot_fill W k)

-- no row from `end` on is nested in row k
abbrev pub NestedBefore : World → ℕ → ℕ → Type 0
NestedBefore W k end = (slot j : ℕ) → j < count_of W → is_nested W.rows k slot j ≡ true → j < end
