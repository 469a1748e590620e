-- THE THEOREMS: what a job renders, in the words of the definition, is what its rows show: the outer rows in turn with their texts, and in
-- every room the edit list of these.
-- Assumes nothing.
use Prim.Native.Nat.{ℕ, ◌+◌, ◌-◌, ◌<◌}
use mathlib.Core.Path.{◌≡◌, sym, ap, subst, ◌∙◌, fun_ext}
use mathlib.Core.Bool.{cond}
use mathlib.Core.List.{List, [], ◌∷◌, ◌++◌, map}
use native.Mathlib.Omega.{arith}
use lib.ListN.{length, take}
use Rattle.std.specs.Prelude.{Option, Some, Ok}
use Rattle.syntax.specs.Trees.{Elems}
use Rattle.captures.specs.Attempts.{Attempt}
use Rattle.candidates.specs.Candidates.{Pairs}
use Rattle.candidates.proofs.EachLaws.{each_same}
use Rattle.nester.specs.Matches.{Match, matches, by_element}
use Rattle.nester.specs.Nest.{Nest, none, nest}
use Rattle.nester.specs.Fates.{Place, outer, inside, Placed, rows, shown}
use Rattle.nester.specs.Places.{Item, items, laid}
use Rattle.nester.specs.declared.Row.{Row}
use Rattle.nester.specs.Rows.{row_at, place_of, placed, match_in, rows_in, matches_in, Candidates, Held, Nested}
use Rattle.nester.proofs.Lines.{Laws}
use Rattle.nester.proofs.Orders.{element_apart, element_rising, element_known, rows_show, rows-laid}
use Rattle.rendering.specs.Events.{after, Text}
use Rattle.rendering.specs.Texts.{Setting, rendered}
use Rattle.rendering.specs.Traces.{Trace, within, rendered_trace}
use Rattle.rendering.proofs.Theorem.{as_text, items-within}
use Rattle.rows.specs.Rows.{World, row_trace}
use Rattle.edits.specs.Edits.{write, encode}
use Rattle.edits.specs.Traces.{list_trace}
use Rattle.edits.proofs.TraceLaws.{write-within}
use Rattle.collections.specs.Links.{Linked}
use Rattle.collections.specs.Worlds.{world_of, is_outer, outer_item, outer_items, each_from, rows_from}
use Rattle.collections.proofs.EachLaws.{each_from_first, rows_next, rows_split}
use Rattle.collections.proofs.Collected.{item_at, in_outer}
use Rattle.collections.proofs.Texts.{row_trace_lem}
use Rattle.collections.proofs.Slots.{Ordered, slot_items}
use Rattle.collections.proofs.Linked.{linked_rows, linked_candidates, linked_held}

-- nesting leaves rows of the same pairs, and nests none in a later one
module _ (t : Elems) (before after : List Row) (nested : Nested t before after) where
  pub nested_held : Held after (length after)
  nested_held i h = nested.held i (omega (arith, nested.long))

  pub nested_candidates : Candidates t before → Candidates t after
  nested_candidates given =
      let node : (i : ℕ) → (row_at after i).node ≡ (row_at before i).node = λ i. ap (λ (r : Row). r.node) (nested.stays i) in
      let rule : (i : ℕ) → (row_at after i).rule ≡ (row_at before i).rule = λ i. ap (λ (r : Row). r.rule) (nested.stays i) in
      record {
        few = omega (arith, given.few, nested.long);
        known = λ i h. rw (node i) (given.known i (omega (arith, nested.long)));
        rising = λ i j l h. rw (node i, node j) (given.rising i j l (omega (arith, nested.long)));
        distinct = λ i j l h p q. given.distinct i j l (omega (arith, nested.long)) (sym (node i) ∙ p ∙ node j) (sym (rule i) ∙ q ∙ rule j);
      }

-- what rows show outermost
module _ (t : Elems) (comments : ℕ → ℕ → List ℕ) (S : Setting) (all : List Row) (given : Candidates t all) (held : Held all (length all)) where
  -- row i, where it is outer, with what is rendered of it
  abbrev shown_item : ℕ → List (Item Trace)
  shown_item i = cond (is_outer (row_at all i).state) (item_at t comments all (rendered_trace S) i ∷ []) []

  abbrev with_text : ℕ → Trace → List (Item Trace)
  with_text i u = cond (is_outer (row_at all i).state) (record { node = (row_at all i).node; what = u } ∷ []) []

  pub shown-outer : laid t (rendered_trace S) (shown (rows_in comments all all) outer) ≡ outer_items (world_of comments S all)
  shown-outer =
      let e : length all - 0 ≡ length all = omega arith in
      in_outer t comments all (rendered_trace S) 0 (omega arith)
      ∙ ap (λ (m : ℕ). each_from m 0 shown_item) e
      ∙ each_from_first shown_item (length all)
      ∙ each_same shown_item (outer_item (world_of comments S all)) (length all)
      (λ i h. ap (with_text i) (sym (row_trace_lem t comments S all given held i h)))

-- OF A JOB: the rows of all its matches, as they were before nesting, as they are then, and with their links
module _ (t : Elems) {n : ℕ} (laws : Laws t n) (rules : ℕ) (attempt : ℕ → ℕ → Attempt) (pairs : Pairs)
    (comments : ℕ → ℕ → List ℕ) (S : Setting) (before mid all : List Row)
    (given : Candidates t before) (nested : Nested t before mid) (linked : Linked mid all)
    (found : matches_in comments before ≡ by_element t rules attempt pairs) where
  abbrev W : World
  W = world_of comments S all

  abbrev element : List Match
  element = by_element t rules attempt pairs

  abbrev collection : Nest
  collection = nest t (matches t rules attempt pairs) none

  given' : Candidates t all
  given' = linked_candidates t mid all linked (nested_candidates t before mid nested given)

  held' : Held all (length all)
  held' = linked_held t mid all linked (nested_held t before mid nested)

  -- the job's matches with their texts
  pub job_items : items t (rendered_trace S) (nest t (matches t rules attempt pairs) none) ≡ outer_items W
  job_items =
      rows-laid t laws rules attempt pairs (rendered_trace S) comments before mid nested found
      ∙ ap (λ (l : List Placed). laid t (rendered_trace S) (shown l outer)) (sym (linked_rows t mid all linked comments))
      ∙ shown-outer t comments S all given' held'

  -- the text of each kept row, in the definition's words
  abbrev in_slot : ℕ → ℕ → List (Item Trace)
  in_slot k slot = items t (rendered_trace S) (shown (rows_from comments all (k + 1)) (inside (match_in comments (row_at all k)) slot))

  pub job_text : (k : ℕ) → k < length all → (p : Place) → place_of all (row_at all k).state ≡ Some p
      → row_trace W k ≡ rendered_trace S (match_in comments (row_at all k)) (in_slot k)
  job_text k h p keeps =
      let m = match_in comments (row_at all k) in
      let row : Placed = record { match = m; place = p } in
      let behind = rows_from comments all (k + 1) in
      let is : rows_in comments all all ≡ rows t element [] = linked_rows t mid all linked comments ∙ nested.kept comments ∙ ap (λ (ms : List Match). rows t ms []) found in
      let split : rows_in comments all all ≡ rows_in comments all (take k all) ++ (row ∷ behind) =
      rows_split comments all k h ∙ ap (λ (l : List Placed). rows_in comments all (take k all) ++ l) (rows_next comments all k h
      ∙ ap (λ (q : Option Place). placed m q ++ behind) keeps) in
      let slots = slot_items t laws (rendered_trace S) element stands (rows_in comments all (take k all)) row behind (sym is ∙ split) in
      row_trace_lem t comments S all given' held' k h ∙ ap (rendered_trace S m) (sym (fun_ext slots))
    where
      order : Ordered t (nest t element none)
      order = record {
        apart = element_apart t laws rules attempt pairs;
        known = element_known t laws rules attempt pairs;
        rising = element_rising t laws rules attempt pairs;
      }

      stands : Ordered t (shown (rows t element []) outer)
      stands = subst (Ordered t) (sym (rows_show t laws rules attempt pairs)) order

  -- its edit list
  pub job_list : (start_of end_of : ℕ → ℕ) (room : ℕ)
      → (after (write start_of end_of room (items t (rendered S) (nest t (matches t rules attempt pairs) none))) λ es. Ok (encode es))
      ≡ within (list_trace start_of end_of (outer_items W)) room
  job_list start_of end_of room =
      ap (λ (l : List (Item Text)). after (write start_of end_of room l) λ es. Ok (encode es))
      (items-within S t collection ∙ ap (map as_text) job_items)
      ∙ write-within start_of end_of (outer_items W) room
