-- THE TEXTS: the trace of a row's text is that of its match, with the rows nested in it as the collections of its captured ranges.
-- Assumes nothing.
use Prim.Native.Nat.{ℕ, zero, suc, ◌+◌, ◌-◌, ◌<◌}
use mathlib.Core.Path.{◌≡◌, sym, ap, ◌∙◌}
use mathlib.Core.Bool.{Bool, true, false, cond}
use mathlib.Core.List.{List, [], ◌∷◌, ◌++◌}
use native.Mathlib.Omega.{arith}
use lib.ListN.{length}
use Rattle.std.specs.Prelude.{Ok}
use Rattle.std.proofs.lemmas.List.{drop_all}
use Rattle.words.specs.Texts.{part}
use Rattle.syntax.specs.Trees.{Elems}
use Rattle.nester.specs.Fates.{inside, Placed, shown}
use Rattle.nester.specs.Places.{Item, laid}
use Rattle.nester.specs.declared.Row.{Row}
use Rattle.nester.specs.Rows.{row_at, match_in, rows_in, Candidates, Held}
use Rattle.rendering.specs.Texts.{Setting}
use Rattle.rendering.specs.Traces.{Trace, ◌then◌, hole_trace, match_trace, filled_trace, rendered_trace}
use Rattle.rows.specs.Rows.{World, binding_of, is_nested, row_trace_by, fill_trace, slot_fill, row_trace}
use Rattle.collections.specs.Worlds.{world_of, rows_from}
use Rattle.collections.proofs.EachLaws.{rows_next}
use Rattle.collections.proofs.Collected.{tells_nested, item_by, row_first}

module _ (t : Elems) (comments : ℕ → ℕ → List ℕ) (S : Setting) (rows : List Row) (given : Candidates t rows) (held : Held rows (length rows)) where
  abbrev W : World
  W = world_of comments S rows

  -- what is rendered in a slot of row k, by the rows behind
  abbrev in_slot : ℕ → List Placed → ℕ → List (Item Trace)
  in_slot k l slot = laid t (rendered_trace S) (shown l (inside (match_in comments (row_at rows k)) slot))

  -- a row's text, by what fills its slots
  row_text : (k : ℕ) (fill : ℕ → ℕ → ℕ → Trace) (inner : ℕ → List (Item Trace))
      → ((slot from to : ℕ) → fill slot from to ≡ filled_trace S from to (inner slot))
      → row_trace_by W k fill ≡ rendered_trace S (match_in comments (row_at rows k)) inner
  row_text k fill inner e =
      λ d. match_trace (W.kind k) (W.fragments k) (W.comments k) W.parse (λ slot r. hole_trace (binding_of W k slot) r (λ from to. e slot from to d))

  -- what fills a slot of row k from row j on
  fill_text : (m j k slot from to : ℕ) → j + m ≡ length rows → k < length rows
      → fill_trace W m k slot from to j ≡ filled_trace S from to (in_slot k (rows_from comments rows j) slot)
  unfolding fill_trace filled_trace shown laid
  fill_text zero j k slot from to e h =
      sym (ap (λ (l : List Row). filled_trace S from to (in_slot k (rows_in comments rows l) slot)) (drop_all j rows (omega arith)))
  fill_text (suc m) j k slot from to e h =
      let place = inside (match_in comments (row_at rows k)) slot in
      go (is_nested rows k slot j) (λ k h slot from to. fill_text m (j + 1) k slot from to (omega arith) h)
      ∙ ap (filled_trace S from to) (sym (ap (λ (l : List Placed). laid t (rendered_trace S) (shown l place)) (rows_next comments rows j (omega arith))
      ∙ row_first t comments rows (rendered_trace S) place j rest (is_nested rows k slot j)
      (tells_nested t comments rows given held k slot j h (omega arith))))
    where
      rest : List Placed
      rest = rows_from comments rows (j + 1)

      own : Trace
      own = row_trace_by W j (λ slot from to. fill_trace W m j slot from to (j + 1))

      go : (b : Bool)
          → ((k : ℕ) → k < length rows → (slot from to : ℕ) → fill_trace W m k slot from to (j + 1) ≡ filled_trace S from to (in_slot k rest slot))
          → cond b (Ok (part S.file from (W.start_of j)) then own then fill_trace W m k slot (W.end_of j) to (j + 1))
          (fill_trace W m k slot from to (j + 1))
          ≡ filled_trace S from to (cond b (item_by t comments rows (rendered_trace S) j rest ∷ []) [] ++ in_slot k rest slot)
      go true on =
          let fill : ℕ → ℕ → ℕ → Trace = λ slot from to. fill_trace W m j slot from to (j + 1) in
          let own-text = row_text j fill (in_slot j rest) (on j (omega arith)) in
          λ d. Ok (part S.file from (W.start_of j)) then own-text d then on k h slot (W.end_of j) to d
      go false on = on k h slot from to

  -- the text of row k
  pub row_trace_lem : (k : ℕ) → k < length rows
      → row_trace W k ≡ rendered_trace S (match_in comments (row_at rows k)) (in_slot k (rows_from comments rows (k + 1)))
  row_trace_lem k h =
      row_text k (slot_fill W k) (in_slot k (rows_from comments rows (k + 1)))
      (λ slot from to. fill_text (length rows - (k + 1)) (k + 1) k slot from to (omega arith) h)
