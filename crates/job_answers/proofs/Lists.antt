-- The items of a collection follow each other in the file, and an edit list in a room is no longer than the room.
-- Assumes nothing.
use mathlib.Core.Path.{◌≡◌, sym, ap, ◌∙◌}
use mathlib.Core.List.{List}
use Prim.Native.Nat.{ℕ, ◌≤◌, ◌<◌}
use native.Mathlib.Omega.{arith}
use lib.ListN.{length}
use Rattle.words.proofs.TestLaws.{low_or}
use Rattle.syntax.specs.Trees.{Elems, size}
use Rattle.nester.specs.Matches.{Match}
use Rattle.nester.specs.Nest.{Nest, start_at, end_at, Apart, In}
use Rattle.nester.specs.Places.{Item, items}
use Rattle.nester.proofs.Lists.{All, Pairwise, all_map, all_zip}
use Rattle.nester.proofs.Lines.{Laws}
use Rattle.nester.proofs.Placing.{Known, Ahead, perm_all, items_row, row_known, items_ahead}
use Rattle.std.proofs.Common.{Result, Ok, Err}
use Rattle.rendering.specs.Events.{Event, after, Text}
use Rattle.rendering.specs.Texts.{Setting, rendered}
use Rattle.rendering.specs.Traces.{Trace, within, reach, rendered_trace}
use Rattle.rendering.proofs.RoomLaws.{outcome, within-fits, within_full}
use Rattle.rendering.proofs.Theorem.{items-within}
use Rattle.edits.specs.Edits.{Edit, encode, write}
use Rattle.edits.specs.Traces.{list_trace}
use Rattle.edits.proofs.MadeLaws.{Follow}
use Rattle.edits.proofs.TraceLaws.{write-within}

-- ---- the items

module _ (t : Elems) {n : ℕ} (laws : Laws t n) {T : Type 0} where
  follow : (from : ℕ) {l : List (Item T)} → from ≤ n → All (λ x. Known t laws x × (from ≤ start_at t x.node)) l → Pairwise (Ahead t laws) l
      → Follow (λ i. start_at t i) (λ i. end_at t i) from n l
  follow from h All.nil Pairwise.nil = h
  follow from h (All.more {x = x} k ks) (Pairwise.more a aa) = (
    k.1,
    laws.ordered x.node k.0,
    follow (end_at t x.node) (laws.in_text x.node k.0) (all_zip (λ y i j. (i.0, j)) ks a) aa,
  )

  pub items-follow : (render : Match → (ℕ → List (Item T)) → T) (c : Nest) → Apart t c → ((x : Match) → In x c → x.node < size t)
      → Follow (λ i. start_at t i) (λ i. end_at t i) 0 n (items t render c)
  items-follow render c a known =
      follow 0 (omega arith) (all_map (λ x k. (k, omega arith)) (perm_all (items_row t render c) (row_known t laws render c known)))
      (items_ahead t laws render c a known)

-- ---- the room

fits : (u : Trace) (room : ℕ) (bs : List ℕ) → within u room ≡ Ok bs → length bs ≤ room
fits u room bs h =
    low_or room (reach u) (λ l. absurd (let e = sym (within_full u room l) ∙ h in cc))
    (λ l. by u l (sym (within-fits u room l) ∙ h))
  where
    by : (u : Trace) → reach u ≤ room → outcome u ≡ Ok bs → length bs ≤ room
    by (Ok xs) l e = let z : xs ≡ bs = cc in rw (← z) l
    by (Err s) l e = absurd cc

pub list_fits : (start_of end_of : ℕ → ℕ) (S : Setting) (t : Elems) (c : Nest) (room : ℕ) (es : List Edit)
    → write start_of end_of room (items t (rendered S) c) ≡ Ok es → length (encode es) ≤ room
list_fits start_of end_of S t c room es h =
    let l = items t (rendered_trace S) c in
    fits (list_trace start_of end_of l) room (encode es)
    (sym (write-within start_of end_of l room)
    ∙ ap (λ (o : Result (List Edit) Event). after o λ es. Ok (encode es))
    (ap (λ (xs : List (Item Text)). write start_of end_of room xs) (sym (items-within S t c)) ∙ h))
