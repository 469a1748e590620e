-- Linked rows show what they showed: the places, the matches and the order of rows do not read an end.
-- Assumes nothing.
use Prim.Native.Nat.{ℕ, suc, zero}
use mathlib.Core.Path.{◌≡◌, refl, sym, ap, subst, ◌∙◌}
use mathlib.Core.List.{List, [], ◌∷◌, ◌++◌, map}
use native.Mathlib.Omega.{arith}
use lib.ListN.{length}
use Rattle.std.specs.Prelude.{Some}
use Rattle.std.specs.List.{flat_map}
use Rattle.syntax.specs.Trees.{Elems}
use Rattle.nester.specs.Fates.{within, Placed}
use Rattle.nester.specs.declared.Nesting.{Nesting}
use Rattle.nester.specs.declared.Nesting.TheVariants.{NoMatch, NotKept, Outermost, Inside}
use Rattle.nester.specs.declared.Row.{Row}
use Rattle.nester.specs.Rows.{row_at, place_of, placed, match_in, placed_in, rows_in, Candidates, IsBefore, Held}
use Rattle.collections.specs.Links.{unlinked, Linked}

-- rows that agree but for their ends, as lists
same_unlinked : (a b : List Row) → length b ≡ length a → ((i : ℕ) → unlinked (row_at b i) ≡ unlinked (row_at a i)) → map unlinked b ≡ map unlinked a
same_unlinked [] [] e f = refl
same_unlinked [] (y ∷ b) e f = absurd (omega arith)
same_unlinked (x ∷ a) [] e f = absurd (omega arith)
same_unlinked (x ∷ a) (y ∷ b) e f = λ d. f zero d ∷ same_unlinked a b (omega arith) (λ i. f (suc i)) d

rows-unlinked : (comments : ℕ → ℕ → List ℕ) (rows l : List Row) → rows_in comments rows l ≡ rows_in comments rows (map unlinked l)
rows-unlinked comments rows [] = refl
rows-unlinked comments rows (r ∷ l) = ap (λ (x : List Placed). placed_in comments rows r ++ x) (rows-unlinked comments rows l)

module _ (t : Elems) (rows rows' : List Row) (o : Linked rows rows') where
  node-same : (i : ℕ) → (row_at rows' i).node ≡ (row_at rows i).node
  node-same i = ap (λ (r : Row). r.node) (o.others i)

  rule-same : (i : ℕ) → (row_at rows' i).rule ≡ (row_at rows i).rule
  rule-same i = ap (λ (r : Row). r.rule) (o.others i)

  place-same : (state : Nesting) → place_of rows' state ≡ place_of rows state
  place-same NoMatch = refl
  place-same NotKept = refl
  place-same Outermost = refl
  place-same (Inside row slot) = λ d. Some (within (node-same row d) (rule-same row d) slot)

  pub linked_rows : (comments : ℕ → ℕ → List ℕ) → rows_in comments rows' rows' ≡ rows_in comments rows rows
  linked_rows comments =
      (λ d. flat_map (λ r. placed (match_in comments r) (place-same r.state d)) rows')
      ∙ rows-unlinked comments rows rows' ∙ ap (λ (l : List Row). rows_in comments rows l) (same_unlinked rows rows' o.long o.others)
      ∙ sym (rows-unlinked comments rows rows)

  pub linked_candidates : Candidates t rows → Candidates t rows'
  linked_candidates given = record {
    few = omega (arith, given.few, o.long);
    known = λ i h. rw (node-same i) (given.known i (omega (arith, o.long)));
    rising = λ i j l h. rw (node-same i, node-same j) (given.rising i j l (omega (arith, o.long)));
    distinct = λ i j l h p q. given.distinct i j l (omega (arith, o.long)) (sym (node-same i) ∙ p ∙ node-same j) (sym (rule-same i) ∙ q ∙ rule-same j);
  }

  pub linked_held : Held rows (length rows) → Held rows' (length rows')
  linked_held held i h =
      subst (λ (s : Nesting). IsBefore i s) (sym (ap (λ (r : Row). r.state) (o.others i))) (held i (omega (arith, o.long)))
