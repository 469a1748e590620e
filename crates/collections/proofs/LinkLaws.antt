-- Laws of links: no row from the end on is nested in a row, and one row linked after the other.
-- Assumes nothing.
use Prim.Native.Nat.{ℕ, zero, suc, ◌+◌, ◌≤◌, ◌<◌}
use mathlib.Core.Path.{◌≡◌, refl, sym, ap, subst, ◌∙◌}
use mathlib.Core.Bool.{Bool, true, false, cond, false≢true}
use mathlib.Core.List.{List}
use native.Mathlib.Omega.{arith}
use native.Mathlib.Numerals.{add-one}
use lib.Dec.{eqb}
use lib.ListN.{length, set, length-set}
use lib.Seq.{get_or-set_same, get_or-set_other}
use borrow.Author.Tests.{eqb-true, eq-eqb, ne_eqb}
use Rattle.words.proofs.TestLaws.{same_or, and_both}
use Rattle.nester.specs.declared.Nesting.{Nesting}
use Rattle.nester.specs.declared.Nesting.TheVariants.{NoMatch, NotKept, Outermost, Inside}
use Rattle.nester.specs.declared.Row.{Row}
use Rattle.nester.specs.Rows.{no_row, row_at, IsBefore, Held}
use Rattle.rows.specs.Rows.{World, count_of, is_inside, NestedBefore}
use Rattle.collections.specs.Links.{is_within, nested_end, unlinked, Linked}

-- a state that says a slot of row k says row k, which stands before the state's row
inside-within : (k slot : ℕ) (s : Nesting) → is_inside k slot s ≡ true → is_within k s ≡ true
inside-within k slot NoMatch h = h
inside-within k slot NotKept h = h
inside-within k slot Outermost h = h
inside-within k slot (Inside row taken) h = (and_both (eqb row k) (eqb taken slot) h).0

not_within : (k : ℕ) (s : Nesting) → ((row slot : ℕ) → s ≡ Inside row slot → ⊥) → is_within k s ≡ false
not_within k NoMatch h = refl
not_within k NotKept h = refl
not_within k Outermost h = refl
not_within k (Inside row slot) h = absurd (h row slot refl)

within_before : (i k : ℕ) (s : Nesting) → IsBefore i s → is_within k s ≡ true → k < i
within_before i k NoMatch b h = absurd (false≢true h)
within_before i k NotKept b h = absurd (false≢true h)
within_before i k Outermost b h = absurd (false≢true h)
within_before i k (Inside row taken) b h = omega (arith, eqb-true row k h)

module _ (rows : List Row) where
  end_next : (n k : ℕ) (b : Bool) → is_within k (row_at rows n).state ≡ b → nested_end rows (n + 1) k ≡ cond b (n + 1) (nested_end rows n k)
  unfolding nested_end
  end_next n k b e = rw (add-one n, e)

  end_start : (k : ℕ) → nested_end rows 0 k ≡ 0
  unfolding nested_end
  end_start k = refl

  -- the end is behind each row that is nested, and no further than all of them
  end_behind : (n k j : ℕ) → j < n → is_within k (row_at rows j).state ≡ true → j < nested_end rows n k
  end_behind zero k j h e = absurd (omega arith)
  end_behind (suc n) k j h e = rw (← (add-one n)) (go (is_within k (row_at rows n).state) refl (λ l. end_behind n k j l e))
    where
      go : (b : Bool) → is_within k (row_at rows n).state ≡ b → (j < n → j < nested_end rows n k) → j < nested_end rows (n + 1) k
      go true q on = omega (arith, end_next n k true q)
      go false q on =
          same_or j n (λ z. absurd (false≢true (sym q ∙ subst (λ (i : ℕ). is_within k (row_at rows i).state ≡ true) z e)))
          (λ ne. omega (arith, end_next n k false q, on (omega (arith, ne))))

  pub end_low : (n k : ℕ) → nested_end rows n k ≤ n
  end_low zero k = omega (arith, end_start k)
  end_low (suc n) k = rw (← (add-one n)) (go (is_within k (row_at rows n).state) refl (end_low n k))
    where
      go : (b : Bool) → is_within k (row_at rows n).state ≡ b → nested_end rows n k ≤ n → nested_end rows (n + 1) k ≤ n + 1
      go true q on = omega (arith, end_next n k true q)
      go false q on = omega (arith, end_next n k false q, on)

-- no row from the end on is nested in it
pub nested-before : (W : World) (k : ℕ) → NestedBefore W k (nested_end W.rows (count_of W) k)
nested-before W k slot j h e = end_behind W.rows (count_of W) k j h (inside-within k slot (row_at W.rows j).state e)

-- so a row's end tells how far to look, before the links and then
pub linked_before : (W : World) (rows' : List Row) → Linked W.rows rows' → (k : ℕ) → k < count_of W
    → NestedBefore W k (row_at rows' k).end × ((row_at rows' k).end ≤ count_of W)
linked_before W rows' o k h = rw (o.ends k h) (nested-before W k, end_low W.rows (count_of W) k)

-- the first j rows are linked
pub record LinkedTo (j : ℕ) (rows rows' : List Row) : Type 0 where
  pub long : length rows' ≡ length rows
  pub ends : (k : ℕ) → k < length rows → (row_at rows' k).end ≡ nested_end rows j k
  pub others : (k : ℕ) → unlinked (row_at rows' k) ≡ unlinked (row_at rows k)

pub linked_none : (rows : List Row) → ((k : ℕ) → k < length rows → (row_at rows k).end ≡ 0) → LinkedTo 0 rows rows
linked_none rows none = record { long = refl; ends = λ k h. none k h ∙ sym (end_start rows k); others = λ k. refl }

module _ (rows : List Row) (j : ℕ) (low : j < length rows) (rows' : List Row) (o : LinkedTo j rows rows') where
  pub state-same : (row_at rows' j).state ≡ (row_at rows j).state
  state-same = ap (λ (r : Row). r.state) (o.others j)

  -- a row that is not nested
  pub linked_by : ((row slot : ℕ) → (row_at rows' j).state ≡ Inside row slot → ⊥) → LinkedTo (j + 1) rows rows'
  linked_by h = record {
    long = o.long;
    ends = λ k l. o.ends k l ∙ sym (end_next rows j k false (ap (is_within k) (sym state-same) ∙ not_within k (row_at rows' j).state h));
    others = o.others;
  }

  -- a row that is
  module _ (at slot : ℕ) (is : (row_at rows' j).state ≡ Inside at slot) (held : Held rows (length rows)) where
    before : at < j
    before = within_before j at (row_at rows j).state (held j low) (ap (is_within at) (sym state-same ∙ is) ∙ eq-eqb at at refl)

    abbrev row : Row
    row = record (row_at rows' at) { end = j + 1 }

    abbrev last : List Row
    last = set rows' at row

    same : row_at last at ≡ row
    same = get_or-set_same rows' at row no_row (omega (arith, before, o.long))

    elsewhere : (k : ℕ) → (k ≡ at → ⊥) → row_at last k ≡ row_at rows' k
    elsewhere k ne = get_or-set_other rows' at k row no_row ne

    pub linked_next : LinkedTo (j + 1) rows last
    linked_next = record {
      long = length-set rows' at row ∙ o.long;
      ends = λ k l. same_or k at
          (λ e. subst (λ (i : ℕ). (row_at last i).end ≡ nested_end rows (j + 1) i) (sym e)
          (ap (λ (r : Row). r.end) same ∙ sym (end_next rows j at true (ap (is_within at) (sym state-same ∙ is) ∙ eq-eqb at at refl))))
          (λ e. ap (λ (r : Row). r.end) (elsewhere k e) ∙ o.ends k l
          ∙ sym (end_next rows j k false (ap (is_within k) (sym state-same ∙ is) ∙ ne_eqb at k (λ q. e (sym q)))));
      others = λ k. same_or k at
          (λ e. subst (λ (i : ℕ). unlinked (row_at last i) ≡ unlinked (row_at rows i)) (sym e) (ap unlinked same ∙ o.others at))
          (λ e. ap unlinked (elsewhere k e) ∙ o.others k);
    }
