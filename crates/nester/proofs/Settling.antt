-- A row's match on its way over the rows before it.
-- Assumes nothing.
use Prim.Native.Nat.{ℕ, zero, suc, ◌+◌, ◌≤◌, ◌<◌}
use mathlib.Core.Path.{◌≡◌, refl, sym, ap, subst, ◌∙◌}
use mathlib.Core.Bool.{◌&&◌}
use mathlib.Core.List.{List, [], ◌∷◌, ◌++◌}
use native.Mathlib.Omega.{arith}
use native.Mathlib.Numerals.{add-one}
use lib.ListN.{length, take, drop}
use Rattle.std.specs.Prelude.{Option, None, Some}
use Rattle.std.specs.Option.{option_and_then}
use Rattle.std.specs.List.{flat_map}
use Rattle.std.proofs.lemmas.Option.{none-some}
use Rattle.std.proofs.lemmas.List.{append-nil, append_assoc, take_more, take-append-drop, take-take}
use Rattle.std.proofs.lemmas.List.Concat.{flat_map-append}
use Rattle.words.proofs.TestLaws.{low_or, same_or, never, and_both}
use Rattle.syntax.specs.Trees.{Elems}
use Rattle.nester.specs.Matches.{Match}
use Rattle.nester.specs.Nest.{over, holder, start_at, end_at}
use Rattle.nester.specs.Fates.{Place, outer, within, same, Placed, walk}
use Rattle.nester.specs.declared.Nesting.{Nesting}
use Rattle.nester.specs.declared.Nesting.TheVariants.{NoMatch, NotKept, Outermost, Inside}
use Rattle.nester.specs.declared.Row.{Row}
use Rattle.nester.specs.Rows.{no_row, row_at, place_of, placed, match_in, placed_in, rows_in, Candidates, IsBefore, Held, IsMet, Clear, Settles}
use Rattle.nester.proofs.Shown.{same_self, same_true}

-- the captured range of a row that takes the match of a node
abbrev pub taken : Elems → Row → ℕ → Option ℕ
taken t r n = holder r.bindings (start_at t n) (end_at t n)

-- the first so many rows, the last of them by itself
over_row : (comments : ℕ → ℕ → List ℕ) (rows : List Row) (i : ℕ) → i < length rows → (l : List Placed)
    → rows_in comments rows (take (i + 1) rows) ++ l ≡ rows_in comments rows (take i rows) ++ (placed_in comments rows (row_at rows i) ++ l)
over_row comments rows i h l =
    let f : Row → List Placed = placed_in comments rows in
    let r = row_at rows i in
    ap (λ (x : List Row). flat_map f x ++ l) (take_more rows i no_row h) ∙ ap (λ (x : List Placed). x ++ l) (flat_map-append f (take i rows) (r ∷ []))
    ∙ append_assoc (flat_map f (take i rows)) (f r ++ []) l ∙ ap (λ (x : List Placed). flat_map f (take i rows) ++ (x ++ l)) (append-nil (f r))

-- all before row n, from the first so many on
rest_of : (comments : ℕ → ℕ → List ℕ) (rows : List Row) (i n : ℕ) → i ≤ n → (rest : List Placed) × (rows_in comments rows (take n rows) ≡ rows_in comments rows (take i rows) ++ rest)
rest_of comments rows i n h =
    let f : Row → List Placed = placed_in comments rows in
    let b = take n rows in
    (flat_map f (drop i b), ap (flat_map f) (sym (take-append-drop i b)) ∙ flat_map-append f (take i b) (drop i b) ∙ ap (λ (x : List Row). flat_map f x ++ flat_map f (drop i b)) (take-take i n rows h))

module _ (t : Elems) (rows : List Row) (given : Candidates t rows) where
  one_row : (i j : ℕ) → i < length rows → j < length rows → (row_at rows i).node ≡ (row_at rows j).node → (row_at rows i).rule ≡ (row_at rows j).rule → i ≡ j
  one_row i j h k a b =
      same_or i j (λ e. e)
      (λ ne. absurd (low_or i j (λ l. given.distinct i j l k a b) (λ l. given.distinct j i (omega (arith, ne)) h (sym a) (sym b))))

  -- two states that say one place are one
  pub one_state : (n : ℕ) → n ≤ length rows → (a b : Nesting) (p : Place) → IsBefore n a → IsBefore n b → place_of rows a ≡ Some p → place_of rows b ≡ Some p → a ≡ b
  one_state n h NoMatch b p ba bb e f = absurd (none-some p e)
  one_state n h NotKept b p ba bb e f = absurd (none-some p e)
  one_state n h Outermost NoMatch p ba bb e f = absurd (none-some p f)
  one_state n h Outermost NotKept p ba bb e f = absurd (none-some p f)
  one_state n h Outermost Outermost p ba bb e f = refl
  one_state n h Outermost (Inside r k) p ba bb e f = cc
  one_state n h (Inside r k) NoMatch p ba bb e f = absurd (none-some p f)
  one_state n h (Inside r k) NotKept p ba bb e f = absurd (none-some p f)
  one_state n h (Inside r k) Outermost p ba bb e f = cc
  one_state n h (Inside r k) (Inside r' k') p ba bb e f =
      let a : (row_at rows r).node ≡ (row_at rows r').node = cc in
      let b : (row_at rows r).rule ≡ (row_at rows r').rule = cc in
      let c : k ≡ k' = cc in
      let d : r ≡ r' = one_row r r' (omega arith) (omega arith) a b in
      λ i. Inside (d i) (c i)

  module _ (comments : ℕ → ℕ → List ℕ) (m : Match) (n : ℕ) (few : n ≤ length rows) (r : Row) (state : Nesting) (p : Place) (l : List Placed) where
    -- a row that is not met
    past : IsBefore n r.state → IsBefore n state → place_of rows state ≡ Some p → (IsMet t r m.node state → ⊥) → walk t m p (placed_in comments rows r ++ l) ≡ walk t m p l
    unfolding walk
    past a b e h = go (place_of rows r.state) refl
      where
        go : (q : Option Place) → place_of rows r.state ≡ q → walk t m p (placed (match_in comments r) q ++ l) ≡ walk t m p l
        go None f = refl
        go (Some q) f =
            rw (never (same p q && over t r.node m.node)
            (λ s. let u = and_both (same p q) (over t r.node m.node) s in
            let z : p ≡ q = same_true p q u.0 in h (one_state n few r.state state q a b f (e ∙ ap (λ (x : Place). Some x) z), u.1)))

    -- one that is met takes the match, or drops it
    to : place_of rows state ≡ Some p → IsMet t r m.node state
        → walk t m p (placed_in comments rows r ++ l) ≡ option_and_then (λ k. walk t m (within r.node r.rule k) l) (taken t r m.node)
    unfolding walk
    to e h = let f : place_of rows r.state ≡ Some p = ap (place_of rows) h.0 ∙ e in rw (f, same_self p, h.1)

-- the match of row n has come to where a state says over the first i rows
pub record Coming (t : Elems) (rows : List Row) (n : ℕ) (state : Nesting) (i : ℕ) : Type 0 where
  pub before : IsBefore i state
  pub place : Place
  pub at : place_of rows state ≡ Some place
  pub come : (comments : ℕ → ℕ → List ℕ) (l : List Placed)
      → walk t (match_in comments (row_at rows n)) outer (rows_in comments rows (take i rows) ++ l) ≡ walk t (match_in comments (row_at rows n)) place l
  pub clear : state ≡ Outermost → Clear t rows (row_at rows n).node i

IsBefore-more : (i j : ℕ) (state : Nesting) → i ≤ j → IsBefore i state → IsBefore j state
IsBefore-more i j NoMatch h b = tt
IsBefore-more i j NotKept h b = tt
IsBefore-more i j Outermost h b = tt
IsBefore-more i j (Inside r k) h b = omega arith

module _ (t : Elems) (rows : List Row) (given : Candidates t rows) (n : ℕ) (there : n < length rows) (held : Held rows n) where
  module _ (state : Nesting) (i : ℕ) (low : i < n) (c : Coming t rows n state i) where
    abbrev r : Row
    r = row_at rows i

    abbrev node : ℕ
    node = (row_at rows n).node

    -- over row i
    step : (comments : ℕ → ℕ → List ℕ) (l : List Placed)
        → walk t (match_in comments (row_at rows n)) outer (rows_in comments rows (take (i + 1) rows) ++ l)
        ≡ walk t (match_in comments (row_at rows n)) c.place (placed_in comments rows r ++ l)
    step comments l =
        ap (λ (x : List Placed). walk t (match_in comments (row_at rows n)) outer x) (over_row comments rows i (omega arith) l)
        ∙ c.come comments (placed_in comments rows r ++ l)

    pub coming_past : (IsMet t r node state → ⊥) → Coming t rows n state (i + 1)
    coming_past h = record {
      before = IsBefore-more i (i + 1) state (omega arith) c.before;
      place = c.place;
      at = c.at;
      come = λ comments l.
          step comments l
          ∙ past t rows given comments (match_in comments (row_at rows n)) i (omega arith) r state c.place l (held i low) c.before c.at h;
      clear = λ e j b. same_or j i (λ q. λ z. h (subst (λ (s : Nesting). IsMet t r node s) (sym e) (subst (λ (k : ℕ). IsMet t (row_at rows k) node Outermost) q z))) (λ ne. c.clear e j (omega (arith, ne)));
    }

    pub coming_in : (k : ℕ) → IsMet t r node state → taken t r node ≡ Some k → Coming t rows n (Inside i k) (i + 1)
    coming_in k h q = record {
      before = omega arith;
      place = within r.node r.rule k;
      at = refl;
      come = λ comments l. let m = match_in comments (row_at rows n) in
          step comments l ∙ to t rows given comments m i (omega arith) r state c.place l c.at h
          ∙ ap (λ (x : Option ℕ). option_and_then (λ k. walk t m (within r.node r.rule k) l) x) q;
      clear = λ e. absurd (let z : ◌≡◌ {A = ℕ} 0 1 = cc in omega arith);
    }

    pub settles_lost : IsMet t r node state → taken t r node ≡ None → Settles t rows n NotKept
    settles_lost h q = record {
      fate = λ comments.
          let m = match_in comments (row_at rows n) in
          let rest = rest_of comments rows (i + 1) n (omega arith) in
          ap (λ (x : List Placed). walk t m outer x) rest.1 ∙ step comments rest.0 ∙ to t rows given comments m i (omega arith) r state c.place rest.0 c.at h
          ∙ ap (λ (x : Option ℕ). option_and_then (λ k. walk t m (within r.node r.rule k) rest.0) x) q;
      matched = λ e. let z : ◌≡◌ {A = ℕ} 0 1 = cc in omega arith;
      before = tt;
      clear = λ e. absurd (let z : ◌≡◌ {A = ℕ} 0 1 = cc in omega arith);
    }

  -- over the first rows, of which it meets none
  pub coming_from : (i : ℕ) → i ≤ n → Clear t rows (row_at rows n).node i → Coming t rows n Outermost i
  coming_from zero h clear = record { before = tt; place = outer; at = refl; come = λ comments l. refl; clear = λ e. clear }
  coming_from (suc i) h clear =
      subst (λ (j : ℕ). Coming t rows n Outermost j) (add-one i)
      (coming_past Outermost i (omega arith) (coming_from i (omega arith) (λ j l. clear j (omega arith))) (clear i (omega arith)))

  -- over all before it
  pub settles : (state : Nesting) → Coming t rows n state n → Settles t rows n state
  unfolding walk
  settles state c = record {
    fate = λ comments.
        ap (λ (x : List Placed). walk t (match_in comments (row_at rows n)) outer x) (sym (append-nil (rows_in comments rows (take n rows))))
        ∙ c.come comments [] ∙ sym c.at;
    matched = λ e. none-some c.place (ap (place_of rows) (sym e) ∙ c.at);
    before = c.before;
    clear = c.clear;
  }
