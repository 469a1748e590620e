-- One row nested after the other. Rows are by element, and no two that are kept outermost are on one line: so a match meets no outermost row
-- before the last of them.
-- Assumes nothing.
use Prim.Native.Nat.{ℕ, ◌+◌, ◌≤◌, ◌<◌}
use mathlib.Core.Path.{◌≡◌, refl, sym, ap, subst, ◌∙◌}
use mathlib.Core.Bool.{true}
use mathlib.Core.List.{List, [], ◌∷◌, ◌++◌}
use native.Mathlib.Omega.{arith}
use lib.ListN.{length, take, set, length-set}
use lib.Seq.{get_or-set_same, get_or-set_other}
use lib.Dec.{leb, ltb}
use borrow.Author.Tests.{ltb-true, le-leb, lt-ltb}
use Rattle.std.specs.Prelude.{Option, None, Some}
use Rattle.std.specs.List.{flat_map}
use Rattle.std.proofs.lemmas.List.{append-nil, take_more, take_more_set}
use Rattle.std.proofs.lemmas.List.Concat.{flat_map-append}
use Rattle.words.proofs.TestLaws.{same_or, and_both}
use Rattle.syntax.specs.Trees.{Elems, size}
use Rattle.nester.specs.Matches.{Match}
use Rattle.nester.specs.Nest.{over}
use Rattle.nester.specs.Fates.{Place, outer, within, Placed, walk, pushed, rows}
use Rattle.nester.specs.declared.Nesting.{Nesting}
use Rattle.nester.specs.declared.Nesting.TheVariants.{NoMatch, NotKept, Outermost, Inside}
use Rattle.nester.specs.declared.Row.{Row}
use Rattle.nester.specs.Rows.{no_row, row_at, unnested, place_of, placed, fresh, match_in, placed_in, rows_in, matches_in, Candidates, IsBefore, IsFresh, Held, Clear, Settles}
use Rattle.nester.proofs.Lines.{Laws, span_at}

-- rows of matches that come in turn
rows_append : (t : Elems) (a b : List Match) (l : List Placed) → rows t (a ++ b) l ≡ rows t b (rows t a l)
unfolding rows
rows_append t [] b l = refl
rows_append t (m ∷ a) b l = rows_append t a b (pushed (walk t m outer l) m l)

rows-none : (t : Elems) (l : List Placed) → rows t [] l ≡ l
unfolding rows
rows-none t l = refl

rows-one : (t : Elems) (m : Match) (l : List Placed) → rows t (m ∷ []) l ≡ pushed (walk t m outer l) m l
unfolding rows
rows-one t m l = refl

push : (m : Match) (l : List Placed) (p : Option Place) → l ++ placed m p ≡ pushed p m l
push m l None = append-nil l
push m l (Some p) = refl

-- rows that agree but for their states have the same matches, and states say the same places
pub match-same : (comments : ℕ → ℕ → List ℕ) (a b : Row) → unnested a ≡ unnested b → match_in comments a ≡ match_in comments b
match-same comments a b e = λ d. match_in comments (e d)

module _ (u v : List Row) (s : (i : ℕ) → unnested (row_at u i) ≡ unnested (row_at v i)) where
  pub place-same : (state : Nesting) → place_of u state ≡ place_of v state
  place-same NoMatch = refl
  place-same NotKept = refl
  place-same Outermost = refl
  place-same (Inside row slot) = λ d. Some (within (s row d).node (s row d).rule slot)

  rows-same : (comments : ℕ → ℕ → List ℕ) (l : List Row) → rows_in comments u l ≡ rows_in comments v l
  rows-same comments l = λ d. flat_map (λ r. placed (match_in comments r) (place-same r.state d)) l

-- one row more
rows_more : (comments : ℕ → ℕ → List ℕ) (all l : List Row) (r : Row) → rows_in comments all (l ++ (r ∷ [])) ≡ rows_in comments all l ++ placed_in comments all r
rows_more comments all l r =
    let f = placed_in comments all in
    flat_map-append f l (r ∷ []) ∙ ap (λ (x : List Placed). flat_map f l ++ x) (append-nil (f r))

matches_more : (comments : ℕ → ℕ → List ℕ) (l : List Row) (r : Row) → matches_in comments (l ++ (r ∷ [])) ≡ matches_in comments l ++ fresh r.state (match_in comments r)
matches_more comments l r =
    let f : Row → List Match = λ r. fresh r.state (match_in comments r) in
    flat_map-append f l (r ∷ []) ∙ ap (λ (x : List Match). flat_map f l ++ x) (append-nil (f r))

-- the first n rows are nested
pub record Passed (t : Elems) (n : ℕ) (before after : List Row) : Type 0 where
  pub long : length after ≡ length before
  pub stays : (i : ℕ) → unnested (row_at after i) ≡ unnested (row_at before i)
  pub behind : (i : ℕ) → n ≤ i → row_at after i ≡ row_at before i
  pub unmatched : (i : ℕ) → i < n → (row_at before i).state ≡ NoMatch → (row_at after i).state ≡ NoMatch
  pub matched : (i : ℕ) → i < n → (row_at before i).state ≡ NotKept → (row_at after i).state ≡ NoMatch → ⊥
  pub held : Held after n
  pub kept : (comments : ℕ → ℕ → List ℕ) → rows_in comments after (take n after) ≡ rows t (matches_in comments (take n before)) []

pub passed_none : (t : Elems) (before : List Row) → Passed t 0 before before
passed_none t before = record {
  long = refl;
  stays = λ i. refl;
  behind = λ i h. refl;
  unmatched = λ i h e. absurd (omega arith);
  matched = λ i h e. absurd (omega arith);
  held = λ i h. absurd (omega arith);
  kept = λ comments. sym (rows-none t []);
}

-- a fresh row is one that does not match or has a match
no-match : (s : Nesting) → IsFresh s → (s ≡ NotKept → ⊥) → s ≡ NoMatch
no-match NoMatch f h = refl
no-match NotKept f h = absurd (h refl)
no-match Outermost f h = absurd f
no-match (Inside row slot) f h = absurd f

module _ (t : Elems) (before : List Row) (given : Candidates t before) (new : (i : ℕ) → i < length before → IsFresh (row_at before i).state) (n : ℕ) (low : n < length before)
    (after : List Row) (p : Passed t n before after) where
  node_same : (i : ℕ) → (row_at after i).node ≡ (row_at before i).node
  node_same i = ap (λ (r : Row). r.node) (p.stays i)

  rule-same : (i : ℕ) → (row_at after i).rule ≡ (row_at before i).rule
  rule-same i = ap (λ (r : Row). r.rule) (p.stays i)

  pub given_after : Candidates t after
  given_after = record {
    few = omega (arith, given.few, p.long);
    known = λ i h. rw (node_same i) (given.known i (omega (arith, p.long)));
    rising = λ i j l h. rw (node_same i, node_same j) (given.rising i j l (omega (arith, p.long)));
    distinct = λ i j l h a b. given.distinct i j l (omega (arith, p.long)) (sym (node_same i) ∙ a ∙ node_same j) (sym (rule-same i) ∙ b ∙ rule-same j);
  }

  state_same : (row_at after n).state ≡ (row_at before n).state
  state_same = ap (λ (r : Row). r.state) (p.behind n (omega arith))

  -- a row that does not match
  pub passed_by : ((row_at after n).state ≡ NotKept → ⊥) → Passed t (n + 1) before after
  passed_by ne = record {
    long = p.long;
    stays = p.stays;
    behind = λ i h. p.behind i (omega arith);
    unmatched = λ i h e. same_or i n (λ q. subst (λ (j : ℕ). (row_at after j).state ≡ NoMatch) (sym q) no) (λ d. p.unmatched i (omega (arith, d)) e);
    matched = λ i h e. same_or i n (λ q. absurd (ne (state_same ∙ subst (λ (j : ℕ). (row_at before j).state ≡ NotKept) q e))) (λ d. p.matched i (omega (arith, d)) e);
    held = λ i h. same_or i n (λ q. subst (λ (j : ℕ). IsBefore j (row_at after j).state) (sym q) (subst (λ (s : Nesting). IsBefore n s) (sym no) tt)) (λ d. p.held i (omega (arith, d)));
    kept = λ comments.
        let r = row_at after n in
        let b = row_at before n in
        let none : placed_in comments after r ≡ [] = ap (λ (s : Nesting). placed (match_in comments r) (place_of after s)) no in
        let none' : fresh b.state (match_in comments b) ≡ [] = ap (λ (s : Nesting). fresh s (match_in comments b)) (sym state_same ∙ no) in
        let left : rows_in comments after (take (n + 1) after) ≡ rows_in comments after (take n after) =
        ap (λ (l : List Row). rows_in comments after l) (take_more after n no_row (omega (arith, p.long))) ∙ rows_more comments after (take n after) r
        ∙ ap (λ (l : List Placed). rows_in comments after (take n after) ++ l) none ∙ append-nil (rows_in comments after (take n after)) in
        let right : matches_in comments (take (n + 1) before) ≡ matches_in comments (take n before) =
        ap (λ (l : List Row). matches_in comments l) (take_more before n no_row low) ∙ matches_more comments (take n before) b
        ∙ ap (λ (l : List Match). matches_in comments (take n before) ++ l) none' ∙ append-nil (matches_in comments (take n before)) in
        left ∙ p.kept comments ∙ sym (ap (λ (l : List Match). rows t l []) right);
  }
    where
      no : (row_at after n).state ≡ NoMatch
      no = no-match (row_at after n).state (subst (λ (s : Nesting). IsFresh s) (sym state_same) (new n low)) ne

  -- a row that does, with what becomes of it
  module _ (state : Nesting) (o : Settles t after n state) (m : (row_at after n).state ≡ NotKept) where
    abbrev pub with_state : Row
    with_state = record (row_at after n) { state = state }

    abbrev pub last : List Row
    last = set after n with_state

    there : row_at last n ≡ with_state
    there = get_or-set_same after n with_state no_row (omega (arith, p.long))

    elsewhere : (i : ℕ) → (i ≡ n → ⊥) → row_at last i ≡ row_at after i
    elsewhere i ne = get_or-set_other after n i with_state no_row ne

    pub steady : (i : ℕ) → unnested (row_at last i) ≡ unnested (row_at after i)
    steady i =
        same_or i n (λ q. subst (λ (j : ℕ). unnested (row_at last j) ≡ unnested (row_at after j)) (sym q) (ap unnested there))
        (λ ne. ap unnested (elsewhere i ne))

    rows_then : (comments : ℕ → ℕ → List ℕ) → rows_in comments last (take (n + 1) last) ≡ rows t (matches_in comments (take (n + 1) before)) []
    rows_then comments =
        let x = match_in comments (row_at after n) in
        let b = row_at before n in
        let R = rows t (matches_in comments (take n before)) [] in
        let K = rows_in comments after (take n after) in
        let same : x ≡ match_in comments b = match-same comments (row_at after n) b (p.stays n) in
        let left : rows_in comments last (take (n + 1) last) ≡ K ++ placed x (place_of after state) =
        rows-same last after steady comments (take (n + 1) last) ∙ ap (λ (l : List Row). rows_in comments after l) (take_more_set after n with_state (omega (arith, p.long)))
        ∙ rows_more comments after (take n after) with_state in
        let w : walk t x outer K ≡ place_of after state = o.fate comments in
        let f : fresh b.state (match_in comments b) ≡ x ∷ [] =
        ap (λ (s : Nesting). fresh s (match_in comments b)) (sym state_same ∙ m) ∙ ap (λ (y : Match). y ∷ []) (sym same) in
        let right : matches_in comments (take (n + 1) before) ≡ matches_in comments (take n before) ++ (x ∷ []) =
        ap (λ (l : List Row). matches_in comments l) (take_more before n no_row low) ∙ matches_more comments (take n before) b
        ∙ ap (λ (l : List Match). matches_in comments (take n before) ++ l) f in
        left ∙ push x K (place_of after state) ∙ ap (λ (q : Option Place). pushed q x K) (sym w) ∙ ap (λ (l : List Placed). pushed (walk t x outer l) x l) (p.kept comments)
        ∙ sym (ap (λ (l : List Match). rows t l []) right ∙ rows_append t (matches_in comments (take n before)) (x ∷ []) [] ∙ rows-one t x R)

    pub passed_next : Passed t (n + 1) before last
    passed_next = record {
      long = length-set after n with_state ∙ p.long;
      stays = λ i. steady i ∙ p.stays i;
      behind = λ i h. elsewhere i (λ q. omega arith) ∙ p.behind i (omega arith);
      unmatched = λ i h e. same_or i n
          (λ q. absurd (no (sym (sym state_same ∙ m) ∙ subst (λ (j : ℕ). (row_at before j).state ≡ NoMatch) q e)))
          (λ d. ap (λ (r : Row). r.state) (elsewhere i d) ∙ p.unmatched i (omega (arith, d)) e);
      matched = λ i h e. same_or i n
          (λ q z. o.matched (sym (ap (λ (r : Row). r.state) there) ∙ subst (λ (j : ℕ). (row_at last j).state ≡ NoMatch) q z))
          (λ d z. p.matched i (omega (arith, d)) e (sym (ap (λ (r : Row). r.state) (elsewhere i d)) ∙ z));
      held = λ i h. same_or i n
          (λ q. subst (λ (j : ℕ). IsBefore j (row_at last j).state) (sym q) (subst (λ (r : Row). IsBefore n r.state) (sym there) o.before))
          (λ d. subst (λ (r : Row). IsBefore i r.state) (sym (elsewhere i d)) (p.held i (omega (arith, d))));
      kept = rows_then;
    }
      where
        no : NotKept ≡ NoMatch → ⊥
        no e = let z : ◌≡◌ {A = ℕ} 0 1 = cc in omega arith

-- of so many rows, `last` is the last that is kept outermost, if one is: none of those before it is on its line
pub record Last (t : Elems) (rows : List Row) (last i : ℕ) : Type 0 where
  pub before : last ≤ i
  pub alone : Clear t rows (row_at rows last).node last

module _ (t : Elems) {n : ℕ} (laws : Laws t n) (rows : List Row) (i last : ℕ) (there : i < length rows) (given : Candidates t rows) (l : Last t rows last i) where
  -- an element over one behind another is over that one too
  between : (a b c : ℕ) → a ≤ b → b ≤ c → c < size t → over t a c ≡ true → over t a b ≡ true
  between a b c p q h o =
      let s = and_both (leb a c) (ltb c (a + span_at t a)) (sym (laws.spans a c (omega arith) h) ∙ o) in
      laws.spans a b (omega arith) (omega arith) ∙ rw (le-leb a b p, lt-ltb b (a + span_at t a) (omega (arith, ltb-true c (a + span_at t a) s.1)))

  pub clear_before : Clear t rows (row_at rows i).node last
  clear_before a h m =
      let up : (row_at rows last).node ≤ (row_at rows i).node = same_or last i (λ q. rw q (omega arith)) (λ ne. given.rising last i (omega (arith, l.before, ne)) there) in
      l.alone a h
      (m.0, between (row_at rows a).node (row_at rows last).node (row_at rows i).node (given.rising a last h (omega (arith, l.before))) up (given.known i there) m.1)

pub last_none : (t : Elems) (rows : List Row) → Last t rows 0 0
last_none t rows = record { before = omega arith; alone = λ i h. absurd (omega arith) }

-- a row that is not kept outermost changes nothing
pub last_by : (t : Elems) (rows : List Row) (last i : ℕ) → Last t rows last i → Last t rows last (i + 1)
last_by t rows last i l = record { before = omega (arith, l.before); alone = l.alone }

-- row n gets its state
module _ (t : Elems) (rows : List Row) (n : ℕ) (state : Nesting) (there : n < length rows) where
  abbrev then : List Row
  then = set rows n (record (row_at rows n) { state = state })

  clear_same : (i : ℕ) → i ≤ n → Clear t rows (row_at rows i).node i → Clear t then (row_at then i).node i
  clear_same i h clear a l m =
      let other : row_at then a ≡ row_at rows a = get_or-set_other rows n a (record (row_at rows n) { state = state }) no_row (λ q. omega arith) in
      let node : (row_at then i).node ≡ (row_at rows i).node =
      same_or i n (λ q. subst (λ (j : ℕ). (row_at then j).node ≡ (row_at rows j).node) (sym q) (ap (λ (r : Row). r.node) (get_or-set_same rows n (record (row_at rows n) { state = state }) no_row there)))
      (λ ne. ap (λ (r : Row). r.node) (get_or-set_other rows n i (record (row_at rows n) { state = state }) no_row ne)) in
      clear a l (rw (other, node) at m)

  pub last_here : Settles t rows n state → state ≡ Outermost → Last t then n (n + 1)
  last_here o e = record { before = omega arith; alone = clear_same n (omega arith) (o.clear e) }

  pub last_stays : (last : ℕ) → Last t rows last n → Last t then last (n + 1)
  last_stays last l = record { before = omega (arith, l.before); alone = clear_same last l.before l.alone }
