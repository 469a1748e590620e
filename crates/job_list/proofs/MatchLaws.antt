-- The keys of a job's candidates name what they have to, and the matches that the rows of these keys show are those of the candidates, by
-- element and then rule.
-- Assumes nothing.
use mathlib.Core.Path.{◌≡◌, refl, ap, ◌∙◌}
use mathlib.Core.Bool.{Bool, true, false, cond, not}
use mathlib.Core.List.{List, [], ◌∷◌, append-nil}
use Prim.Native.Nat.{ℕ, zero, suc, ◌+◌, ◌*◌, ◌/◌, ◌%◌, ◌<◌, ◌≤◌}
use native.Mathlib.Omega.{arith}
use lib.Dec.{ltb}
use lib.ListN.{length, get_or}
use borrow.Author.Tests.{ltb-true, not-false}
use Rattle.std.specs.List.{flat_map}
use Rattle.std.proofs.lemmas.List.Concat.{flat_map-append}
use Rattle.words.proofs.TestLaws.{same_or, and_both, or_neither}
use Rattle.sorting.specs.Sorted.{sort, count}
use Rattle.sorting.proofs.Laws.{count-sort, count-other, count-place}
use Rattle.syntax.specs.Trees.{Elems, size, tree}
use Rattle.syntax.specs.Accessors.{element_at, node_in}
use Rattle.syntax.specs.Checks.{WellFormed}
use Rattle.syntax.proofs.Places.{tree-size}
use Rattle.captures.specs.Attempts.{Attempt, failed, matched, comments_of}
use Rattle.checks.specs.Given.{File, is_node_of}
use Rattle.candidates.specs.Candidates.{Candidate, each, has, is_named, any_bad, is_twice, key_of, keys_of}
use Rattle.candidates.proofs.CandidateLaws.{named_low}
use Rattle.candidates.proofs.EachLaws.{each_same}
use Rattle.candidates.proofs.SortedLaws.{sorted_keys}
use Rattle.nester.specs.declared.Row.{Row}
use Rattle.nester.specs.Matches.{Match, match_of, by_element}
use Rattle.nester.specs.Rows.{fresh, match_in, matches_in}
use Rattle.job_list.specs.Told.{row_of, Told}
use Rattle.job_list.specs.Gathered.{AreNodes, AreBelow}

-- ---- keys name nodes and rules

module _ (t : Elems) (rules : ℕ) (few : rules ≤ 16) (k : ℕ) where
  named_key : (cs : List Candidate) → any_bad t rules cs ≡ false → 0 < count k (keys_of cs)
      → (node_in 1 4095 (element_at (k / 16) t) ≡ true) × (k % 16 < rules)
  unfolding any_bad count
  named_key [] h m = absurd (omega arith)
  named_key (c ∷ cs) h m =
      let p = or_neither (not (is_named t rules c)) (any_bad t rules cs) h in
      same_or (key_of c) k
      (λ e.
      let q = and_both (node_in 1 4095 (element_at c.node t)) (ltb c.rule rules) (not-false _ p.0) in
      let r : c.rule < rules = ltb-true _ _ q.1 in
      let n : k / 16 ≡ c.node = omega arith in
      (rw n q.0, omega arith))
      (λ d. named_key cs p.1 (omega (arith, m, count-other k (key_of c) (keys_of cs) d)))

-- where 25 is not due
pub keys_named : (f : File) (rules : ℕ) (cs : List Candidate) → rules ≤ 16 → any_bad (tree f.words) rules cs ≡ false
    → AreNodes f (sort (keys_of cs)) × AreBelow rules (sort (keys_of cs))
keys_named f rules cs few h = (λ i l. (one i l).0, λ i l. (one i l).1)
  where
    one : (i : ℕ) → i < length (sort (keys_of cs))
        → (is_node_of f (get_or (sort (keys_of cs)) i 0 / 16) ≡ true) × (get_or (sort (keys_of cs)) i 0 % 16 < rules)
    one i l =
        let k = get_or (sort (keys_of cs)) i 0 in
        named_key (tree f.words) rules few k cs h (omega (arith, count-place (sort (keys_of cs)) i l, count-sort k (keys_of cs)))

-- ---- `each` and `flat_map`

flat-each : {A : Type 0} (g : ℕ → List A) (n : ℕ) (f : ℕ → List ℕ) → flat_map g (each n f) ≡ each n (λ i. flat_map g (f i))
unfolding each
flat-each g zero f = refl
flat-each g (suc n) f = flat_map-append g (each n f) (f n) ∙ rw (flat-each g n f)

flat_if : {A : Type 0} (g : ℕ → List A) (b : Bool) (k : ℕ) → flat_map g (cond b (k ∷ []) []) ≡ cond b (g k) []
flat_if g true k = append-nil (g k)
flat_if g false k = refl

module _ (attempt : ℕ → ℕ → Attempt) where
  abbrev comments_at : ℕ → ℕ → List ℕ
  comments_at n r = comments_of (attempt n r)

  abbrev match_at : ℕ → List Match
  match_at k = match_of (k / 16) (k % 16) (attempt (k / 16) (k % 16))

  -- the match of a row
  shown : (n r m : ℕ) (a : Attempt) → attempt n r ≡ a → fresh (row_of n r m a).state (match_in comments_at (row_of n r m a)) ≡ match_of n r a
  shown n r m failed e = refl
  shown n r m (matched es) e = rw e

  -- the matches of the rows of keys are those of the keys in turn
  shown_keys : (modules : ℕ → ℕ) (keys : List ℕ) (rows : List Row) → length rows ≡ length keys
      → ((i : ℕ) → i < length keys → Told attempt modules keys rows i) → matches_in comments_at rows ≡ flat_map match_at keys
  shown_keys modules [] [] l told = refl
  shown_keys modules [] (row ∷ rows) l told = absurd (omega arith)
  shown_keys modules (k ∷ keys) [] l told = absurd (omega arith)
  shown_keys modules (k ∷ keys) (row ∷ rows) l told =
      let t = told 0 (omega arith) in
      rw (t, shown (k / 16) (k % 16) (modules (k / 16)) (attempt (k / 16) (k % 16)) refl, shown_keys modules keys rows (omega arith) (λ i h. told (suc i) (omega arith)))

module _ (words : List ℕ) (rules : ℕ) (attempt : ℕ → ℕ → Attempt) (few : rules ≤ 16) where
  match_of_key : (n r : ℕ) → r < rules → match_at attempt (n * 16 + r) ≡ match_of n r (attempt n r)
  match_of_key n r h =
      let a : (n * 16 + r) / 16 ≡ n = omega arith in let b : (n * 16 + r) % 16 ≡ r = omega arith in
      rw (a, b)

  -- the rows of the keys of candidates, all named and none twice, show the matches of the candidates
  pub shown-matches : (modules : ℕ → ℕ) (cs : List Candidate) (keys : List ℕ) (rows : List Row)
      → WellFormed words → any_bad (tree words) rules cs ≡ false → is_twice cs ≡ false
      → keys ≡ sort (keys_of cs) → length rows ≡ length keys → ((i : ℕ) → i < length keys → Told attempt modules keys rows i)
      → matches_in (λ n r. comments_of (attempt n r)) rows ≡ by_element (tree words) rules attempt (has cs)
  unfolding by_element
  shown-matches modules cs keys rows w named once e long told =
      let s : length words / 3 ≡ size (tree words) = omega (arith, tree-size words w) in
      let pair : ℕ → ℕ → List Match = λ n r. cond (has cs n r) (match_of n r (attempt n r)) [] in
      let node : ℕ → List ℕ = λ n. each rules (λ r. cond (has cs n r) ((n * 16 + r) ∷ []) []) in
      let at = match_at attempt in
      shown_keys attempt modules keys rows long told
      ∙ ap (flat_map at) (e ∙ sorted_keys rules few (length words / 3) cs (named_low words rules cs w named) once)
      ∙ flat-each at (length words / 3) node
      ∙ each_same _ (λ n. each rules (pair n)) (length words / 3)
      (λ n _. flat-each at rules _
      ∙ each_same _ (pair n) rules
      (λ r h. flat_if at (has cs n r) (n * 16 + r) ∙ ap (λ (m : List Match). cond (has cs n r) m []) (match_of_key n r h)))
      ∙ rw s
