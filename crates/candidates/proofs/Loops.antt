-- What the loops over candidates and over keys rest on.
-- Assumes nothing.
use mathlib.Core.Path.{◌≡◌, refl, sym, ap, ◌∙◌}
use mathlib.Core.Bool.{Bool, true, false, not, ◌&&◌, ◌||◌, or-true}
use mathlib.Core.List.{List, [], ◌∷◌, ◌++◌, append_assoc, append-nil}
use Prim.Native.Nat.{ℕ, zero, suc, min, ◌+◌, ◌*◌, ◌<◌, ◌≤◌}
use native.Mathlib.Omega.{arith}
use native.Mathlib.Numerals.{add-one}
use lib.ListN.{length, get_or, take, drop, set, length-drop}
use lib.Seq.{drop-drop, take-suc-set, take_all}
use borrow.Author.Tests.{eq-eqb, ne_eqb}
use Rattle.std.specs.List.{list_all}
use Rattle.std.specs.declared.slice.Chunks.{Chunks}
use Rattle.std.specs.Slice.Iter.{chunks_rest, chunks_size, chunks_steps}
use Rattle.std.proofs.lemmas.Iterator.{YieldsList}
use Rattle.std.proofs.lemmas.Iterator.Splits.{YieldsList-from_shown_while}
use Rattle.syntax.specs.Trees.{Elems}
use Rattle.candidates.specs.Candidates.{Candidate, candidate_at, candidates_of, is_named, any_bad, key_of, keys_of, is_first, has_equal_neighbours}
use Rattle.candidates.proofs.CandidateLaws.{candidates_cons, candidates_none}

-- ---- laying keys

module _ (l : List ℕ) where
  -- a key is laid
  pub lay-more : (keys : List ℕ) (i v : ℕ) → 2 * i < length l → v ≡ key_of (candidate_at (drop (2 * i) l)) → i < length keys
      → keys_of (candidates_of l) ≡ take i keys ++ keys_of (candidates_of (drop (2 * i) l))
      → keys_of (candidates_of l) ≡ take (i + 1) (set keys i v) ++ keys_of (candidates_of (drop (2 * (i + 1)) l))
  lay-more keys i v h e k g =
      let n : 0 < length (drop (2 * i) l) = simp length-drop (omega arith) in
      let q : 2 * i + 2 ≡ 2 * suc i = omega arith in
      g ∙ rw (candidates_cons (drop (2 * i) l) n, add-one i, take-suc-set keys i v k, e, append_assoc, drop-drop 2 (2 * i) l, q)

  -- all are laid
  pub lay_end : (keys : List ℕ) (i : ℕ) → length keys ≤ i → length l ≤ 2 * i → take i keys ++ keys_of (candidates_of (drop (2 * i) l)) ≡ keys
  lay_end keys i h k =
      let n : length (drop (2 * i) l) ≤ 0 = simp length-drop (omega arith) in
      rw (candidates_none (drop (2 * i) l) n, take_all i keys h, append-nil)

-- ---- neighbours, by their place

found_at : (l : List ℕ) (k : ℕ) → suc k < length l → get_or l k 0 ≡ get_or l (suc k) 0 → has_equal_neighbours l ≡ true
unfolding has_equal_neighbours
found_at [] k h e = absurd (omega arith)
found_at (x ∷ []) k h e = absurd (omega arith)
found_at (x ∷ (y ∷ l)) zero h e = rw (eq-eqb x y e)
found_at (x ∷ (y ∷ l)) (suc k) h e = let r : has_equal_neighbours (y ∷ l) ≡ true = found_at (y ∷ l) k (omega arith) e in rw (r, or-true (is_first x (y ∷ l)))

none_at : (l : List ℕ) → ((k : ℕ) → suc k < length l → get_or l k 0 ≡ get_or l (suc k) 0 → ⊥) → has_equal_neighbours l ≡ false
unfolding has_equal_neighbours
none_at [] h = refl
none_at (x ∷ []) h = refl
none_at (x ∷ (y ∷ l)) h = rw (ne_eqb x y (h 0 (omega arith))) (none_at (y ∷ l) (λ k b. h (suc k) (omega arith)))

pub neighbours_found : (l : List ℕ) (k : ℕ) → k + 2 ≤ length l → get_or l k 0 ≡ get_or l (k + 1) 0 → true ≡ has_equal_neighbours l
neighbours_found l k h e = sym (found_at l k (omega arith) (rw add-one at e))

pub neighbours_none : (l : List ℕ) → ((k : ℕ) → k + 2 ≤ length l → get_or l k 0 ≡ get_or l (k + 1) 0 → ⊥) → false ≡ has_equal_neighbours l
neighbours_none l h = sym (none_at l (λ k b e. h k (omega arith) (rw add-one e)))

-- a test that is true exactly where two neighbours are equal
pub neighbours_test : (l : List ℕ) (b : Bool) → (b ≡ true → (k : ℕ) × (k + 2 ≤ length l) × (get_or l k 0 ≡ get_or l (k + 1) 0))
    → (b ≡ false → (k : ℕ) → k + 2 ≤ length l → get_or l k 0 ≡ get_or l (k + 1) 0 → ⊥) → b ≡ has_equal_neighbours l
neighbours_test l true f g = let p = f refl in neighbours_found l p.0 p.1 p.2
neighbours_test l false f g = neighbours_none l (g refl)

-- ---- 25, chunk by chunk

-- the first chunk is the first candidate
chunk_first : (x r : List ℕ) → length x ≡ min 2 (length (x ++ r)) → 0 < length (x ++ r) → candidates_of (x ++ r) ≡ candidate_at x ∷ candidates_of r
unfolding candidates_of
chunk_first [] r n h = absurd (omega arith)
chunk_first (a ∷ []) [] n h = refl
chunk_first (a ∷ []) (b ∷ r) n h = absurd (omega arith)
chunk_first (a ∷ (b ∷ [])) r n h = refl
chunk_first (a ∷ (b ∷ (c ∷ x))) r n h = absurd (omega arith)

-- chunks of two are the candidates
pub chunks_candidates : (s : Chunks ℕ) → chunks_size s ≡ 2 → YieldsList chunks_steps (λ x. candidate_at x.now) s (candidates_of (chunks_rest s))
chunks_candidates = YieldsList-from_shown_while chunks_steps (λ x. candidate_at x.now) (λ s. candidates_of (chunks_rest s)) (λ s. chunks_size s ≡ 2)
    (λ s t p k. ap length (candidates_none (chunks_rest s) (omega (arith, k.1.0))))
    (λ s x t p k. (k.0 ∙ p, rw k.1.0 (chunk_first x.now (chunks_rest t) (rw (p, k.1.0) at k.1.1) (rw k.1.0 at k.1.2))))

-- none is bad exactly where all are named
pub all_named : (t : Elems) (rules : ℕ) (cs : List Candidate) → not (any_bad t rules cs) ≡ list_all (is_named t rules) cs
unfolding any_bad
all_named t rules [] = refl
all_named t rules (c ∷ cs) = by (is_named t rules c) (all_named t rules cs)
  where
    by : (b : Bool) → not (any_bad t rules cs) ≡ list_all (is_named t rules) cs → not (not b || any_bad t rules cs) ≡ (b && list_all (is_named t rules) cs)
    by true h = h
    by false h = refl
