-- The index of a fact list: its entries are the facts' keys and places in rising order, so that it says what the list says of repeated
-- facts and gaps, and finds what the list has.
-- Assumes nothing.
use mathlib.Core.Path.{◌≡◌, refl, sym, ap, ◌∙◌}
use mathlib.Core.Bool.{Bool, true, false, not, ◌&&◌, ◌||◌}
use mathlib.Core.List.{List, [], ◌∷◌, ◌++◌, append_assoc, append-nil}
use Prim.Native.Nat.{ℕ, zero, suc, ◌+◌, ◌-◌, ◌*◌, ◌/◌, ◌%◌, ◌<◌, ◌≤◌}
use native.Mathlib.Omega.{arith}
use lib.Dec.{eqb}
use lib.ListN.{length, get_or, take, drop, set, drop_of_length-le}
use lib.Seq.{drop-cons, take-suc-set, take_all}
use native.Mathlib.Numerals.{add-one}
use borrow.Author.Tests.{lt-ltb, le-ltb, not-true}
use Rattle.sorting.specs.Sorted.{insert, sort, below, count, From, Rising}
use Rattle.sorting.proofs.Laws.{insert-nil, insert_low, insert_high, sort_rising, count-sort, length-sort, below-after, high_after, low_before, count_none, count_same, count-other, count_at_lem, count-place}
use Rattle.std.specs.Prelude.{Some, None}
use Rattle.facts.specs.declared.Sort.{Sort}
use Rattle.facts.specs.declared.Sort.TheVariants.{CodePath, RulePath, MethodCall, Expression, PatternPath, RecordField, Node, TemplatePath}
use Rattle.facts.specs.Facts.{Fact, facts_of, fact_index, numbered_place, sort_number, has_repeated, has_gap}
use Rattle.facts.specs.Keys.{key_number, key_of, entries_from, is_later_key, index_of, IsIndex}
use Rattle.words.proofs.TestLaws.{same_or, low_or, both_ways, and_both}
use Rattle.facts.proofs.TestLaws.{stopped, goes_on}
use Rattle.facts.proofs.FactLaws.{Ranged, ranged}
use Rattle.facts.proofs.KeyLaws.{absent, place, place_found, place-first, place-within, keys_of, length_keys, index_place, repeated_keys, gap_keys}
use Rattle.facts.proofs.SteadyLaws.{count-more, repeats_once, once_repeats, gaps-filled, filled-gaps, steady_keys, steady_has, has_steady}

-- ---- the keys of entries

-- an entry's key and place
abbrev pub entry_key : ℕ → ℕ
entry_key v = v / 16384

abbrev pub entry_place : ℕ → ℕ
entry_place v = v % 16384

-- in rising entries: no key stands twice, and a later step's follows the key of the step before; next is the number after the last key
unfoldable pub is_steady : ℕ → List ℕ → Bool
is_steady next [] = true
is_steady next (v ∷ l) = not (eqb (entry_key v + 1) next) && (not (is_later_key (entry_key v)) || eqb (entry_key v) next) && is_steady (entry_key v + 1) l

abbrev pub entry_keys : List ℕ → List ℕ
entry_keys [] = []
entry_keys (v ∷ l) = entry_key v ∷ entry_keys l

-- those of a list's entries are its facts', while the places fit
pub keys_entries : (p : ℕ) (fs : List Fact) → p + length fs ≤ 16384 → entry_keys (entries_from p fs) ≡ keys_of fs
unfolding entries_from
keys_entries p [] h = refl
keys_entries p (f ∷ fs) h =
    let e : entry_key (key_of f * 16384 + p) ≡ key_of f = omega arith in
    rw (e, keys_entries (p + 1) fs (omega arith))

count-swap : (k a b : ℕ) (m l : List ℕ) → count k m ≡ count k (a ∷ l) → count k (b ∷ m) ≡ count k (a ∷ b ∷ l)
unfolding count
count-swap k a b m l e = omega arith

-- sorting keeps the keys
keys_insert : (k x : ℕ) (l : List ℕ) → count k (entry_keys (insert x l)) ≡ count k (entry_keys (x ∷ l))
keys_insert k x [] = rw (insert-nil x)
keys_insert k x (y ∷ l) =
    low_or y x
    (λ h. rw (insert_high x y l h) (count-swap k (entry_key x) (entry_key y) (entry_keys (insert x l)) (entry_keys l) (keys_insert k x l)))
    (λ h. rw (insert_low x y l h))

pub keys_sort : (k : ℕ) (l : List ℕ) → count k (entry_keys (sort l)) ≡ count k (entry_keys l)
unfolding sort count
keys_sort k [] = refl
keys_sort k (x ∷ l) = keys_insert k x (sort l) ∙ omega (arith, keys_sort k l)

-- and keys rise with their entries
keys_from : (x : ℕ) (l : List ℕ) → From x l → From (entry_key x) (entry_keys l)
keys_from x [] f = tt
keys_from x (y ∷ l) f = (omega (arith, f.0), keys_from x l f.1)

pub keys_rising : (l : List ℕ) → Rising l → Rising (entry_keys l)
keys_rising [] r = tt
keys_rising (x ∷ l) r = (keys_from x l r.0, keys_rising l r.1)

-- whether entries are steady goes by their keys
pub steady_keys_lem : (next : ℕ) (l : List ℕ) → is_steady next l ≡ steady_keys next (entry_keys l)
unfolding is_steady steady_keys
steady_keys_lem next [] = refl
steady_keys_lem next (v ∷ l) = rw (steady_keys_lem (entry_key v + 1) l)

-- ---- one entry of a loop over them

-- an entry is laid
pub entries-more : (l index : List ℕ) (i v : ℕ) (f : Fact) (fs : List Fact) → drop i fs ≡ f ∷ drop (suc i) fs → v ≡ key_of f * 16384 + i → i < length index → l ≡ take i index ++ entries_from i (drop i fs) → l ≡ take (i + 1) (set index i v) ++ entries_from (i + 1) (drop (i + 1) fs)
unfolding entries_from
entries-more l index i v f fs d e h g = g ∙ rw (d, add-one i, take-suc-set index i v h, e, append_assoc)

-- all are laid
pub entries_end : (index : List ℕ) (i : ℕ) (fs : List Fact) → length index ≤ i → length fs ≤ i → take i index ++ entries_from i (drop i fs) ≡ index
unfolding entries_from
entries_end index i fs h k = rw (drop_of_length-le fs k, take_all i index h, append-nil)

-- the first entry of what is left
steady_step : (next : ℕ) (l : List ℕ) (i : ℕ) → i < length l → is_steady next (drop i l) ≡ (not (eqb (entry_key (get_or l i 0) + 1) next) && (not (is_later_key (entry_key (get_or l i 0))) || eqb (entry_key (get_or l i 0)) next) && is_steady (entry_key (get_or l i 0) + 1) (drop (i + 1) l))
unfolding is_steady
steady_step next l i h = rw (add-one i, drop-cons l i 0 h)

-- an entry that stops the test, and one that lets it go on
module _ (next : ℕ) (l : List ℕ) (i : ℕ) (h : i < length l) (later : Bool) (e : later ≡ is_later_key (entry_key (get_or l i 0))) where
  pub steady_stops : (eqb (entry_key (get_or l i 0) + 1) next || (later && not (eqb (entry_key (get_or l i 0)) next))) ≡ true → is_steady next (drop i l) ≡ false
  steady_stops t = steady_step next l i h ∙ rw (← e) (stopped (eqb (entry_key (get_or l i 0) + 1) next) later (eqb (entry_key (get_or l i 0)) next) (is_steady (entry_key (get_or l i 0) + 1) (drop (i + 1) l)) t)

  pub steady_goes : (eqb (entry_key (get_or l i 0) + 1) next || (later && not (eqb (entry_key (get_or l i 0)) next))) ≡ false → is_steady next (drop i l) ≡ is_steady (entry_key (get_or l i 0) + 1) (drop (i + 1) l)
  steady_goes t = steady_step next l i h ∙ rw (← e) (goes_on (eqb (entry_key (get_or l i 0) + 1) next) later (eqb (entry_key (get_or l i 0)) next) (is_steady (entry_key (get_or l i 0) + 1) (drop (i + 1) l)) t)

pub steady_end : (next : ℕ) (l : List ℕ) (i : ℕ) → length l ≤ i → is_steady next (drop i l) ≡ true
unfolding is_steady
steady_end next l i h = rw (drop_of_length-le l h)

-- ---- the theorem

-- an index is steady exactly if no fact is repeated and no step is left out
pub steady_exactly : (fs : List Fact) → Ranged fs → length fs ≤ 16383 → is_steady 0 (sort (entries_from 0 fs)) ≡ (not (has_repeated fs) && not (has_gap fs fs))
steady_exactly fs w h =
    both_ways (is_steady 0 (sort es)) (not (has_repeated fs) && not (has_gap fs fs))
    (λ t.
    let p = steady_has ks rises (rw (steady_keys_lem 0 (sort es)) at t) in
    let once = once_repeats (keys_of fs) (λ k. omega (arith, p.0 k, counts k)) in
    let filled = filled-gaps (keys_of fs) (keys_of fs) (λ k later c. omega (arith, counts (k - 1), p.1 k later (omega (arith, counts k)))) in
    rw (repeated_keys fs w, gap_keys fs fs w w, once, filled))
    (λ t.
    let p = and_both (not (has_repeated fs)) (not (has_gap fs fs)) t in
    let once = repeats_once (keys_of fs) (sym (repeated_keys fs w) ∙ not-true _ p.0) in
    let filled = gaps-filled (keys_of fs) (keys_of fs) (sym (gap_keys fs fs w w) ∙ not-true _ p.1) in
    steady_keys_lem 0 (sort es) ∙ has_steady ks rises (λ k. omega (arith, once k, counts k)) (λ k later c. omega (arith, counts (k - 1), filled k later (omega (arith, counts k)))))
  where
    es : List ℕ
    es = entries_from 0 fs

    ks : List ℕ
    ks = entry_keys (sort es)

    rises : Rising ks
    rises = keys_rising (sort es) (sort_rising es)

    counts : (k : ℕ) → count k ks ≡ count k (keys_of fs)
    counts k = keys_sort k es ∙ ap (count k) (keys_entries 0 fs (omega arith))

-- ---- what an index finds

pub length-entries : (p : ℕ) (fs : List Fact) → length (entries_from p fs) ≡ length fs
unfolding entries_from
length-entries p [] = refl
length-entries p (f ∷ fs) = ap suc (length-entries (p + 1) fs)

pub length_index : (l : List ℕ) → length (index_of l) ≡ length (facts_of l)
unfolding index_of
length_index l = length-sort (entries_from 0 (facts_of l)) ∙ length-entries 0 (facts_of l)

-- the fact at a place has its entry
entry_in : (b : ℕ) (fs : List Fact) (i : ℕ) → i < length fs → 0 < count (get_or (keys_of fs) i 0 * 16384 + (b + i)) (entries_from b fs)
unfolding entries_from
entry_in b [] i h = absurd (omega arith)
entry_in b (f ∷ fs) zero h = omega (arith, count_same (key_of f * 16384 + (b + 0)) (key_of f * 16384 + b) (entries_from (b + 1) fs) (omega arith))
entry_in b (f ∷ fs) (suc i) h =
    let e : b + suc i ≡ b + 1 + i = omega arith in
    rw e (omega (arith, entry_in (b + 1) fs i (omega arith), count-more (get_or (keys_of fs) i 0 * 16384 + (b + 1 + i)) (key_of f * 16384 + b) (entries_from (b + 1) fs)))

-- and an entry its fact
record Entry (b : ℕ) (fs : List Fact) (v : ℕ) : Type 0 where
  from : b ≤ entry_place v
  to : entry_place v < b + length fs
  key : get_or (keys_of fs) (entry_place v - b) 0 ≡ entry_key v

in_entry : (b : ℕ) (fs : List Fact) (v : ℕ) → b + length fs ≤ 16384 → 0 < count v (entries_from b fs) → Entry b fs v
unfolding entries_from
in_entry b [] v h c = absurd (omega (arith, count_none v [] tt))
in_entry b (f ∷ fs) v h c =
    same_or (key_of f * 16384 + b) v
    (λ e.
    let z : entry_place v - b ≡ 0 = omega arith in
    record { from = omega arith; to = omega arith; key = rw z (omega arith) })
    (λ e.
    let i = in_entry (b + 1) fs v (omega arith) (omega (arith, count-other v (key_of f * 16384 + b) (entries_from (b + 1) fs) e)) in
    let z : entry_place v - b ≡ suc (entry_place v - (b + 1)) = omega (arith, i.from) in
    record { from = omega (arith, i.from); to = omega (arith, i.to); key = rw z i.key })

module _ (fs : List Fact) (few : length fs ≤ 16383) (k : ℕ) where
  abbrev entries : List ℕ
  entries = sort (entries_from 0 fs)

  -- the first entry that is not below those of the key
  abbrev at : ℕ
  at = below (k * 16384) (sort (entries_from 0 fs))

  abbrev first : ℕ
  first = get_or entries at 0

  -- if it has the key, so has the fact at its place
  behind : at < length entries → entry_key first ≡ k → (place k (keys_of fs) ≤ entry_place first) × (place k (keys_of fs) < length fs)
  behind h e =
      let c : 0 < count first (entries_from 0 fs) = omega (arith, count-sort first (entries_from 0 fs), count-place entries at h) in
      let i = in_entry 0 fs first (omega arith) c in
      let p : place k (keys_of fs) ≤ entry_place first - 0 = place-first k (keys_of fs) (entry_place first - 0) (omega (arith, i.to, length_keys fs)) (i.key ∙ e) in
      (omega arith, omega (arith, i.to))

  -- it is not behind the entry of the key's first fact
  ahead : place k (keys_of fs) < length fs → (at < length entries) × (k * 16384 ≤ first) × (first ≤ k * 16384 + place k (keys_of fs))
  ahead h =
      let v : ℕ = k * 16384 + (0 + place k (keys_of fs)) in
      let r : Rising entries = sort_rising (entries_from 0 fs) in
      let g : get_or (keys_of fs) (place k (keys_of fs)) 0 ≡ k = place_found k (keys_of fs) (omega (arith, length_keys fs)) in
      let n : 0 < count v (entries_from 0 fs) = rw g at (entry_in 0 fs (place k (keys_of fs)) h) in
      let a = count_at_lem v entries (omega (arith, count-sort v (entries_from 0 fs))) r in
      let m : at ≤ below v entries = high_after (k * 16384) entries (below v entries) r (omega (arith, a.0)) in
      let t : at < length entries = omega (arith, a.1) in
      let low : first ≤ v = low_or v first
      (λ o. absurd (omega (arith, high_after (suc v) entries at r o, low_before (suc v) entries (below v entries) r a.1 (omega (arith, a.0)))))
      (λ o. o)
      in
      (t, below-after (k * 16384) entries at r (omega arith) t, omega arith)

  length-all : length entries ≡ length fs
  length-all = length-sort (entries_from 0 fs) ∙ length-entries 0 fs

  -- the first fact of a key stands at the place of the key's first entry
  pub entry_hit : at < length entries → entry_key first ≡ k → (place k (keys_of fs) ≡ entry_place first) × (place k (keys_of fs) < length fs)
  entry_hit h e =
      let b = behind h e in
      let a = ahead b.1 in
      (omega arith, b.1)

  -- and there is none where the key has no entry
  pub entry_none : (at < length entries → entry_key first ≡ k → ⊥) → place k (keys_of fs) ≡ length fs
  entry_none n =
      low_or (place k (keys_of fs)) (length fs)
      (λ h. let a = ahead h in absurd (n a.0 (omega arith)))
      (λ h. omega (arith, place-within k (keys_of fs), length_keys fs))

-- a sort's number has 4 bits
pub low_sort : (sort : Sort) → sort_number sort < 16
low_sort CodePath = omega arith
low_sort RulePath = omega arith
low_sort MethodCall = omega arith
low_sort Expression = omega arith
low_sort PatternPath = omega arith
low_sort RecordField = omega arith
low_sort Node = omega arith
low_sort TemplatePath = omega arith

module _ (l index starts : List ℕ) (w : IsIndex l index starts) where
  -- an index has an entry for each fact, in rising order
  pub index_length : length index ≡ length (facts_of l)
  index_length = ap length w.sorted ∙ length_index l

  pub index_rising : Rising index
  unfolding index_of
  index_rising = rw w.sorted (sort_rising (entries_from 0 (facts_of l)))

  -- it is steady exactly if no fact is repeated and no step is left out
  pub index_steady : is_steady 0 index ≡ (not (has_repeated (facts_of l)) && not (has_gap (facts_of l) (facts_of l)))
  unfolding index_of
  index_steady = rw w.sorted (steady_exactly (facts_of l) (ranged l w.low) w.few)

  module _ (sort : ℕ) (e x : ℕ) where
    abbrev key : ℕ
    key = key_number sort e x

    -- a key that does not fit is not there
    pub place_high : (sort < 16 → e < 16384 → x < 268435456 → ⊥) → numbered_place sort e x (facts_of l) ≡ None
    place_high n =
        let a : fact_index sort e x (facts_of l) ≡ length (facts_of l) = absent sort e x (facts_of l) (ranged l w.low) n in
        rw (a, le-ltb (length (facts_of l)) (length (facts_of l)) (omega arith))

    module _ (s : sort < 16) (g : x < 268435456) where
      placed : fact_index sort e x (facts_of l) ≡ place key (keys_of (facts_of l))
      placed = index_place sort e x s g (facts_of l) (ranged l w.low)

      -- the first entry that is not below those of a key has the key
      pub place_hit : (i : ℕ) → i ≡ below (key * 16384) index → i < length index → entry_key (get_or index i 0) ≡ key → numbered_place sort e x (facts_of l) ≡ Some (entry_place (get_or index i 0))
      unfolding index_of
      place_hit i n b k =
          let m : i ≡ below (key * 16384) (index_of l) = rw w.sorted at n in
          let b' : below (key * 16384) (index_of l) < length (index_of l) = rw (← m) (rw w.sorted at b) in
          let k' : entry_key (get_or (index_of l) (below (key * 16384) (index_of l)) 0) ≡ key = rw (← m) (rw w.sorted at k) in
          let h = entry_hit (facts_of l) w.few key b' k' in
          rw (placed, lt-ltb _ _ h.1, h.0, w.sorted, m)

      -- or it has another, or is not there
      pub place_miss : (i : ℕ) → i ≡ below (key * 16384) index → (i < length index → entry_key (get_or index i 0) ≡ key → ⊥) → numbered_place sort e x (facts_of l) ≡ None
      unfolding index_of
      place_miss i n m =
          let p : place key (keys_of (facts_of l)) ≡ length (facts_of l) = entry_none (facts_of l) w.few key (rw w.sorted at (rw n at m)) in
          rw (placed, p, le-ltb (length (facts_of l)) (length (facts_of l)) (omega arith))
