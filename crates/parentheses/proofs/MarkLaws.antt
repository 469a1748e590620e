-- Which parts require parentheses, from the last part to the first. A later placeholder has the range of a part only where both are empty
-- and no byte is between them.
-- Assumes nothing.
use Rattle.std.proofs.Common.{◌≡◌, refl, sym, ap, ◌∙◌, ℕ, suc, ◌+◌, ◌-◌, ◌*◌, ◌<◌, ◌≤◌, arith, Bool, false, not, ◌&&◌, ◌||◌, eqb, List, [], ◌∷◌, length, get_or, take, drop, set, drop-cons, get_or-set_same, length-drop}
use mathlib.Core.Bool.{and-false, and-true}
use borrow.Author.Tests.{eq-eqb, ne_eqb}
use lib.ListN.{length-set, length-map, drop_of_length-le, get_or-map}
use lib.Seq.{take-length, drop-set-lt, map-set_same}
use Rattle.words.proofs.TestLaws.{same_or}
use Rattle.parses.specs.Ranges.{NodeRange, is_among}
use Rattle.parentheses.specs.Parentheses as spec
use Rattle.parentheses.specs.Parentheses.{total, has_range, requires, extra, added}
use Rattle.parentheses.specs.Parts.{part_of, parts_of, marks_of}
use Rattle.parentheses.specs.declared.Part.{Part}
use Rattle.parentheses.proofs.SumLaws.{no_part, at, total_more, added_few}

-- a range that begins before the parts is none of theirs
no_range : (start end x : ℕ) (ps : List spec.Part) → start < x → has_range start end x ps ≡ false
unfolding has_range
no_range start end x [] h = refl
no_range start end x (p ∷ ps) h =
    rw (ne_eqb x start (λ e. omega arith), and-false p.is_placeholder) (no_range start end (x + p.length) ps (omega arith))

-- an empty placeholder's part stands at x, behind empty parts only
abbrev pub is_followed : ℕ → List spec.Part → Bool
is_followed x ps = has_range x x x ps

module _ (x n : ℕ) (ps : List spec.Part) where
  -- behind a part of n bytes at x
  shared : has_range x (x + n) (x + n) ps ≡ (eqb n 0 && is_followed (x + n) ps)
  shared =
      same_or n 0
      (λ e. let f : x ≡ x + n = omega arith in rw (eq-eqb n 0 e) (ap (λ (k : ℕ). has_range k (x + n) (x + n) ps) f))
      (λ e. rw (ne_eqb n 0 e) (no_range x (x + n) (x + n) ps (omega arith)))

  followed : (b : Bool) → ((b && eqb x x && eqb (x + n) x) || has_range x x (x + n) ps) ≡ (eqb n 0 && (b || is_followed (x + n) ps))
  followed b =
      same_or n 0
      (λ e. let f : x + n ≡ x = omega arith in rw (eq-eqb n 0 e, f, eq-eqb x x refl, and-true b, and-true b))
      (λ e. rw (ne_eqb n 0 e, ne_eqb (x + n) x (λ f. omega arith), and-false (b && eqb x x)) (no_range x x (x + n) ps (omega arith)))

-- the same, where the parts behind begin at z
module _ (x n z : ℕ) (ps : List spec.Part) (f : Bool) (ends : x + n ≡ z) (is : f ≡ is_followed z ps) where
  shared_at : has_range x (x + n) (x + n) ps ≡ (eqb n 0 && f)
  shared_at = rw (is, ← ends) (shared x n ps)

  followed_at : (b : Bool) → (eqb n 0 && (b || f)) ≡ ((b && eqb x x && eqb (x + n) x) || has_range x x (x + n) ps)
  followed_at b = rw (is, ← ends) (sym (followed x n ps b))

pub length-requires : (ranges : List NodeRange) (x : ℕ) (ps : List spec.Part) → length (requires ranges x ps) ≡ length ps
unfolding requires
length-requires ranges x [] = refl
length-requires ranges x (p ∷ ps) = ap suc (length-requires ranges (x + p.length) ps)

-- ---- marking, from the last part to the first

drop_set : {A : Type 0} (l : List A) (j : ℕ) (v : A) → j < length l → drop j (set l j v) ≡ v ∷ drop (suc j) l
drop_set l j v h =
    let k : j < length (set l j v) = omega (arith, length-set l j v) in
    drop-cons (set l j v) j v k ∙ rw (get_or-set_same l j v v h, drop-set-lt (suc j) l j v (omega arith))

-- the parts from i on, which begin at byte `start`, are marked, and their parentheses take `more` bytes; the parts were `parts`
pub record Marked (ranges : List NodeRange) (parts : List Part) (i start more : ℕ) (follows : Bool) (parts' : List Part) : Type 0 where
  pub same_parts : parts_of parts' ≡ parts_of parts
  pub start_is : start ≡ total (parts_of (take i parts))
  pub follows_is : follows ≡ is_followed start (parts_of (drop i parts))
  pub marks_are : marks_of (drop i parts') ≡ requires ranges start (parts_of (drop i parts))
  pub more_is : more ≡ added (marks_of (drop i parts'))

module _ {ranges : List NodeRange} {parts : List Part} where
  pub marked_none : {start : ℕ} → start ≡ total (parts_of parts) → Marked ranges parts (length parts) start 0 false parts
  unfolding has_range requires added
  marked_none e =
      let none : drop (length parts) parts ≡ [] = drop_of_length-le parts {i = length parts} (omega arith) in
      record {
        same_parts = refl;
        start_is = e ∙ rw (take-length parts) refl;
        follows_is = rw none refl;
        marks_are = rw none refl;
        more_is = rw none refl;
      }

  -- at most two bytes for each
  pub marked_few : {i start more : ℕ} {follows : Bool} {parts' : List Part} → Marked ranges parts i start more follows parts' → more ≤ 2 * length parts
  marked_few {i} {parts' = parts'} marked =
      let long : length parts' ≡ length parts = sym (length-map parts' part_of) ∙ ap length marked.same_parts ∙ length-map parts part_of in
      omega (arith, marked.more_is, added_few (marks_of (drop i parts')), length-map (drop i parts') (λ p. p.is_enclosed), length-drop i parts', long)

  -- all are
  pub marked_all : {start more : ℕ} {follows : Bool} {parts' : List Part} → Marked ranges parts 0 start more follows parts'
      → (marks_of parts' ≡ requires ranges 0 (parts_of parts)) × (more ≡ added (requires ranges 0 (parts_of parts)))
  unfolding total
  marked_all {start} {parts' = parts'} marked =
      let e : start ≡ 0 = marked.start_is in
      let f : marks_of parts' ≡ requires ranges 0 (parts_of parts) = rw e at marked.marks_are in
      (f, marked.more_is ∙ ap added f)

  -- a turn: the part j in front of those
  module _ {i j start more : ℕ} {follows : Bool} {parts' : List Part} (next : i ≡ suc j) (among : j < length parts) (marked : Marked ranges parts i start more follows parts') where
    abbrev pub this : Part
    this = at parts' j

    same_this : part_of this ≡ part_of (at parts j)
    same_this =
        sym (get_or-map part_of parts' j no_part)
        ∙ ap (λ (l : List spec.Part). get_or l j (part_of no_part)) marked.same_parts
        ∙ get_or-map part_of parts j no_part

    -- it does not end before it begins
    pub marked_fits : total (parts_of (take j parts)) + this.length ≡ start
    marked_fits =
        let t : total (parts_of (take i parts)) ≡ total (parts_of (take j parts)) + (at parts j).length = rw next (total_more parts j among) in
        omega (arith, t, marked.start_is, ap (λ (p : spec.Part). p.length) same_this)

    abbrev pub required : Bool
    required =
        let y = start - this.length in
        this.is_placeholder && not (is_among ranges y (y + this.length)) && not (eqb this.length 0 && follows)

    pub marked_one : Marked ranges parts j (start - this.length) (more + extra required) (eqb this.length 0 && (this.is_placeholder || follows)) (set parts' j (record this { is_enclosed = required }))
    unfolding has_range requires added
    marked_one =
        let n = this.length in
        let y = start - n in
        let rest = parts_of (drop i parts) in
        let back : y + n ≡ start = omega (arith, marked_fits) in
        let long : length parts' ≡ length parts = sym (length-map parts' part_of) ∙ ap length marked.same_parts ∙ length-map parts part_of in
        let f : parts_of (drop j parts) ≡ part_of this ∷ rest = rw (drop-cons parts j no_part among, next, same_this) refl in
        let new = record this { is_enclosed = required } in
        let g : drop j (set parts' j new) ≡ new ∷ drop i parts' = drop_set parts' j new (omega (arith, long)) ∙ rw next refl in
        record {
          same_parts = map-set_same part_of parts' j new no_part refl ∙ marked.same_parts;
          start_is = omega (arith, marked_fits);
          follows_is = rw f (followed_at y n start rest follows back marked.follows_is this.is_placeholder);
          marks_are = rw (g, f, shared_at y n start rest follows back marked.follows_is, back, marked.marks_are) refl;
          more_is = rw (g, ← marked.more_is) (omega arith);
        }
