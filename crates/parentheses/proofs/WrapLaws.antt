-- A text in its parts, those marked in parentheses.
-- Assumes nothing.
use Rattle.std.proofs.Common.{◌≡◌, refl, sym, ap, ◌∙◌, ℕ, ◌+◌, ◌-◌, ◌≤◌, arith, Bool, true, false, List, [], ◌∷◌, ◌++◌, append_assoc, length, take, drop, append-nil, length-append, length-drop}
use mathlib.Core.List.{flatten}
use lib.ListN.{take-append-drop, drop_of_length-le, length-map}
use lib.Seq.{drop-drop, length-take-le, take-length, take_at, drop_at}
use Rattle.words.specs.Buffer.{laid}
use Rattle.words.specs.Texts.{close_text}
use Rattle.parentheses.specs.Parentheses as spec
use Rattle.parentheses.specs.Parentheses.{total, enclosed, extra, wrapped, added, enclosed_each}
use Rattle.parentheses.specs.Parts.{part_of, parts_of, marks_of}
use Rattle.parentheses.specs.declared.Part.{Part}
use Rattle.parentheses.proofs.LaidLaws.{length_bytes, laid_nothing, laid_before, bytes_inside, bytes_laid}
use Rattle.parentheses.proofs.SumLaws.{total_push, total_part, added_push, added_part}

pub length-enclosed : (m : Bool) (t : List ℕ) → length (enclosed m t) ≡ length t + extra m
length-enclosed true t = omega (arith, length-append t close_text)
length-enclosed false t = omega arith

-- ---- the text as a whole

pub length-wrapped : (ps : List spec.Part) (ms : List Bool) (t : List ℕ) → length ms ≡ length ps → total ps ≤ length t → length (wrapped ps ms t) ≡ length t + added ms
unfolding wrapped total added
length-wrapped [] [] t h k = omega arith
length-wrapped [] (m ∷ ms) t h k = absurd (omega arith)
length-wrapped (p ∷ ps) [] t h k = absurd (omega arith)
length-wrapped (p ∷ ps) (m ∷ ms) t h k =
    let n = p.length in
    let a : length (take n t) ≡ n = length-take-le n t (omega arith) in
    let b : length (drop n t) ≡ length t - n = length-drop n t in
    let e : length (enclosed m (take n t)) ≡ length (take n t) + extra m = length-enclosed m (take n t) in
    let f : length (wrapped ps ms (drop n t)) ≡ length (drop n t) + added ms = length-wrapped ps ms (drop n t) (omega arith) (omega arith) in
    length-append (enclosed m (take n t)) (wrapped ps ms (drop n t)) ∙ omega arith

-- where nothing is marked it is the text
pub wrapped_unmarked : (ps : List spec.Part) (ms : List Bool) (t : List ℕ) → added ms ≡ 0 → wrapped ps ms t ≡ t
unfolding wrapped added
wrapped_unmarked [] ms t h = refl
wrapped_unmarked (p ∷ ps) [] t h = refl
wrapped_unmarked (p ∷ ps) (true ∷ ms) t h = absurd (omega arith)
wrapped_unmarked (p ∷ ps) (false ∷ ms) t h = rw (wrapped_unmarked ps ms (drop p.length t) (omega arith)) (take-append-drop p.length t)

-- the text of a first part, and what follows it
pub wrapped_cons : (p : spec.Part) (ps : List spec.Part) (m : Bool) (ms : List Bool) (t u : List ℕ) → length t ≡ p.length → wrapped (p ∷ ps) (m ∷ ms) (t ++ u) ≡ enclosed m t ++ wrapped ps ms u
unfolding wrapped
wrapped_cons p ps m ms t u h = rw (take_at t u p.length h, drop_at t u p.length h)

-- the lengths of texts are those of parts
abbrev pub AreOf : List spec.Part → List (List ℕ) → Type 0
AreOf [] [] = Unit {0}
AreOf [] (t ∷ ts) = ⊥
AreOf (p ∷ ps) [] = ⊥
AreOf (p ∷ ps) (t ∷ ts) = (length t ≡ p.length) × AreOf ps ts

pub length-texts : (ps : List spec.Part) (ts : List (List ℕ)) → AreOf ps ts → length (flatten ts) ≡ total ps
unfolding flatten total
length-texts [] [] w = refl
length-texts [] (t ∷ ts) w = absurd w
length-texts (p ∷ ps) [] w = absurd w
length-texts (p ∷ ps) (t ∷ ts) w = length-append t (flatten ts) ∙ omega (arith, w.0, length-texts ps ts w.1)

-- the texts of the parts laid in turn, each in parentheses where its part is marked: a second rendering
pub wrapped-each : (ps : List spec.Part) (ms : List Bool) (ts : List (List ℕ)) → length ms ≡ length ps → AreOf ps ts → wrapped ps ms (flatten ts) ≡ flatten (enclosed_each ms ts)
unfolding wrapped flatten enclosed_each
wrapped-each [] [] [] h w = refl
wrapped-each [] [] (t ∷ ts) h w = absurd w
wrapped-each [] (m ∷ ms) ts h w = absurd (omega arith)
wrapped-each (p ∷ ps) [] ts h w = absurd (omega arith)
wrapped-each (p ∷ ps) (m ∷ ms) [] h w = absurd w
wrapped-each (p ∷ ps) (m ∷ ms) (t ∷ ts) h w =
    wrapped_cons p ps m ms t (flatten ts) w.0 ∙ ap (λ (u : List ℕ). enclosed m t ++ u) (wrapped-each ps ms ts (omega arith) w.1)

-- the last of the first parts of a list, with what is in front of it and behind it
last_split : (ps left left' : List Part) (p : Part) → take (length left) ps ≡ left → left ≡ left' ++ p ∷ [] → ps ≡ left' ++ (p ∷ drop (length left) ps)
last_split ps left left' p h e =
    sym (take-append-drop (length left) ps) ∙ rw h (ap (λ (l : List Part). l ++ drop (length left) ps) e ∙ append_assoc left' (p ∷ []) (drop (length left) ps))

last_front : (ps left left' : List Part) (p : Part) → take (length left) ps ≡ left → left ≡ left' ++ p ∷ [] → take (length left') ps ≡ left'
last_front ps left left' p h e =
    ap (λ (l : List Part). take (length left') l) (last_split ps left left' p h e) ∙ take_at left' (p ∷ drop (length left) ps) (length left') refl

last_behind : (ps left left' : List Part) (p : Part) → take (length left) ps ≡ left → left ≡ left' ++ p ∷ [] → drop (length left') ps ≡ p ∷ drop (length left) ps
last_behind ps left left' p h e =
    ap (λ (l : List Part). drop (length left') l) (last_split ps left left' p h e) ∙ drop_at left' (p ∷ drop (length left) ps) (length left') refl

-- ---- putting parentheses in, from the last part to the first

-- the parts that are left end at `from`; the text of those behind them begins at `to`, and was in d
pub record Moved (d : List ℕ) (size : ℕ) (parts left : List Part) (from to : ℕ) (out : List ℕ) : Type 0 where
  pub left_is : take (length left) parts ≡ left
  pub from_is : from ≡ total (parts_of left)
  pub to_is : to ≡ from + added (marks_of left)
  pub out_is : out ≡ laid d to (wrapped (parts_of (drop (length left) parts)) (marks_of (drop (length left) parts)) (drop from (take size d)))

module _ {d : List ℕ} {size more : ℕ} {parts : List Part} (whole : size ≡ total (parts_of parts)) (marks : more ≡ added (marks_of parts)) (room : size + more ≤ length d) where
  pub moved_none : Moved d size parts parts size (size + more) d
  unfolding wrapped
  moved_none = record {
    left_is = take-length parts;
    from_is = whole;
    to_is = ap (λ (n : ℕ). size + n) marks;
    out_is = rw (drop_of_length-le parts {i = length parts} (omega arith), drop_of_length-le (take size d) {i = size} (omega (arith, length-take-le size d))) (sym (laid_nothing d (size + more)));
  }

  -- a turn: the last of the parts that are left is put before those
  module _ {left : List Part} (left' : List Part) (p : Part) {from to : ℕ} {out : List ℕ} (last : left ≡ left' ++ p ∷ []) (moved : Moved d size parts left from to out) where
    bytes : total (parts_of left) ≡ total (parts_of left') + p.length
    bytes = rw last (total_push left' p)

    marked : added (marks_of left) ≡ added (marks_of left') + extra p.is_enclosed
    marked = rw last (added_push left' p)

    within : (total (parts_of left) ≤ total (parts_of parts)) × (added (marks_of left) ≤ added (marks_of parts))
    within = (
      rw moved.left_is at (total_part parts (length left)),
      rw moved.left_is at (added_part parts (length left)),
    )

    -- there is room for it
    pub moved_fits : (p.length ≤ from) × (from + extra p.is_enclosed ≤ to) × (to ≤ length d)
    moved_fits = (
      omega (arith, bytes, moved.from_is),
      omega (arith, marked, moved.to_is),
      omega (arith, moved.from_is, moved.to_is, within),
    )

    pub moved_one : {r : ℕ} {out' : List ℕ} → r + p.length + extra p.is_enclosed ≡ to
        → out' ≡ laid out r (enclosed p.is_enclosed (take p.length (drop (from - p.length) out))) → Moved d size parts left' (from - p.length) r out'
    unfolding wrapped
    moved_one {r} e laid_is =
        let n = p.length in
        let m = p.is_enclosed in
        let y = from - n in
        let text = take size d in
        let w = wrapped (parts_of (drop (length left) parts)) (marks_of (drop (length left) parts)) (drop from text) in
        let back : y + n ≡ from = omega (arith, moved_fits.0) in
        let inside : from ≤ size = omega (arith, moved.from_is, within) in
        let f : take n (drop y out) ≡ take n (drop y d) = rw moved.out_is (bytes_laid d y n to w (omega (arith, back, moved_fits.1)) moved_fits.2) in
        let g : take n (drop y text) ≡ take n (drop y d) = bytes_inside y n size d (omega (arith, back)) in
        let l : length (take n (drop y d)) ≡ n = length_bytes y n d (omega (arith, back)) in
        let behind : drop (length left') parts ≡ p ∷ drop (length left) parts = last_behind parts left left' p moved.left_is last in
        record {
          left_is = last_front parts left left' p moved.left_is last;
          from_is = omega (arith, bytes, moved.from_is);
          to_is = omega (arith, marked, moved.to_is, e, back, moved_fits.1);
          out_is =
              rw laid_is (rw (f, behind, g, drop-drop n y text, back) (ap (λ (o : List ℕ). laid o r (enclosed m (take n (drop y d)))) moved.out_is
              ∙ laid_before d r to (enclosed m (take n (drop y d))) w (omega (arith, length-enclosed m (take n (drop y d)), l, e)) moved_fits.2));
        }

  -- none is left
  pub moved_all_laid : {from to : ℕ} {out : List ℕ} → Moved d size parts [] from to out → out ≡ laid d 0 (wrapped (parts_of parts) (marks_of parts) (take size d))
  unfolding total added
  moved_all_laid {from} {to} moved =
      let a : from ≡ 0 = moved.from_is in
      let b : to ≡ 0 = omega (arith, moved.to_is, a) in
      moved.out_is ∙ rw (a, b) refl

-- where there is room for no more, the text in its parentheses is all that stands there
pub laid_all : (d : List ℕ) (size : ℕ) (parts : List Part) → size ≡ total (parts_of parts) → length d ≡ size + added (marks_of parts)
    → laid d 0 (wrapped (parts_of parts) (marks_of parts) (take size d)) ≡ wrapped (parts_of parts) (marks_of parts) (take size d)
laid_all d size parts whole room =
    let w = wrapped (parts_of parts) (marks_of parts) (take size d) in
    let l : length (take size d) ≡ size = length-take-le size d (omega arith) in
    let m : length (marks_of parts) ≡ length (parts_of parts) = length-map parts (λ p. p.is_enclosed) ∙ sym (length-map parts part_of) in
    let k : length w ≡ length d = length-wrapped (parts_of parts) (marks_of parts) (take size d) m (omega (arith, l)) ∙ omega (arith, l) in
    let z : drop (0 + length w) d ≡ [] = drop_of_length-le d {i = 0 + length w} (omega (arith, k)) in
    rw z (append-nil w)

module _ {d : List ℕ} {size : ℕ} {parts : List Part} (whole : size ≡ total (parts_of parts)) (room : length d ≡ size + added (marks_of parts)) where
  -- so, where none is left, that text alone
  pub moved_all : {from to : ℕ} {out : List ℕ} → Moved d size parts [] from to out → out ≡ wrapped (parts_of parts) (marks_of parts) (take size d)
  moved_all moved = moved_all_laid whole refl (omega arith) moved ∙ laid_all d size parts whole room
