-- Laws of the output buffer: what laying answers, lengths, two writes as one, and how a result laid at the front fills the buffer.
-- Assumes nothing.
use mathlib.Core.Path.{◌≡◌, refl, ap, ◌∙◌}
use mathlib.Core.Bool.{Bool, true, false, cond}
use mathlib.Core.List.{List, ◌++◌, append_assoc, append-nil}
use Prim.Native.Nat.{ℕ, ◌+◌, ◌-◌, ◌<◌, ◌≤◌}
use native.Mathlib.Nat.{add_assoc}
use native.Mathlib.Omega.{arith}
use lib.Dec.{leb}
use lib.ListN.{length, take, drop, replicate, length-append, length-take, length-drop, drop_of_length-le}
use lib.Seq.{take_at, drop_at, drop-drop, length-take-le}
use borrow.Author.Tests.{le-leb, lt-leb, leb-true, leb-false}
use Rattle.std.proofs.Common.{Some, None}
use Rattle.words.specs.Buffer.{used_of, padded, filled, laid, place_after, laid_if_room}

-- ---- laying

inv_at : (b : Bool) (m n : ℕ) → cond b (Some m) None ≡ Some n → (b ≡ true) × (m ≡ n)
inv_at true m n h = (refl, cc)
inv_at false m n h = absurd (let z : ◌≡◌ {A = ℕ} 0 1 = cc in omega arith)

inv_full : (b : Bool) (m : ℕ) → cond b (Some m) None ≡ None → b ≡ false
inv_full true m h = absurd (let z : ◌≡◌ {A = ℕ} 0 1 = cc in omega arith)
inv_full false m h = refl

module _ (d : List ℕ) (at : ℕ) (bs : List ℕ) where
  head_length : at + length bs ≤ length d → length (take at d ++ bs) ≡ at + length bs
  head_length h = length-append (take at d) bs ∙ ap (λ (k : ℕ). k + length bs) (length-take-le at d (omega arith))

  pub room : at + length bs ≤ length d → (Some (at + length bs) ≡ place_after (length d) at (length bs)) × (laid d at bs ≡ laid_if_room d at bs)
  room h = rw (le-leb (at + length bs) (length d) h) (refl, refl)

  pub no_room : length d < at + length bs → (None ≡ place_after (length d) at (length bs)) × (d ≡ laid_if_room d at bs)
  no_room h = rw (lt-leb (at + length bs) (length d) h) (refl, refl)

  -- it fitted
  pub placed_at : (n : ℕ) → place_after (length d) at (length bs) ≡ Some n → (at + length bs ≡ n) × (at + length bs ≤ length d) × (laid_if_room d at bs ≡ laid d at bs)
  placed_at n h =
      let i = inv_at (leb (at + length bs) (length d)) (at + length bs) n h in
      (i.1, leb-true _ _ i.0, rw i.0)

  -- it did not, and nothing was written
  pub placed_full : place_after (length d) at (length bs) ≡ None → (length d < at + length bs) × (laid_if_room d at bs ≡ d)
  placed_full h =
      let i = inv_full (leb (at + length bs) (length d)) (at + length bs) h in
      (leb-false _ _ i, rw i)

  pub length-laid : at + length bs ≤ length d → length (laid d at bs) ≡ length d
  length-laid h =
      let e : length (take at d) ≡ at = length-take-le at d (omega arith) in
      simp (length-append, length-drop) (omega arith)

  -- what stands up to the place behind the bytes
  pub take-laid : at + length bs ≤ length d → take (at + length bs) (laid d at bs) ≡ take at d ++ bs
  take-laid h = take_at (take at d ++ bs) (drop (at + length bs) d) (at + length bs) (head_length h)

  -- a second write where the first ended: the two are one
  pub laid-laid : (ys : List ℕ) → at + length bs ≤ length d → laid (laid d at bs) (at + length bs) ys ≡ laid d at (bs ++ ys)
  laid-laid ys h =
      rw (
        take-laid h,
        ← drop-drop (length ys) (at + length bs) (laid d at bs),
        drop_at (take at d ++ bs) (drop (at + length bs) d) (at + length bs) (head_length h),
        drop-drop (length ys) (at + length bs) d,
        length-append bs ys,
        add_assoc at (length bs) (length ys),
        append_assoc (take at d) bs ys,
      )

-- ---- the used part

used_by : (b : Bool) (n : ℕ) → leb n 1048576 ≡ b → cond b n 1048576 ≤ n
used_by true n h = omega arith
used_by false n h = omega (arith, leb-false n 1048576 h)

pub used_within : (n : ℕ) → used_of n ≤ n
used_within n = used_by (leb n 1048576) n refl

-- the first n bytes of a part of u bytes, with 0 behind them, are padded
pub ending : (d : List ℕ) (u n : ℕ) → length d ≡ u → take n d ++ replicate (length d - n) 0 ≡ padded u (take n d)
ending d u n h =
    let e : length d - n ≡ u - length (take n d) = simp length-take (omega arith) in
    rw e

-- an operation that left e in the used part of d, the first n bytes of it its result, and then ended
pub ended : (d e bs : List ℕ) (n : ℕ) → length e ≡ used_of (length d) → take n e ≡ bs → filled (e ++ drop (used_of (length d)) d) (take n (take (used_of (length (e ++ drop (used_of (length d)) d))) (e ++ drop (used_of (length d)) d))) ≡ filled d bs
ended d e bs n h k =
    let u = used_of (length d) in
    let l : length (e ++ drop u d) ≡ length d = length-append e (drop u d) ∙ omega (arith, h, length-drop u d, used_within (length d)) in
    rw (l, take_at e (drop u d) u h, drop_at e (drop u d) u h, k)

-- the used part of a buffer
pub used_all : (n : ℕ) → n ≤ 1048576 → used_of n ≡ n
used_all n h = rw (le-leb n 1048576 h)

small_by : (b : Bool) (n : ℕ) → leb n 1048576 ≡ b → cond b n 1048576 ≤ 1048576
small_by true n h = omega (arith, leb-true n 1048576 h)
small_by false n h = omega arith

pub used_small : (n : ℕ) → used_of n ≤ 1048576
used_small n = small_by (leb n 1048576) n refl

-- filled by itself, with what is beyond it behind it
pub used_part : (d bs : List ℕ) → filled (take (used_of (length d)) d) bs ++ drop (used_of (length d)) d ≡ filled d bs
used_part d bs =
    let u = used_of (length d) in
    let l : length (take u d) ≡ u = length-take-le u d (used_within (length d)) in
    let z : length (take u d) ≤ u = omega (arith, l) in
    rw (l, used_all u (used_small (length d)), drop_of_length-le (take u d) z, append-nil (padded u bs))

-- an operation that was made in the used part alone, its bytes by how many of these there are
pub part_filled : (bs : ℕ → List ℕ) (d e : List ℕ) → let u = used_of (length d) in e ≡ filled (take u d) (bs (used_of (length (take u d))))
    → e ++ drop u d ≡ filled d (bs u)
part_filled bs d e h =
    let u = used_of (length d) in
    let l : used_of (length (take u d)) ≡ u = ap (λ (n : ℕ). used_of n) (length-take-le u d (used_within (length d))) ∙ used_all u (used_small (length d)) in
    ap (λ (x : List ℕ). x ++ drop u d) (h ∙ ap (λ (n : ℕ). filled (take u d) (bs n)) l) ∙ used_part d (bs u)
