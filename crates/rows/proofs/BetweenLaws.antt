-- Laws of the bytes from one place of the buffer to another, and of bytes laid behind them.
-- Assumes nothing.
use mathlib.Core.Path.{◌≡◌, refl, sym, ap, ◌∙◌}
use mathlib.Core.List.{List, [], ◌∷◌, ◌++◌}
use Prim.Native.Nat.{ℕ, zero, suc, ◌+◌, ◌-◌, ◌≤◌}
use native.Mathlib.Omega.{arith}
use lib.ListN.{length, take, drop, length-append, length-drop}
use lib.Seq.{take-take, take-append-le, drop-append-le, drop-append_seam, drop-drop, take-nil, length-take-le}
use Rattle.words.specs.Buffer.{laid}
use Rattle.words.proofs.BufferLaws.{take-laid, length-laid}
use Rattle.rows.specs.Frames.{between, Grows}

drop-take : (a b : ℕ) (l : List ℕ) → between a b l ≡ drop a (take b l)
drop-take zero b l = let e : b - 0 ≡ b = omega arith in rw e
drop-take (suc a) zero l = let e : 0 - suc a ≡ 0 = omega arith in rw e
drop-take (suc a) (suc b) [] = take-nil (suc b - suc a)
drop-take (suc a) (suc b) (x ∷ l) = let e : suc b - suc a ≡ b - a = omega arith in rw e (drop-take a b l)

pub length-between : (a b : ℕ) (l : List ℕ) → b ≤ length l → length (between a b l) ≡ b - a
length-between a b l h = length-take-le (b - a) (drop a l) (omega (arith, length-drop a l))

-- bytes before a place
pub between-same : (a b at : ℕ) (l m : List ℕ) → b ≤ at → take at m ≡ take at l → between a b m ≡ between a b l
between-same a b at l m h e =
    drop-take a b m ∙ ap (drop a) (sym (take-take b at m h) ∙ ap (take b) e ∙ take-take b at l h) ∙ sym (drop-take a b l)

-- nothing stands from a place to itself
pub between_none : (a : ℕ) (l : List ℕ) → between a a l ≡ []
between_none a l = let e : a - a ≡ 0 = omega arith in rw e

-- the end of what stands before a place
pub between_end : (a o at : ℕ) (l xs ys : List ℕ) → a ≤ at → at ≤ length l → between a at l ≡ xs ++ ys → o + length ys ≡ at → between o at l ≡ ys
between_end a o at l xs ys h m e p =
    let n : length xs + length ys ≡ at - a = sym (length-append xs ys) ∙ sym (ap length e) ∙ length-between a at l m in
    let q : o ≡ a + length xs = omega arith in
    drop-take o at l ∙ ap (λ (k : ℕ). drop k (take at l)) q ∙ sym (drop-drop (length xs) a (take at l))
    ∙ ap (drop (length xs)) (sym (drop-take a at l) ∙ e) ∙ drop-append_seam xs ys

-- ---- a buffer with bytes laid behind a place, up to another

-- what stands from a place before
pub grows_between : (a at at' : ℕ) (out out' bs : List ℕ) → a ≤ at → Grows out out' at at' bs → between a at' out' ≡ between a at out ++ bs
grows_between a at at' out out' bs h g =
    let l = g.ends in let m = g.rise in
    let n : a ≤ length (take at out') = omega (arith, length-take-le at out' (omega arith)) in
    drop-take a at' out' ∙ ap (drop a) (split at at' out' m) ∙ drop-append-le a (take at out') (between at at' out') n
    ∙ rw (g.new, g.same) (ap (λ (x : List ℕ). x ++ bs) (sym (drop-take a at out)))
  where
    split : (a b : ℕ) (l : List ℕ) → a ≤ b → take b l ≡ take a l ++ between a b l
    split zero b l h = let e : b - 0 ≡ b = omega arith in rw e
    split (suc a) zero l h = absurd (omega arith)
    split (suc a) (suc b) [] h = sym (take-nil (suc b - suc a))
    split (suc a) (suc b) (x ∷ l) h = let e : suc b - suc a ≡ b - a = omega arith in rw e (ap (λ (m : List ℕ). x ∷ m) (split a b l (omega arith)))

pub grows_none : (out : List ℕ) (at : ℕ) → at ≤ length out → Grows out out at at []
grows_none out at h = record { size = refl; same = refl; rise = omega arith; ends = h; new = between_none at out }

pub grows_laid : (out : List ℕ) (at : ℕ) (bs : List ℕ) → at + length bs ≤ length out → Grows out (laid out at bs) at (at + length bs) bs
grows_laid out at bs h =
    let t = take-laid out at bs h in let n = length-take-le at out (omega arith) in
    let s : take at (laid out at bs) ≡ take at out =
    sym (take-take at (at + length bs) (laid out at bs) (omega arith)) ∙ ap (take at) t ∙ take-append-le at (take at out) bs (omega arith)
    ∙ take-take at at out (omega arith) in
    record {
      size = length-laid out at bs h;
      same = s;
      rise = omega arith;
      ends = omega (arith, length-laid out at bs h);
      new = drop-take at (at + length bs) (laid out at bs) ∙ ap (drop at) t ∙ ap (λ (k : ℕ). drop k (take at out ++ bs)) (sym n)
          ∙ drop-append_seam (take at out) bs;
    }

pub grows_trans : {out out₁ out₂ : List ℕ} {at at₁ at₂ : ℕ} {xs ys : List ℕ} → Grows out out₁ at at₁ xs → Grows out₁ out₂ at₁ at₂ ys
    → Grows out out₂ at at₂ (xs ++ ys)
grows_trans {out} {out₁} {out₂} {at} {at₁} {at₂} {xs} {ys} a b = record {
  size = b.size ∙ a.size;
  same = sym (take-take at at₁ out₂ a.rise) ∙ ap (take at) b.same ∙ take-take at at₁ out₁ a.rise ∙ a.same;
  rise = omega arith;
  ends = b.ends;
  new = grows_between at at₁ at₂ out₁ out₂ ys a.rise b ∙ ap (λ (l : List ℕ). l ++ ys) a.new;
}
