-- Laws of what laying leaves: by the buffer's own answer, and one text behind another.
-- Assumes nothing.
use mathlib.Core.Path.{◌≡◌, sym, ap, subst, ◌∙◌}
use mathlib.Core.List.{List, ◌++◌}
use Prim.Native.Nat.{ℕ, ◌+◌}
use native.Mathlib.Omega.{arith}
use lib.ListN.{length, take, length-append}
use lib.Seq.{take-take}
use Rattle.std.specs.Prelude.{Option, Some, None}
use Rattle.words.specs.Buffer.{place_after, laid_if_room}
use Rattle.words.proofs.BufferLaws.{placed_at, placed_full}
use Rattle.rows.specs.Frames.{Grows}
use Rattle.rows.proofs.BetweenLaws.{length-between, grows_laid, grows_trans}
use Rattle.replacing.specs.Laying.{Short, Lays}

pub lays_put : (d : List ℕ) (at : ℕ) (bs : List ℕ) (r : Option ℕ) (d' : List ℕ) → r ≡ place_after (length d) at (length bs) → d' ≡ laid_if_room d at bs
    → Lays d at bs d' r
lays_put d at bs (Some n) d' e f =
    let p = placed_at d at bs n (sym e) in
    subst (λ (m : ℕ). Grows d d' at m bs) p.0 (subst (λ (l : List ℕ). Grows d l at (at + length bs) bs) (sym (f ∙ p.2)) (grows_laid d at bs p.1))
lays_put d at bs None d' e f =
    let p = placed_full d at bs (sym e) in
    record { short = p.0; size = ap length (f ∙ p.1); same = ap (take at) (f ∙ p.1) }

-- the place behind
pub grows_place : {d e : List ℕ} {at n : ℕ} {bs : List ℕ} → Grows d e at n bs → n ≡ at + length bs
grows_place {d} {e} {at} {n} {bs} g = omega (arith, sym (length-between at n e g.ends) ∙ ap length g.new, g.rise)

-- ---- one text behind another

pub lays_then : (d e f : List ℕ) (at n : ℕ) (xs ys : List ℕ) (r : Option ℕ) → Grows d e at n xs → Lays e n ys f r → Lays d at (xs ++ ys) f r
lays_then d e f at n xs ys (Some m) g l = grows_trans g l
lays_then d e f at n xs ys None g l = record {
  short = omega (arith, l.short, g.size, grows_place g, length-append xs ys);
  size = l.size ∙ g.size;
  same = sym (take-take at n f g.rise) ∙ ap (take at) l.same ∙ take-take at n e g.rise ∙ g.same;
}

-- the first does not fit
pub short_then : (d e : List ℕ) (at : ℕ) (xs ys : List ℕ) → Short d e at xs → Short d e at (xs ++ ys)
short_then d e at xs ys s = record { short = omega (arith, s.short, length-append xs ys); size = s.size; same = s.same }
