-- Laws of parts and of the comparison of texts.
-- Assumes nothing.
use mathlib.Core.Path.{◌≡◌, refl, sym, ap, ◌∙◌}
use mathlib.Core.Bool.{Bool, true, false, cond, ◌&&◌, and-false, and_assoc}
use mathlib.Core.List.{List, [], ◌∷◌, ◌++◌}
use Prim.Native.Nat.{ℕ, suc, ◌+◌, ◌-◌, ◌<◌, ◌≤◌}
use native.Mathlib.Omega.{arith}
use lib.Dec.{eqb, leb}
use lib.ListN.{length, take, drop, drop_of_length-le}
use lib.Seq.{drop-drop, take_all, take-add}
use borrow.Author.Tests.{eqb-true, eqb-false, eq-eqb, ne_eqb, le-leb}
use Rattle.words.proofs.TestLaws.{and_both}
use Rattle.words.specs.Texts.{part, same_text, has_prefix}

-- ---- a part

module _ (t : List ℕ) (start end : ℕ) where
  pub part_in : start ≤ end → end ≤ length t → part t start end ≡ take (end - start) (drop start t)
  unfolding part
  part_in h k = rw (le-leb start end h, le-leb end (length t) k)

either_none : (b : Bool) → cond {A = List ℕ} b [] [] ≡ []
either_none true = refl
either_none false = refl

pub part_none : (t : List ℕ) (n : ℕ) → part t n n ≡ []
unfolding part
part_none t n =
    let e : n - n ≡ 0 = omega arith in
    rw e (either_none (leb n n && leb n (length t)))

-- two parts that touch are one
pub part_join : (t : List ℕ) (a b c : ℕ) → a ≤ b → b ≤ c → c ≤ length t → part t a b ++ part t b c ≡ part t a c
part_join t a b c h k l =
    let e : c - a ≡ b - a + (c - b) = omega arith in
    let f : a + (b - a) ≡ b = omega arith in
    rw (part_in t a b h (omega arith), part_in t b c k l, part_in t a c (omega arith) l, e, take-add (b - a) (c - b) (drop a t), drop-drop (b - a) a t, f)

-- ---- a loop from the front

pub same_end : (x y : List ℕ) (i : ℕ) → length x ≤ i → length y ≤ i → same_text (drop i x) (drop i y) ≡ true
same_end x y i h k = rw (drop_of_length-le x h, drop_of_length-le y k)

pub same_lengths : (x y : List ℕ) → (length x ≡ length y → ⊥) → same_text x y ≡ false
same_lengths [] [] n = absurd (n refl)
same_lengths [] (b ∷ y) n = refl
same_lengths (a ∷ x) [] n = refl
same_lengths (a ∷ x) (b ∷ y) n = rw (same_lengths x y (λ e. n (ap suc e))) (and-false (eqb a b))

-- a text that is shorter than a prefix does not begin with it
pub prefix_short : (p t : List ℕ) → length t < length p → has_prefix p t ≡ false
prefix_short p t h = rw (take_all (length p) t (omega arith)) (same_lengths t p (λ e. omega arith))

-- ---- two texts are the same exactly if they are equal

pub same_equal : (x y : List ℕ) → same_text x y ≡ true → x ≡ y
same_equal [] [] h = refl
same_equal [] (b ∷ y) h = absurd (let z : ◌≡◌ {A = ℕ} 0 1 = cc in omega arith)
same_equal (a ∷ x) [] h = absurd (let z : ◌≡◌ {A = ℕ} 0 1 = cc in omega arith)
same_equal (a ∷ x) (b ∷ y) h =
    let p = and_both (eqb a b) (same_text x y) h in
    let e : a ≡ b = eqb-true a b p.0 in
    let r : x ≡ y = same_equal x y p.1 in
    cc

pub equal_same : (x : List ℕ) → same_text x x ≡ true
equal_same [] = refl
equal_same (a ∷ x) = rw (eq-eqb a a refl, equal_same x)

-- ---- a text that begins with another

pub eqb_sym : (a b : ℕ) → eqb a b ≡ eqb b a
eqb_sym a b = by (eqb a b) refl
  where
    by : (x : Bool) → eqb a b ≡ x → eqb a b ≡ eqb b a
    by true e = e ∙ sym (eq-eqb b a (sym (eqb-true a b e)))
    by false e = e ∙ sym (ne_eqb b a (λ f. eqb-false a b e (sym f)))

-- a text is two others in turn exactly if it begins with the first and the second is the rest
pub same-append : (p x t : List ℕ) → same_text (p ++ x) t ≡ (has_prefix p t && same_text x (drop (length p) t))
same-append [] x t = refl
same-append (a ∷ p) x [] = refl
same-append (a ∷ p) x (b ∷ t) = rw (eqb_sym a b, same-append p x t) (sym (and_assoc (eqb b a) (same_text (take (length p) t) p) (same_text x (drop (length p) t))))
