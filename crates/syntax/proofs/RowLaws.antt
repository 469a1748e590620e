-- Laws of well-formedness by the words alone.
-- Assumes nothing.
use mathlib.Core.Path.{◌≡◌, refl, sym, ◌∙◌}
use mathlib.Core.Bool.{Bool, true, false, cond, ◌&&◌}
use mathlib.Core.List.{List}
use Prim.Native.Nat.{ℕ, zero, suc, ◌*◌, ◌≤◌, ◌<◌}
use native.Mathlib.Omega.{arith}
use lib.ListN.{length, drop, length-drop}
use lib.Dec.{eqb, leb}
use borrow.Author.Tests.{eqb-true, eqb-false, eq-eqb, ne_eqb}
use Rattle.words.specs.Fields.{is_a_token, start_of, end_of}
use Rattle.syntax.specs.Parts.{span, rest_words}
use Rattle.syntax.specs.Rows.{row_for, in_row, is_ranged, is_token_part, is_node_part, is_element, every_for, every}
use Rattle.syntax.proofs.PartLaws.{rest_shorter}

row_zero : (n : ℕ) (l : List ℕ) (from to : ℕ) → length l ≡ 0 → row_for (suc n) l from to ≡ eqb from to
unfolding row_for
row_zero n l from to h = rw (eq-eqb _ _ h)

row_step : (n : ℕ) (l : List ℕ) (from to : ℕ) → 0 < length l → row_for (suc n) l from to ≡
    cond (leb (span l * 3) (length l) && eqb (start_of l) from) (row_for n (rest_words l) (end_of l) to) false
unfolding row_for
row_step n l from to h = rw (ne_eqb (length l) 0 (λ e. omega arith))

-- more turns than there are words change nothing
row_again : (n m : ℕ) (l : List ℕ) (from to : ℕ) → ((k : List ℕ) (f : ℕ) → length k < n → length k < m → row_for n k f to ≡ row_for m k f to)
    → length l ≤ n → length l ≤ m → (b : Bool) → eqb (length l) 0 ≡ b → row_for (suc n) l from to ≡ row_for (suc m) l from to
row_again n m l from to more h k true e = row_zero n l from to (eqb-true _ _ e) ∙ sym (row_zero m l from to (eqb-true _ _ e))
row_again n m l from to more h k false e =
    let ne : length l ≡ 0 → ⊥ = eqb-false (length l) 0 e in
    let p : 0 < length l = omega (arith, ne) in
    let r = rest_shorter l p in
    row_step n l from to p ∙ rw (more (rest_words l) (end_of l) (omega arith) (omega arith)) (sym (row_step m l from to p))

row_more : (n m : ℕ) (l : List ℕ) (from to : ℕ) → length l < n → length l < m → row_for n l from to ≡ row_for m l from to
row_more zero m l from to h k = absurd (omega arith)
row_more (suc n) zero l from to h k = absurd (omega arith)
row_more (suc n) (suc m) l from to h k = row_again n m l from to (λ x f. row_more n m x f to) (omega arith) (omega arith) (eqb (length l) 0) refl

-- the end of a row, and its first element
pub row_end : (l : List ℕ) (from to : ℕ) → length l ≡ 0 → in_row l from to ≡ eqb from to
unfolding in_row
row_end l from to h = row_zero (length l) l from to h

pub row_next : (l : List ℕ) (from to : ℕ) → 0 < length l → in_row l from to ≡
    cond (leb (span l * 3) (length l) && eqb (start_of l) from) (in_row (rest_words l) (end_of l) to) false
unfolding in_row
row_next l from to h =
    let r = rest_shorter l h in
    row_step (length l) l from to h ∙ rw (row_more (length l) (suc (length (rest_words l))) (rest_words l) (end_of l) to (omega arith) (omega arith))

every_zero : (n : ℕ) (l : List ℕ) → length l ≡ 0 → every_for n l ≡ true
unfolding every_for
every_zero zero l h = refl
every_zero (suc n) l h = rw (eq-eqb _ _ h)

every-step : (n : ℕ) (l : List ℕ) → 0 < length l → every_for (suc n) l ≡ (is_element l && every_for n (drop 3 l))
unfolding every_for
every-step n l h = rw (ne_eqb (length l) 0 (λ e. omega arith))

every-again : (n m : ℕ) (l : List ℕ) → ((k : List ℕ) → length k ≤ n → length k ≤ m → every_for n k ≡ every_for m k)
    → length l ≤ suc n → length l ≤ suc m → (b : Bool) → eqb (length l) 0 ≡ b → every_for (suc n) l ≡ every_for (suc m) l
every-again n m l more h k true e = every_zero (suc n) l (eqb-true _ _ e) ∙ sym (every_zero (suc m) l (eqb-true _ _ e))
every-again n m l more h k false e =
    let ne : length l ≡ 0 → ⊥ = eqb-false (length l) 0 e in
    let p : 0 < length l = omega (arith, ne) in
    every-step n l p ∙ rw (more (drop 3 l) (simp length-drop (omega arith)) (simp length-drop (omega arith))) (sym (every-step m l p))

every_more : (n m : ℕ) (l : List ℕ) → length l ≤ n → length l ≤ m → every_for n l ≡ every_for m l
every_more zero m l h k = every_zero zero l (omega arith) ∙ sym (every_zero m l (omega arith))
every_more (suc n) zero l h k = every_zero (suc n) l (omega arith) ∙ sym (every_zero zero l (omega arith))
every_more (suc n) (suc m) l h k = every-again n m l (λ x. every_more n m x) h k (eqb (length l) 0) refl

-- the end of the elements, and the first of them
pub every_end : (l : List ℕ) → length l ≡ 0 → every l ≡ true
unfolding every
every_end l h = every_zero (length l) l h

pub every-next : (l : List ℕ) → 0 < length l → every l ≡ (is_element l && every (drop 3 l))
unfolding every
every-next l h =
    every_more (length l) (suc (length l)) l (omega arith) (omega arith) ∙ every-step (length l) l h
    ∙ rw (every_more (length l) (length (drop 3 l)) (drop 3 l) (simp length-drop (omega arith)) (omega arith))

-- an element by its kind
pub element-token : (l : List ℕ) → is_ranged l ≡ true → is_a_token l ≡ true → is_element l ≡ is_token_part l
unfolding is_element
element-token l h t = rw (h, t)

pub element_node : (l : List ℕ) → is_ranged l ≡ true → is_a_token l ≡ false → is_element l ≡ is_node_part l
unfolding is_element
element_node l h t = rw (h, t)
