-- The forms by their numbers.
-- Assumes nothing.
use mathlib.Core.Path.{◌≡◌, subst}
use mathlib.Core.List.{List, [], ◌∷◌}
use Prim.Native.Nat.{ℕ, zero, suc, ◌+◌, ◌<◌, ◌≤◌}
use native.Mathlib.Omega.{arith}
use lib.ListN.{get_or}
use denote.Param.Members.{Mut}
use Rattle.std.specs.Array.{IsMapOf, MapsFrom}
use Rattle.std.specs.Fn.{Called}
use Rattle.words.proofs.TestLaws.{same_or}
use Rattle.fragments.specs.declared.forms.Form.{Form}
use Rattle.fragments.specs.declared.forms.Form.TheVariants as form
use Rattle.fragments.specs.Forms.{five}

-- where each call gives h of its argument and leaves the closure as it was, what `map` makes has h of each element
module _ {F A B : Type 0} {g : Mut F (A × Unit {0}) B} {f : F} (h : A → B) (w : (x : A) (y : B) (q : F) → Called g f (x, tt) y q → (q ≡ f) × (y ≡ h x)) (xs : List A) (ys : List B) where
  mapped : (n i k : ℕ) (d : A) (e : B) → MapsFrom g f xs ys i n → i ≤ k → k < i + n → get_or ys k e ≡ h (get_or xs k d)
  mapped zero i k d e m lo hi = absurd (omega arith)
  mapped (suc n) i k d e (q, x, y, at_x, at_y, called, rest) lo hi =
      let u = w x y q called in
      same_or k i
      (λ c. rw (c, at_x.1 d, at_y.1 e) u.1)
      (λ c. mapped n (i + 1) k d e (subst (λ (r : F). MapsFrom g r xs ys (i + 1) n) u.0 rest) (omega arith) (omega arith))

-- what `map` makes of `Form::ALL`, where each call gives h of its form
pub five_from_map : {F A : Type 0} {g : Mut F (Form × Unit {0}) A} {f : F} (h : Form → A) (ys : List A) → IsMapOf g f (five (λ x. x)) ys 5
    → ((x : Form) (y : A) (q : F) → Called g f (x, tt) y q → (q ≡ f) × (y ≡ h x)) → ys ≡ five h
five_from_map h (a ∷ b ∷ c ∷ d ∷ e ∷ []) m w =
    let ys = a ∷ b ∷ c ∷ d ∷ e ∷ [] in
    let get = λ (k : ℕ) (lt : k < 5). mapped h w (five (λ x. x)) ys 5 0 k form.Item a m.each (omega arith) lt in
    cc (get 0 (omega arith), get 1 (omega arith), get 2 (omega arith), get 3 (omega arith), get 4 (omega arith))
five_from_map h [] m w = absurd (omega (arith, m.long))
five_from_map h (a ∷ []) m w = absurd (omega (arith, m.long))
five_from_map h (a ∷ b ∷ []) m w = absurd (omega (arith, m.long))
five_from_map h (a ∷ b ∷ c ∷ []) m w = absurd (omega (arith, m.long))
five_from_map h (a ∷ b ∷ c ∷ d ∷ []) m w = absurd (omega (arith, m.long))
five_from_map h (a ∷ b ∷ c ∷ d ∷ e ∷ z ∷ ys) m w = absurd (omega (arith, m.long))
