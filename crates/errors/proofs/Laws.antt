-- Checks in their order, stages in turn, and the lowest of several outcomes.
-- Assumes nothing.
use mathlib.Core.Path.{◌≡◌, refl, sym, ap, ◌∙◌}
use mathlib.Core.Bool.{Bool, true, false, false≢true}
use mathlib.Core.List.{List, [], ◌∷◌, ◌++◌}
use native.Mathlib.Omega.{arith}
use lib.Dec.{leb}
use borrow.Author.Tests.{leb-true, leb-false, le-leb, lt-leb}
use Rattle.std.proofs.Common.{Ok, Err}
use Rattle.errors.specs.declared.Refusal.{Refusal}
use Rattle.errors.specs.Refusals.{Outcome, ok, err, number_of, lowest_of, Check, first_of, in_turn}

-- a refusal is no acceptance
abbrev passes : Outcome → Bool
passes (Ok tt) = true
passes (Err r) = false

pub refused_not : {r : Refusal} → err r ≡ ok → ⊥
refused_not {r} h = false≢true (ap passes h)

first_fails : (c : Check) (cs : List Check) → c.fails ≡ true → first_of (c ∷ cs) ≡ err c.refusal
unfolding first_of
first_fails c cs h = rw h

first_holds : (c : Check) (cs : List Check) → c.fails ≡ false → first_of (c ∷ cs) ≡ first_of cs
unfolding first_of
first_holds c cs h = rw h

-- checks behind others are looked at where these pass
pass_on : (c : Check) (cs more : List Check) → (first_of cs ≡ ok → first_of (cs ++ more) ≡ first_of more) → first_of (c ∷ cs) ≡ ok → (b : Bool) → c.fails ≡ b → first_of (c ∷ cs ++ more) ≡ first_of more
pass_on c cs more on h true b = absurd (refused_not (sym (first_fails c cs b) ∙ h))
pass_on c cs more on h false b = first_holds c (cs ++ more) b ∙ on (sym (first_holds c cs b) ∙ h)

pub first_pass : (cs more : List Check) → first_of cs ≡ ok → first_of (cs ++ more) ≡ first_of more
first_pass [] more h = refl
first_pass (c ∷ cs) more h = pass_on c cs more (first_pass cs more) h c.fails refl

none-accepted : first_of [] ≡ ok
unfolding first_of
none-accepted = refl

stop_on : (c : Check) (cs more : List Check) (r : Refusal) → (first_of cs ≡ err r → first_of (cs ++ more) ≡ err r) → first_of (c ∷ cs) ≡ err r → (b : Bool) → c.fails ≡ b → first_of (c ∷ cs ++ more) ≡ err r
stop_on c cs more r on h true b = first_fails c (cs ++ more) b ∙ sym (first_fails c cs b) ∙ h
stop_on c cs more r on h false b = first_holds c (cs ++ more) b ∙ on (sym (first_holds c cs b) ∙ h)

pub first-stop : (cs more : List Check) (r : Refusal) → first_of cs ≡ err r → first_of (cs ++ more) ≡ err r
first-stop [] more r h = absurd (refused_not (sym h ∙ none-accepted))
first-stop (c ∷ cs) more r h = stop_on c cs more r (first-stop cs more r) h c.fails refl

-- a stage that passes, and one that refuses
pub turn_passes : (a : Outcome) (rest : List Outcome) → a ≡ ok → in_turn (a ∷ rest) ≡ in_turn rest
unfolding in_turn
turn_passes a rest h = rw h

pub turn_refuses : (a : Outcome) (rest : List Outcome) (r : Refusal) → a ≡ err r → in_turn (a ∷ rest) ≡ err r
unfolding in_turn
turn_refuses a rest r h = rw h

pub turn_both : (a : Outcome) (rest : List Outcome) → in_turn (a ∷ rest) ≡ ok → (a ≡ ok) × (in_turn rest ≡ ok)
unfolding in_turn
turn_both (Ok tt) rest h = (refl, h)
turn_both (Err r) rest h = absurd (refused_not h)

pub turn_last : (a : Outcome) → in_turn (a ∷ []) ≡ a
unfolding in_turn
turn_last (Ok tt) = refl
turn_last (Err r) = refl

-- the lowest of several: one behind the others, and none
pub lowest-accepted : (a : Outcome) → lowest_of a ok ≡ a
lowest-accepted (Ok tt) = refl
lowest-accepted (Err r) = refl

lowest-three : (r s t : Refusal) (x y z : Bool) → leb (number_of r) (number_of s) ≡ x → leb (number_of s) (number_of t) ≡ y → leb (number_of r) (number_of t) ≡ z
    → lowest_of (lowest_of (err r) (err s)) (err t) ≡ lowest_of (err r) (lowest_of (err s) (err t))
lowest-three r s t true true true p q o = rw (p, q, p, o)
lowest-three r s t true true false p q o = absurd (false≢true (sym o ∙ le-leb (number_of r) (number_of t) (omega (arith, leb-true (number_of r) (number_of s) p, leb-true (number_of s) (number_of t) q))))
lowest-three r s t true false z p q o = rw (p, q)
lowest-three r s t false true z p q o = rw (p, q, p)
lowest-three r s t false false true p q o = absurd (false≢true (sym (lt-leb (number_of r) (number_of t) (omega (arith, leb-false (number_of r) (number_of s) p, leb-false (number_of s) (number_of t) q))) ∙ o))
lowest-three r s t false false false p q o = rw (p, q, o)

pub lowest_of_three : (a b c : Outcome) → lowest_of (lowest_of a b) c ≡ lowest_of a (lowest_of b c)
lowest_of_three (Ok tt) b c = refl
lowest_of_three (Err r) (Ok tt) c = refl
lowest_of_three (Err r) (Err s) (Ok tt) = lowest-accepted (lowest_of (err r) (err s))
lowest_of_three (Err r) (Err s) (Err t) = lowest-three r s t _ _ _ refl refl refl

-- of two, both pass where the lowest does
both_of : (r s : Refusal) (x : Bool) → leb (number_of r) (number_of s) ≡ x → lowest_of (err r) (err s) ≡ ok → ⊥
both_of r s true e h = refused_not {r = r} (rw e at h)
both_of r s false e h = refused_not {r = s} (rw e at h)

pub both_pass : (a b : Outcome) → lowest_of a b ≡ ok → (a ≡ ok) × (b ≡ ok)
both_pass (Ok tt) b h = (refl, h)
both_pass (Err r) (Ok tt) h = absurd (refused_not h)
both_pass (Err r) (Err s) h = absurd (both_of r s _ refl h)
