-- The forms that pass a test.
-- Assumes nothing.
use Rattle.std.proofs.Common.{◌≡◌, refl, Bool, true, false, List, ◌≤◌, length, count_by, ◌&&◌, [], ◌∷◌, arith}
use Rattle.std.specs.List.{list_any, AllByRecursion}
use Rattle.std.proofs.lemmas.List.Sums.{length-filter, count_by-le-length}
use Rattle.fragments.specs.declared.forms.Form.{Form}
use Rattle.fragments.specs.Forms.{five}
use Rattle.fragments.specs.Pairs.{Pair}
use Rattle.rules.specs.Forms.{is_rule, is_path_rule, has_path_rule, is_left, passing, flag}

pub length_passing : (t : Form → Bool) (fs : List Form) → length (passing t fs) ≡ count_by t fs
unfolding passing
length_passing t fs = length-filter t fs

pub few_passing : (t : Form → Bool) (fs : List Form) → length (passing t fs) ≤ length fs
few_passing t fs = omega (arith, length_passing t fs, count_by-le-length t fs)

-- a test of the five by their flags
pub passing_five : (t : Form → Bool) → passing (flag (five t)) (five (λ f. f)) ≡ passing t (five (λ f. f))
unfolding passing
passing_five t = refl

-- the rules left: those with a path where there is one, else all
pub left_paths : (p : Pair) → has_path_rule p ≡ true → five (is_left p) ≡ five (is_path_rule p)
left_paths p h = rw h

pub left_rules : (p : Pair) → has_path_rule p ≡ false → five (is_left p) ≡ five (is_rule p)
left_rules p h = rw h

-- each of the forms that pass holds the test, and one of them holds another where one of all holds both
hold_cons : (t : Form → Bool) (f : Form) (fs : List Form) → AllByRecursion (λ g. t g ≡ true) (passing t fs) → (b : Bool) → t f ≡ b → AllByRecursion (λ g. t g ≡ true) (passing t (f ∷ fs))
unfolding passing
hold_cons t f fs h true e = rw e (e, h)
hold_cons t f fs h false e = rw e h

pub passing_hold : (t : Form → Bool) (fs : List Form) → AllByRecursion (λ f. t f ≡ true) (passing t fs)
unfolding passing
passing_hold t [] = tt
passing_hold t (f ∷ fs) = hold_cons t f fs (passing_hold t fs) (t f) refl

any_cons : (t u : Form → Bool) (f : Form) (fs : List Form) → list_any u (passing t fs) ≡ list_any (λ g. t g && u g) fs → (b : Bool) → t f ≡ b → list_any u (passing t (f ∷ fs)) ≡ list_any (λ g. t g && u g) (f ∷ fs)
unfolding passing
any_cons t u f fs h true e = rw (e, h)
any_cons t u f fs h false e = rw (e, h)

pub any_passing : (t u : Form → Bool) (fs : List Form) → list_any u (passing t fs) ≡ list_any (λ g. t g && u g) fs
unfolding passing
any_passing t u [] = refl
any_passing t u (f ∷ fs) = any_cons t u f fs (any_passing t u fs) (t f) refl
