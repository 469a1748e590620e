-- Laws of tests over the placeholders of a pattern.
-- Assumes nothing.
use Rattle.std.proofs.Common.{◌≡◌, refl, ℕ, Bool, List, [], ◌∷◌, map, arith}
use Rattle.std.specs.List.{list_any}
use Rattle.std.specs.Prelude.{◌==◌}
use mathlib.Core.Bool.{not}
use lib.Dec.{ltb}
use Rattle.std.proofs.lemmas.Bool.Decides.{nat_tests}

pub any_map : {A B : Type 0} (test : B → Bool) (f : A → B) (xs : List A) → list_any test (map f xs) ≡ list_any (λ x. test (f x)) xs
any_map test f [] = refl
any_map test f (x ∷ xs) = rw (any_map test f xs)

pub not_empty : (n : ℕ) → not (n == 0) ≡ ltb 0 n
not_empty n = grind (arith, nat_tests)
