-- Which placeholder a part begins with, by its number.
-- Assumes nothing.
use mathlib.Core.Path.{◌≡◌, refl, ap}
use mathlib.Core.Bool.{Bool, true, false, not, true≢false}
use Prim.Native.Nat.{ℕ}
use lib.ListN.{length}
use borrow.Author.Tests.{leb-true}
use Rattle.syntax.specs.Accessors.{number_of, some}
use Rattle.syntax.specs.Views.{elems_of}
use Rattle.syntax.specs.declared.parts.Part.{Part}
use Rattle.syntax.proofs.AccessorLaws.{number_is, some_is}
use Rattle.matcher.specs.Matcher.{Matcher, placeholder_of}

-- the number of the first element is the part's
pub number_of_part : (p : Part) → some (elems_of p) ≡ true → number_of (elems_of p) ≡ p.number
number_of_part p h = number_is p.number p.words.now (leb-true 3 (length p.words.now) (rw (some_is p.number p.words.now) at h))

not_false : (b : Bool) → not b ≡ false → b ≡ true
not_false true h = refl
not_false false h = absurd (true≢false h)

pub placeholder_is : (x : Matcher) (p : Part) → not (some (elems_of p)) ≡ false → placeholder_of x (elems_of p) ≡ x.slot_at p.number
placeholder_is x p h = let t = not_false (some (elems_of p)) h in rw t (ap x.slot_at (number_of_part p t))
