-- Laws of record lists that start over: whether one of the pattern's siblings has a placeholder as its name, and whether two parts begin with
-- the same sibling.
-- Assumes nothing.
use mathlib.Core.Path.{◌≡◌, refl}
use mathlib.Core.Bool.{Bool, true, false, not, ◌&&◌, ◌||◌}
use lib.Dec.{eqb}
use Rattle.syntax.specs.Trees.{Elems, none, token, node}
use Rattle.syntax.specs.Accessors.{rest, some}
use Rattle.syntax.specs.Views.{elems_of}
use Rattle.syntax.specs.declared.parts.Part.{Part}
use Rattle.syntax.proofs.AccessorLaws.{no_sibling}
use Rattle.matcher.specs.Matcher.{Matcher, has_placeholder_name}
use Rattle.matcher.proofs.PlaceholderLaws.{number_of_part}
use Rattle.record_fields.specs.Order.{starts_over, is_same}

-- ---- one of the pattern's siblings has a placeholder as its name: the first one, one further on, none where there are no more
module _ (x : Matcher) where
  over_first : (c : Elems) → starts_over x c ≡ (has_placeholder_name x c || starts_over x (rest c))
  unfolding starts_over
  over_first none = refl
  over_first (token i k s e r) = refl
  over_first (node i k s e cs r) = refl

  pub over_here : (c : Elems) → has_placeholder_name x c ≡ true → starts_over x c ≡ true
  over_here c h = rw (over_first c, h)

  pub over_rest : (c : Elems) → has_placeholder_name x c ≡ false → starts_over x c ≡ starts_over x (rest c)
  over_rest c h = rw (over_first c, h)

  pub over_gone : (c : Elems) → some c ≡ false → starts_over x c ≡ false
  unfolding starts_over
  over_gone c h = rw (no_sibling c h)

-- ---- two parts begin with the same sibling where they have the same number and a sibling is there
same_by : (a b : Part) (s t : Bool) → some (elems_of a) ≡ s → some (elems_of b) ≡ t
    → ((not (not s) && not (not t)) && eqb a.number b.number) ≡ is_same (elems_of a) (elems_of b)
same_by a b true true p q = rw (p, q, number_of_part a p, number_of_part b q)
same_by a b true false p q = rw (p, q)
same_by a b false t p q = rw p

pub same_is : (a b : Part) → ((not (not (some (elems_of a))) && not (not (some (elems_of b)))) && eqb a.number b.number) ≡ is_same (elems_of a) (elems_of b)
same_is a b = same_by a b (some (elems_of a)) (some (elems_of b)) refl refl
