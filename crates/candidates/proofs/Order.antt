-- Demand 3, the order of candidates: the same candidates in another order are refused alike, are the same set of pairs, and have the
-- same keys in rising order.
-- Assumes nothing.
use mathlib.Core.Path.{◌≡◌, refl, ap, ◌∙◌}
use mathlib.Core.Bool.{Bool, true, false, not, ◌&&◌, ◌||◌}
use mathlib.Core.List.{List}
use Prim.Native.Nat.{ℕ, suc}
use lib.Dec.{eqb}
use lib.ListN.{length}
use Rattle.words.proofs.TextLaws.{eqb_sym}
use Rattle.sorting.specs.Sorted.{insert, sort}
use Rattle.sorting.proofs.Laws.{insert-insert}
use Rattle.syntax.specs.Trees.{Elems}
use Rattle.candidates.specs.Candidates.{Candidate, has, is_named, any_bad, is_twice, key_of, keys_of, Perm, done, keep, swap, both}

-- two tests before a third change places
or_swap : (a b c : Bool) → (a || (b || c)) ≡ (b || (a || c))
or_swap true true c = refl
or_swap true false c = refl
or_swap false true c = refl
or_swap false false c = refl

pub perm_length : {A : Type 0} {a b : List A} → Perm a b → length a ≡ length b
perm_length done = refl
perm_length (keep p) = ap suc (perm_length p)
perm_length swap = refl
perm_length (both p q) = perm_length p ∙ perm_length q

-- the set of pairs
pub perm_has : {a b : List Candidate} → Perm a b → (n r : ℕ) → has a n r ≡ has b n r
unfolding has
perm_has done n r = refl
perm_has (keep p) n r = rw (perm_has p n r)
perm_has (swap {x = x} {y = y} {a = a}) n r =
    or_swap (eqb x.node n && eqb x.rule r) (eqb y.node n && eqb y.rule r) (has a n r)
perm_has (both p q) n r = perm_has p n r ∙ perm_has q n r

-- 25
pub perm_bad : (t : Elems) (rules : ℕ) {a b : List Candidate} → Perm a b → any_bad t rules a ≡ any_bad t rules b
unfolding any_bad
perm_bad t rules done = refl
perm_bad t rules (keep p) = rw (perm_bad t rules p)
perm_bad t rules (swap {x = x} {y = y} {a = a}) = or_swap (not (is_named t rules x)) (not (is_named t rules y)) (any_bad t rules a)
perm_bad t rules (both p q) = perm_bad t rules p ∙ perm_bad t rules q

-- 26
twice_swap : (s h k t : Bool) → ((s || h) || (k || t)) ≡ ((s || k) || (h || t))
twice_swap true h k t = refl
twice_swap false h k t = or_swap h k t

pub perm_twice : {a b : List Candidate} → Perm a b → is_twice a ≡ is_twice b
unfolding is_twice has
perm_twice done = refl
perm_twice (keep {x = x} p) = rw (perm_has p x.node x.rule, perm_twice p)
perm_twice (swap {x = x} {y = y} {a = a}) =
    rw (eqb_sym y.node x.node, eqb_sym y.rule x.rule)
    (twice_swap (eqb x.node y.node && eqb x.rule y.rule) (has a x.node x.rule) (has a y.node y.rule) (is_twice a))
perm_twice (both p q) = perm_twice p ∙ perm_twice q

-- the keys in rising order
pub perm_keys : {a b : List Candidate} → Perm a b → sort (keys_of a) ≡ sort (keys_of b)
unfolding sort
perm_keys done = refl
perm_keys (keep {x = x} p) = ap (insert (key_of x)) (perm_keys p)
perm_keys (swap {x = x} {y = y} {a = a}) = insert-insert (key_of x) (key_of y) (sort (keys_of a))
perm_keys (both p q) = perm_keys p ∙ perm_keys q
