-- Laws of a list that is filled from its front, with an element behind it.
-- Assumes nothing.
use Rattle.std.proofs.Common.{◌≡◌, refl, sym, ap, ◌∙◌, ℕ, zero, suc, ◌+◌, ◌-◌, ◌≤◌, ◌<◌, arith, List, [], ◌∷◌, ◌++◌, map, length, length-append, length-take-le, take, drop, take_at, drop_at, replicate, append_assoc, append-nil, get_or, take-suc, slice_set, add-one}
use Rattle.std.proofs.lemmas.List.{map-append}
use lib.ListN.{length-map}
use lib.Seq.{set_at}
use Rattle.parsing.specs.declared.patterns.Placeholder.{Placeholder}
use Rattle.parsing.specs.Reading.{Var}
use Rattle.parsing.specs.Patterns.{var_of, vars_at, all_nots}
use Rattle.ssr.specs.Lists.{padded_to, name_of, no_name}

drop_padding : {A : Type 0} (n k : ℕ) (z : A) → drop k (replicate n z) ≡ replicate (n - k) z
drop_padding zero zero z = refl
drop_padding zero (suc k) z = rw (none k)
  where
    none : (k : ℕ) → 0 - suc k ≡ 0
    none k = omega arith
drop_padding (suc n) zero z = ap (λ m. replicate m z) (all n)
  where
    all : (n : ℕ) → suc n ≡ suc n - 0
    all n = omega arith
drop_padding (suc n) (suc k) z = drop_padding n k z ∙ ap (λ m. replicate m z) (one n k)
  where
    one : (n k : ℕ) → n - k ≡ suc n - suc k
    one n k = omega arith

-- more elements behind those so far
pub filled_on : {A : Type 0} (n : ℕ) (z : A) (xs ys : List A) → take (length xs) (padded_to n z xs) ++ (ys ++ drop (length ys) (drop (length xs) (padded_to n z xs))) ≡ padded_to n z (xs ++ ys)
filled_on n z xs ys =
    rw (
      take_at xs (replicate (n - length xs) z) (length xs) refl,
      drop_at xs (replicate (n - length xs) z) (length xs) refl,
      drop_padding (n - length xs) (length ys) z,
      ← append_assoc xs ys (replicate (n - length xs - length ys) z),
      length-append xs ys,
      less,
    )
  where
    less : n - length xs - length ys ≡ n - (length xs + length ys)
    less = omega arith

-- the constraints of the placeholders before those left
pub record SoFar (vs left : List Var) (nots : List ℕ) (count : ℕ) : Type 0 where
  pub done : List ℕ
  pub padded : nots ≡ padded_to 50 0 done
  pub counted : count ≡ length done
  pub in_turn : done ++ all_nots left ≡ all_nots vs

pub so_far_none : (vs : List Var) → SoFar vs vs (replicate 50 0) 0
so_far_none vs = record { done = []; padded = refl; counted = refl; in_turn = refl }

module _ (vs left : List Var) (v : Var) (nots : List ℕ) (count : ℕ) (s : SoFar vs (v ∷ left) nots count) where
  pub so_far_fits : length (all_nots vs) ≤ 50 → count + length v.nots ≤ 50
  unfolding all_nots
  so_far_fits h = omega (arith, s.counted, ap length s.in_turn, length-append s.done (v.nots ++ all_nots left), length-append v.nots (all_nots left))

  pub so_far_more : (e : ℕ) → e ≡ length v.nots → SoFar vs left (take count nots ++ (v.nots ++ drop e (drop count nots))) (count + e)
  unfolding all_nots
  so_far_more e h = record {
    done = s.done ++ v.nots;
    padded = rw (h, s.padded, s.counted) (filled_on 50 0 s.done v.nots);
    counted = omega (arith, h, s.counted, length-append s.done v.nots);
    in_turn = append_assoc s.done v.nots (all_nots left) ∙ s.in_turn;
  }

pub so_far_end : (vs : List Var) (nots : List ℕ) (count : ℕ) → SoFar vs [] nots count → (nots ≡ padded_to 50 0 (all_nots vs)) × (count ≡ length (all_nots vs))
unfolding all_nots
so_far_end vs nots count s =
    let e : s.done ≡ all_nots vs = sym (append-nil s.done) ∙ s.in_turn in
    (s.padded ∙ ap (padded_to 50 0) e, s.counted ∙ ap length e)

-- one name more
pub named_on : (ps : List Placeholder) (i : ℕ) (p : Placeholder) → i < length ps → length ps ≤ 8 → p ≡ get_or ps i p
    → slice_set (padded_to 8 no_name (map name_of (vars_at (take i ps)))) i (name_of (var_of p)) ≡ padded_to 8 no_name (map name_of (vars_at (take (i + 1) ps)))
named_on ps i p h k e =
    let xs = map name_of (vars_at (take i ps)) in
    let l : length xs ≡ i = length-map (vars_at (take i ps)) name_of ∙ length-map (take i ps) var_of ∙ length-take-le i ps (omega arith) in
    let m : 8 - length xs ≡ suc (7 - i) = omega (arith, l) in
    let ys : map name_of (vars_at (take (i + 1) ps)) ≡ xs ++ (name_of (var_of p) ∷ []) =
    rw (add-one, take-suc ps i p h, map-append var_of, map-append name_of) (ap (λ q. xs ++ (name_of (var_of q) ∷ [])) (sym e)) in
    let n : 8 - length (xs ++ (name_of (var_of p) ∷ [])) ≡ 7 - i = omega (arith, l, length-append xs (name_of (var_of p) ∷ [])) in
    rw (ys, m, n, append_assoc xs (name_of (var_of p) ∷ []) (replicate (7 - i) no_name)) (set_at xs no_name (replicate (7 - i) no_name) (name_of (var_of p)) i l)
