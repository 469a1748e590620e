-- How deep siblings are, from the first on.
-- Assumes nothing.
use Rattle.std.proofs.Common.{◌≡◌, refl, sym, Bool, true, false, List, ℕ, ◌+◌, ◌-◌, ◌*◌, ◌≤◌, leb, arith}
use Rattle.std.proofs.lemmas.Bool.{false≢true}
use borrow.Author.Tests.{leb-true, leb-false, le-leb}
use Rattle.syntax.specs.Parts.{span, end_of_first}
use Rattle.syntax.specs.Trees.{Elems, none, token, node, size, deeper, depth, elems}
use Rattle.syntax.specs.Accessors.{children, rest, some, by_itself}
use Rattle.syntax.proofs.ViewLaws.{width_is}

deeper-le : (a b n : ℕ) → a ≤ n → b ≤ n → deeper a b ≤ n
deeper-le a b n h k = by (leb a b) refl
  where
    by : (t : Bool) → leb a b ≡ t → deeper a b ≤ n
    by true e = rw e k
    by false e = rw e h

deeper-gt : (a b n : ℕ) → deeper a b ≤ n → (a ≤ n) × (b ≤ n)
deeper-gt a b n h = by (leb a b) refl
  where
    by : (t : Bool) → leb a b ≡ t → (a ≤ n) × (b ≤ n)
    by true e = let k = rw e at h in (omega (arith, k, leb-true a b e), k)
    by false e = let k = rw e at h in (k, omega (arith, k, leb-false a b e))

-- siblings within n levels: the first one's children are within one less, and the others within n
depth_first : (c : Elems) → some c ≡ true → depth c ≡ deeper (1 + depth (children c)) (depth (rest c))
unfolding depth
depth_first none h = absurd (false≢true h)
depth_first (token i k s e r) h = refl
depth_first (node i k s e cs r) h = refl

depth_gone : (c : Elems) → some c ≡ false → depth c ≡ 0
unfolding depth
depth_gone none h = refl
depth_gone (token i k s e r) h = absurd (false≢true (sym h))
depth_gone (node i k s e cs r) h = absurd (false≢true (sym h))

same_leb : (a b n : ℕ) → (a ≤ n → b ≤ n) → (b ≤ n → a ≤ n) → leb a n ≡ leb b n
same_leb a b n f g = by (leb b n) refl
  where
    by : (t : Bool) → leb b n ≡ t → leb a n ≡ leb b n
    by true e = rw (e, le-leb a n (g (leb-true b n e)))
    by false e = rw e (not_le (leb a n) refl)
      where
        not_le : (u : Bool) → leb a n ≡ u → u ≡ false
        not_le true d = absurd (omega (arith, f (leb-true a n d), leb-false b n e))
        not_le false d = refl

module _ (c : Elems) (n : ℕ) where
  pub shallow_gone : some c ≡ false → leb (depth c) n ≡ true
  shallow_gone h = le-leb (depth c) n (omega (arith, depth_gone c h))

  module _ (h : some c ≡ true) where
    pub shallow_zero : n ≡ 0 → leb (depth c) n ≡ false
    shallow_zero z = by (leb (depth c) n) refl
      where
        by : (t : Bool) → leb (depth c) n ≡ t → leb (depth c) n ≡ false
        by true e =
            let d : deeper (1 + depth (children c)) (depth (rest c)) ≤ n = rw (← depth_first c h) (leb-true (depth c) n e) in
            absurd (omega (arith, (deeper-gt (1 + depth (children c)) (depth (rest c)) n d).0, z))
        by false e = e

    shallow_on : 1 + depth (children c) ≤ n → leb (depth c) n ≡ leb (depth (rest c)) n
    shallow_on k = same_leb (depth c) (depth (rest c)) n
        (λ d. (deeper-gt (1 + depth (children c)) (depth (rest c)) n (rw (← depth_first c h) d)).1)
        (λ d. rw (depth_first c h) (deeper-le (1 + depth (children c)) (depth (rest c)) n k d))

    pub shallow_next : 1 ≤ n → leb (depth (children c)) (n - 1) ≡ true → leb (depth c) n ≡ leb (depth (rest c)) n
    shallow_next k e = shallow_on (omega (arith, k, leb-true (depth (children c)) (n - 1) e))

    pub shallow_deep : 1 ≤ n → leb (depth (children c)) (n - 1) ≡ false → leb (depth c) n ≡ false
    shallow_deep k f = by (leb (depth c) n) refl
      where
        by : (t : Bool) → leb (depth c) n ≡ t → leb (depth c) n ≡ false
        by true e =
            let d : deeper (1 + depth (children c)) (depth (rest c)) ≤ n = rw (← depth_first c h) (leb-true (depth c) n e) in
            absurd (omega (arith, (deeper-gt (1 + depth (children c)) (depth (rest c)) n d).0, leb-false (depth (children c)) (n - 1) f))
        by false e = e

-- no element is deeper than there are elements
depth_few : (c : Elems) → depth c ≤ size c
unfolding depth size
depth_few none = omega arith
depth_few (token i k s e r) = deeper-le 1 (depth r) (1 + size r) (omega arith) (omega (arith, depth_few r))
depth_few (node i k s e cs r) = deeper-le (1 + depth cs) (depth r) (1 + size cs + size r) (omega (arith, depth_few cs)) (omega (arith, depth_few r))

width_first : (c : Elems) → some c ≡ true → size (by_itself c) ≡ 1 + size (children c)
unfolding size
width_first none h = absurd (false≢true h)
width_first (token i k s e r) h = refl
width_first (node i k s e cs r) h = omega arith

-- an element with no more than n elements is not looked into
pub shallow_few : (i : ℕ) (l : List ℕ) (n : ℕ) → some (elems i l) ≡ true → span l ≤ n → leb (depth (elems i l)) n ≡ leb (depth (rest (elems i l))) n
shallow_few i l n h k =
    let c = elems i l in
    let w = width_is i l in
    let f = width_first c h in
    let d = depth_few (children c) in
    let e : end_of_first l ≤ span l * 3 = omega arith in
    shallow_on c n h (omega (arith, w, f, d, e, k))
