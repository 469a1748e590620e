-- What nesting uses of a well-formed tree: which elements are on the line from the root to another, and where unrelated ones stand.
-- Assumes nothing.
use Prim.Native.Nat.{ℕ, ◌+◌, ◌≤◌, ◌<◌}
use mathlib.Core.Path.{◌≡◌, refl, sym, ap, subst, ◌∙◌}
use mathlib.Core.Logic.{inr}
use mathlib.Core.Bool.{Bool, true, false, cond, ◌&&◌, ◌||◌, false≢true}
use mathlib.Core.List.{List, [], ◌∷◌}
use native.Mathlib.Omega.{arith}
use lib.ListN.{length}
use lib.Dec.{eqb, leb, ltb}
use borrow.Author.Tests.{eqb-true, eq-eqb, ne_eqb, leb-true, leb-false, le-leb, lt-leb, ltb-true, ltb-false, lt-ltb, le-ltb}
use Rattle.words.proofs.TestLaws.{low_or, same_or, never}
use Rattle.syntax.specs.Trees.{Elems, none, token, node, size, Numbered, deeper, depth, tree, tiles, formed}
use Rattle.syntax.specs.Accessors.{range_of, some, element_at, or_else, by_itself, below, ancestors, depth_of}
use Rattle.syntax.proofs.Words.{token_good, node_good, tiles_order}
use Rattle.syntax.specs.Checks.{is_well_formed, WellFormed}
use Rattle.syntax.proofs.FormedLaws.{formed_is}
use Rattle.syntax.proofs.Places.{Away, away}
use Rattle.syntax.proofs.Exactly.{tree_built}
use Rattle.nester.specs.Nest.{among, over, start_at, end_at}

-- how many elements the element of a number has, itself included
abbrev pub span_at : Elems → ℕ → ℕ
span_at t n = size (by_itself (element_at n t))

-- where a number is: the first element's, one below it or one behind it
in_zone : {P : Type 0} (b n m : ℕ) → b ≤ n → (b ≡ n → P) → (b + 1 ≤ n → n < b + 1 + m → P) → (b + (1 + m) ≤ n → P) → P
in_zone b n m h first inner after = same_or b n first (λ ne. low_or n (b + (1 + m)) (λ near. inner (omega (arith, ne)) (omega arith)) after)

or_else_lem : (c d : Elems) → some c ≡ true → or_else c d ≡ c
unfolding or_else
or_else_lem none d h = absurd (false≢true h)
or_else_lem (token i k s e r) d h = refl
or_else_lem (node i k s e cs r) d h = refl

no_element : (c : Elems) (n : ℕ) → Away n c → element_at n c ≡ none
unfolding element_at or_else
no_element none n a = refl
no_element (token i k s e r) n a = rw (ne_eqb i n a.0) (no_element r n a.1)
no_element (node i k s e cs r) n a = rw (ne_eqb i n a.0, no_element cs n a.1) (no_element r n a.2)

no_ancestors : (c : Elems) (n : ℕ) → Away n c → ancestors n c ≡ []
unfolding ancestors
no_ancestors none n a = refl
no_ancestors (token i k s e r) n a = rw (ne_eqb i n a.0) (no_ancestors r n a.1)
no_ancestors (node i k s e cs r) n a = rw (ne_eqb i n a.0, no_ancestors cs n a.1) (no_ancestors r n a.2)

below-some : (i : ℕ) (l other : List ℕ) → 0 < length l → below i l other ≡ i ∷ l
below-some i [] other h = absurd (omega arith)
below-some i (x ∷ l) other h = refl

among_first : (b : ℕ) (l : List ℕ) → among b (b ∷ l) ≡ true
among_first b l = rw (eq-eqb b b refl)

among-other : (i b : ℕ) (l : List ℕ) → (b ≡ i → ⊥) → among i (b ∷ l) ≡ among i l
among-other i b l h = rw (ne_eqb b i h)

-- an element of a sequence numbered from b is there, on its own line
record There (c : Elems) (n : ℕ) : Type 0 where
  is : some (element_at n c) ≡ true
  up : 0 < length (ancestors n c)
  self : over c n n ≡ true

-- a sequence numbered from b that has a first element, its children and the rest
record Cut (b : ℕ) (c cs r : Elems) : Type 0 where
  there : some c ≡ true
  count : size c ≡ 1 + size cs + size r
  own : size (by_itself c) ≡ 1 + size cs
  children : Numbered (b + 1) cs
  rest : Numbered (b + (1 + size cs)) r
  first_at : element_at b c ≡ c
  first_up : ancestors b c ≡ b ∷ []
  below_at : (n : ℕ) → b + 1 ≤ n → n < b + 1 + size cs → element_at n c ≡ element_at n cs
  below_up : (n : ℕ) → b + 1 ≤ n → n < b + 1 + size cs → ancestors n c ≡ b ∷ ancestors n cs
  behind_at : (n : ℕ) → b + (1 + size cs) ≤ n → element_at n c ≡ element_at n r
  behind_up : (n : ℕ) → b + (1 + size cs) ≤ n → ancestors n c ≡ ancestors n r

cut_token : (b j k s e : ℕ) (r : Elems) → Numbered b (token j k s e r) → Cut b (token j k s e r) none r
unfolding size element_at ancestors
cut_token b j k s e r w = record {
  there = refl;
  count = refl;
  own = refl;
  children = tt;
  rest = w.1;
  first_at = rw (eq-eqb j b w.0);
  first_up = rw (eq-eqb j b w.0, w.0);
  below_at = λ n h l. absurd (omega arith);
  below_up = λ n h l. absurd (omega arith);
  behind_at = λ n h. rw (ne_eqb j n (λ z. omega (arith, w.0)));
  behind_up = λ n h. rw (ne_eqb j n (λ z. omega (arith, w.0)));
}

cut_node : (b j k s e : ℕ) (cs r : Elems) → Numbered b (node j k s e cs r) → ((n : ℕ) → b + 1 ≤ n → n < b + 1 + size cs → There cs n) → Cut b (node j k s e cs r) cs r
unfolding size element_at ancestors or_else
cut_node b j k s e cs r w inner = record {
  there = refl;
  count = refl;
  own = omega arith;
  children = w.1;
  rest = w.2;
  first_at = rw (eq-eqb j b w.0);
  first_up = rw (eq-eqb j b w.0, w.0);
  below_at = λ n h l. rw (ne_eqb j n (λ z. omega (arith, w.0)), or_else_lem (element_at n cs) (element_at n r) (inner n h l).is);
  below_up = λ n h l. rw (ne_eqb j n (λ z. omega (arith, w.0)), below-some j (ancestors n cs) (ancestors n r) (inner n h l).up, w.0);
  behind_at = λ n h. rw (ne_eqb j n (λ z. omega (arith, w.0)), no_element cs n (away cs (b + 1) n w.1 (inr (omega arith))));
  behind_up = λ n h. rw (ne_eqb j n (λ z. omega (arith, w.0)), no_ancestors cs n (away cs (b + 1) n w.1 (inr (omega arith))));
}

there_in : (b n : ℕ) (c cs r : Elems) → Cut b c cs r → b ≤ n → (b + 1 ≤ n → n < b + 1 + size cs → There cs n) → (b + (1 + size cs) ≤ n → There r n) → There c n
there_in b n c cs r k h inner after =
    in_zone b n (size cs) h (λ q. rw (← q) (record { is = rw k.first_at k.there; up = rw k.first_up (omega arith); self = rw k.first_up (among_first b []) }))
    (λ l m. let x = inner l m in record { is = rw (k.below_at n l m) x.is; up = rw (k.below_up n l m) (omega arith); self = rw (k.below_up n l m) (among-other n b (ancestors n cs) (λ z. omega arith) ∙ x.self) })
    (λ l. let x = after l in record { is = rw (k.behind_at n l) x.is; up = rw (k.behind_up n l) x.up; self = rw (k.behind_up n l) x.self })

there : (c : Elems) (b n : ℕ) → Numbered b c → b ≤ n → n < b + size c → There c n
unfolding size
there none b n w h l = absurd (omega arith)
there (token j k s e r) b n w h l =
    there_in b n (token j k s e r) none r (cut_token b j k s e r w) h (λ x y. absurd (omega arith)) (λ x. there r (b + 1) n w.1 x (omega arith))
there (node j k s e cs r) b n w h l =
    there_in b n (node j k s e cs r) cs r (cut_node b j k s e cs r w (λ m x y. there cs (b + 1) m w.1 x y)) h
    (λ x y. there cs (b + 1) n w.1 x y) (λ x. there r (b + (1 + size cs)) n w.2 x (omega arith))

cut : (b j k s e : ℕ) (cs r : Elems) → Numbered b (node j k s e cs r) → Cut b (node j k s e cs r) cs r
cut b j k s e cs r w = cut_node b j k s e cs r w (λ n x y. there cs (b + 1) n w.1 x y)

-- an element of a sequence that stands from byte f to byte t and is numbered from b
pub record Fits (b f t : ℕ) (c : Elems) (n : ℕ) : Type 0 where
  pub own : 0 < span_at c n
  pub whole : n + span_at c n ≤ b + size c
  pub from : f ≤ start_at c n
  pub ordered : start_at c n ≤ end_at c n
  pub to : end_at c n ≤ t
  pub deep : 0 < depth_of n c
  pub shallow : depth_of n c ≤ depth c

-- the first element's range, and where those below it and behind it stand
record Stretch (f t : ℕ) (c cs r : Elems) : Type 0 where
  start : (range_of c).start ≡ f
  order : (range_of c).start ≤ (range_of c).end
  end : (range_of c).end ≤ t
  deepest : (1 + depth cs ≤ depth c) × (depth r ≤ depth c)

deeper-both : (a b : ℕ) → (a ≤ deeper a b) × (b ≤ deeper a b)
deeper-both a b = go (leb a b) refl
  where
    go : (x : Bool) → leb a b ≡ x → (a ≤ cond x b a) × (b ≤ cond x b a)
    go true e = (leb-true a b e, omega arith)
    go false e = let z = leb-false a b e in (omega arith, omega arith)

stretch_token : (f t j k s e : ℕ) (r : Elems) → tiles f t (token j k s e r) ≡ true → formed tiles (token j k s e r) ≡ true → Stretch f t (token j k s e r) none r
unfolding depth
stretch_token f t j k s e r w g =
    let h = token_good j k s e f t r w g in
    record { start = h.start; order = omega (arith, h.full); end = tiles_order r e t h.inside h.good; deepest = deeper-both 1 (depth r) }

stretch_node : (f t j k s e : ℕ) (cs r : Elems) → tiles f t (node j k s e cs r) ≡ true → formed tiles (node j k s e cs r) ≡ true → Stretch f t (node j k s e cs r) cs r
unfolding depth
stretch_node f t j k s e cs r w g =
    let h = node_good j k s e f t cs r w g in
    record { start = h.start; order = h.order; end = tiles_order r e t h.inside h.good; deepest = deeper-both (1 + depth cs) (depth r) }

same_start : {x y : Elems} → x ≡ y → (range_of x).start ≡ (range_of y).start
same_start q = ap (λ (x : Elems). (range_of x).start) q

same_end : {x y : Elems} → x ≡ y → (range_of x).end ≡ (range_of y).end
same_end q = ap (λ (x : Elems). (range_of x).end) q

same_span : {x y : Elems} → x ≡ y → size (by_itself x) ≡ size (by_itself y)
same_span q = ap (λ (x : Elems). size (by_itself x)) q

fits_in : (b f t n : ℕ) (c cs r : Elems) → Cut b c cs r → Stretch f t c cs r → b ≤ n
    → (b + 1 ≤ n → n < b + 1 + size cs → Fits (b + 1) (range_of c).start (range_of c).end cs n) → (b + (1 + size cs) ≤ n → Fits (b + (1 + size cs)) (range_of c).end t r n) → Fits b f t c n
fits_in b f t n c cs r k s h inner after =
    in_zone b n (size cs) h
    (λ q. let z = same_start k.first_at in let y = same_end k.first_at in rw (← q) (record {
      own = rw k.first_at (omega (arith, k.own));
      whole = rw k.first_at (omega (arith, k.own, k.count));
      from = omega (arith, s.start);
      ordered = omega (arith, s.order);
      to = omega (arith, s.end);
      deep = rw k.first_up (omega arith);
      shallow = rw k.first_up (omega (arith, s.deepest.0));
    }))
    (λ l m. let x = inner l m in let z = same_start (k.below_at n l m) in let y = same_end (k.below_at n l m) in record {
      own = rw (k.below_at n l m) x.own;
      whole = rw (k.below_at n l m) (omega (arith, x.whole, k.count));
      from = omega (arith, x.from, s.start);
      ordered = omega (arith, x.ordered);
      to = omega (arith, x.to, s.end);
      deep = rw (k.below_up n l m) (omega arith);
      shallow = rw (k.below_up n l m) (omega (arith, x.shallow, s.deepest.0));
    })
    (λ l. let x = after l in let z = same_start (k.behind_at n l) in let y = same_end (k.behind_at n l) in record {
      own = rw (k.behind_at n l) x.own;
      whole = rw (k.behind_at n l) (omega (arith, x.whole, k.count));
      from = omega (arith, x.from, s.start, s.order);
      ordered = omega (arith, x.ordered);
      to = omega (arith, x.to);
      deep = rw (k.behind_up n l) x.deep;
      shallow = rw (k.behind_up n l) (omega (arith, x.shallow, s.deepest.1));
    })

pub fits : (c : Elems) (b f t n : ℕ) → Numbered b c → tiles f t c ≡ true → formed tiles c ≡ true → b ≤ n → n < b + size c → Fits b f t c n
unfolding size
fits none b f t n w i g h l = absurd (omega arith)
fits (token j k s e r) b f t n w i g h l =
    let o = token_good j k s e f t r i g in
    fits_in b f t n (token j k s e r) none r (cut_token b j k s e r w) (stretch_token f t j k s e r i g) h (λ x y. absurd (omega arith))
    (λ x. fits r (b + 1) e t n w.1 o.inside o.good x (omega arith))
fits (node j k s e cs r) b f t n w i g h l =
    let o = node_good j k s e f t cs r i g in
    fits_in b f t n (node j k s e cs r) cs r (cut b j k s e cs r w) (stretch_node f t j k s e cs r i g) h
    (λ x y. fits cs (b + 1) s e n w.1 o.below o.children x y)
    (λ x. fits r (b + (1 + size cs)) e t n w.2 o.inside o.good x (omega arith))

-- an element's line has no number before the sequence's, and none behind the element's
among_one : (i b : ℕ) → among i (b ∷ []) ≡ true → b ≡ i
among_one i b h = go (eqb b i) refl h
  where
    go : (x : Bool) → eqb b i ≡ x → (x || false) ≡ true → b ≡ i
    go true e q = eqb-true b i e
    go false e q = absurd (false≢true q)

among_next : {P : Type 0} (i b : ℕ) (l : List ℕ) → among i (b ∷ l) ≡ true → (b ≡ i → P) → (among i l ≡ true → P) → P
among_next {P} i b l h first next = go (eqb b i) refl h
  where
    go : (x : Bool) → eqb b i ≡ x → (x || among i l) ≡ true → P
    go true e q = first (eqb-true b i e)
    go false e q = next q

line_in : (b n i : ℕ) (c cs r : Elems) → Cut b c cs r → b ≤ n → (b + 1 ≤ n → n < b + 1 + size cs → over cs i n ≡ true → (b + 1 ≤ i) × (i ≤ n))
    → (b + (1 + size cs) ≤ n → over r i n ≡ true → (b + (1 + size cs) ≤ i) × (i ≤ n)) → over c i n ≡ true → (b ≤ i) × (i ≤ n)
line_in b n i c cs r k h inner after a =
    in_zone b n (size cs) h (λ q. let z : b ≡ i = among_one i b (rw (← q, k.first_up) at a) in (omega arith, omega arith))
    (λ l m. among_next i b (ancestors n cs) (rw (k.below_up n l m) at a) (λ q. (omega arith, omega arith)) (λ q. let x = inner l m q in (omega arith, omega arith)))
    (λ l. let x = after l (rw (k.behind_up n l) at a) in (omega arith, omega arith))

line : (c : Elems) (b n i : ℕ) → Numbered b c → b ≤ n → n < b + size c → over c i n ≡ true → (b ≤ i) × (i ≤ n)
unfolding size
line none b n i w h l a = absurd (omega arith)
line (token j k s e r) b n i w h l a =
    line_in b n i (token j k s e r) none r (cut_token b j k s e r w) h (λ x y. absurd (omega arith)) (λ x. line r (b + 1) n i w.1 x (omega arith)) a
line (node j k s e cs r) b n i w h l a =
    line_in b n i (node j k s e cs r) cs r (cut b j k s e cs r w) h (λ x y. line cs (b + 1) n i w.1 x y)
    (λ x. line r (b + (1 + size cs)) n i w.2 x (omega arith)) a

-- two elements, the first with the lower number: the second is below the first and deeper, or starts where it ends or later
pub record Two (c : Elems) (i j : ℕ) : Type 0 where
  pub over : over c i j ≡ ltb j (i + span_at c i)
  pub deeper : j < i + span_at c i → depth_of i c < depth_of j c
  pub whole : j < i + span_at c i → j + span_at c j ≤ i + span_at c i
  pub after : i + span_at c i ≤ j → end_at c i ≤ start_at c j

-- the first of two in another sequence, the second behind it
apart_two : (b i j : ℕ) (c : Elems) → i + span_at c i ≤ j → over c i j ≡ false → end_at c i ≤ start_at c j → Two c i j
apart_two b i j c h o a = record { over = o ∙ sym (le-ltb j (i + span_at c i) h); deeper = λ l. absurd (omega arith); whole = λ l. absurd (omega arith); after = λ l. a }

two_in : (b f t i j : ℕ) (c cs r : Elems) → Cut b c cs r → Stretch f t c cs r → b ≤ i → i < j
    → ((n : ℕ) → b + 1 ≤ n → n < b + 1 + size cs → Fits (b + 1) (range_of c).start (range_of c).end cs n) → ((n : ℕ) → b + (1 + size cs) ≤ n → n ≤ j → Fits (b + (1 + size cs)) (range_of c).end t r n)
    → (b + (1 + size cs) ≤ j → over r i j ≡ true → b + (1 + size cs) ≤ i)
    → (b + 1 ≤ i → j < b + 1 + size cs → Two cs i j) → (b + (1 + size cs) ≤ i → Two r i j) → Two c i j
two_in b f t i j c cs r k s h ij fitsc fitsr liner inner after =
    in_zone b i (size cs) h
    (λ q. low_or j (b + (1 + size cs))
    (λ near.
    let l : b + 1 ≤ j = omega arith in
    let m : j < b + 1 + size cs = omega arith in
    let sp : span_at c b ≡ 1 + size cs = same_span k.first_at ∙ k.own in
    rw (← q) (record {
      over = rw (k.below_up j l m) (among_first b (ancestors j cs) ∙ sym (lt-ltb j (b + span_at c b) (omega arith)));
      deeper = λ u. rw (k.below_up j l m, k.first_up) (omega (arith, (fitsc j l m).deep));
      whole = λ u. omega (arith, same_span (k.below_at j l m), (fitsc j l m).whole);
      after = λ u. absurd (omega arith);
    }))
    (λ far.
    let sp : span_at c b ≡ 1 + size cs = same_span k.first_at ∙ k.own in
    rw (← q) (apart_two b b j c (omega arith)
    (rw (k.behind_up j far) (never (over r b j) (λ o. omega (arith, liner far (rw q at o)))))
    (omega (arith, same_end k.first_at, same_start (k.behind_at j far), (fitsr j far (omega arith)).from)))))
    (λ l m. low_or j (b + (1 + size cs))
    (λ near.
    let l2 : b + 1 ≤ j = omega arith in
    let m2 : j < b + 1 + size cs = omega arith in
    let x = inner l m2 in
    let sp : span_at c i ≡ span_at cs i = same_span (k.below_at i l m) in
    record {
      over = rw (k.below_up j l2 m2, sp) (among-other i b (ancestors j cs) (λ z. omega arith) ∙ x.over);
      deeper = λ u. rw (k.below_up j l2 m2, k.below_up i l m) (omega (arith, x.deeper (omega arith)));
      whole = λ u. omega (arith, same_span (k.below_at j l2 m2), x.whole (omega arith));
      after = λ u. omega (arith, same_end (k.below_at i l m), same_start (k.below_at j l2 m2), x.after (omega arith));
    })
    (λ far.
    let sp : span_at c i ≡ span_at cs i = same_span (k.below_at i l m) in
    let x = fitsc i l m in
    apart_two b i j c (omega (arith, x.whole))
    (rw (k.behind_up j far) (never (over r i j) (λ o. omega (arith, liner far o))))
    (omega (arith, same_end (k.below_at i l m), same_start (k.behind_at j far), x.to, (fitsr j far (omega arith)).from))))
    (λ l.
    let far : b + (1 + size cs) ≤ j = omega arith in
    let x = after l in
    let sp : span_at c i ≡ span_at r i = same_span (k.behind_at i l) in
    record {
      over = rw (k.behind_up j far, sp) x.over;
      deeper = λ u. rw (k.behind_up j far, k.behind_up i l) (x.deeper (omega arith));
      whole = λ u. omega (arith, same_span (k.behind_at j far), x.whole (omega arith));
      after = λ u. omega (arith, same_end (k.behind_at i l), same_start (k.behind_at j far), x.after (omega arith));
    })

pub two : (c : Elems) (b f t i j : ℕ) → Numbered b c → tiles f t c ≡ true → formed tiles c ≡ true → b ≤ i → i < j → j < b + size c → Two c i j
unfolding size
two none b f t i j w z g h l m = absurd (omega arith)
two (token d k s e r) b f t i j w z g h l m =
    let o = token_good d k s e f t r z g in
    two_in b f t i j (token d k s e r) none r (cut_token b d k s e r w) (stretch_token f t d k s e r z g) h l
    (λ n x y. absurd (omega arith)) (λ n x y. fits r (b + 1) e t n w.1 o.inside o.good x (omega arith))
    (λ x a. (line r (b + 1) j i w.1 x (omega arith) a).0)
    (λ x y. absurd (omega arith)) (λ x. two r (b + 1) e t i j w.1 o.inside o.good x l (omega arith))
two (node d k s e cs r) b f t i j w z g h l m =
    let o = node_good d k s e f t cs r z g in
    two_in b f t i j (node d k s e cs r) cs r (cut b d k s e cs r w) (stretch_node f t d k s e cs r z g) h l
    (λ n x y. fits cs (b + 1) s e n w.1 o.below o.children x y) (λ n x y. fits r (b + (1 + size cs)) e t n w.2 o.inside o.good x (omega arith))
    (λ x a. (line r (b + (1 + size cs)) j i w.2 x (omega arith) a).0)
    (λ x y. two cs (b + 1) s e i j w.1 o.below o.children x l y) (λ x. two r (b + (1 + size cs)) e t i j w.2 o.inside o.good x l (omega arith))

-- THE LAWS that nesting uses of a tree over a text of n bytes
pub record Laws (t : Elems) (n : ℕ) : Type 0 where
  -- an element is on its own line; the others there have lower numbers and are less deep, and each is on the line of those behind it there
  pub self : (i : ℕ) → i < size t → over t i i ≡ true
  pub low : (i j : ℕ) → j < size t → over t i j ≡ true → i ≤ j
  pub deeper : (i j : ℕ) → j < size t → i < j → over t i j ≡ true → depth_of i t < depth_of j t
  pub through : (i j k : ℕ) → j < size t → k < size t → over t i j ≡ true → over t j k ≡ true → over t i k ≡ true
  pub line : (i j k : ℕ) → k < size t → i ≤ j → over t i k ≡ true → over t j k ≡ true → over t i j ≡ true
  -- they are those whose elements include it
  pub spans : (i j : ℕ) → i < size t → j < size t → over t i j ≡ (leb i j && ltb j (i + span_at t i))
  pub shallow : (i : ℕ) → i < size t → depth_of i t ≤ depth t
  pub ordered : (i : ℕ) → i < size t → start_at t i ≤ end_at t i
  pub in_text : (i : ℕ) → i < size t → end_at t i ≤ n
  -- an element behind another and not below it starts where that one ends or later
  pub after : (i j : ℕ) → j < size t → i < j → over t i j ≡ false → end_at t i ≤ start_at t j

module _ (t : Elems) (n : ℕ) (w : Numbered 0 t) (z : tiles 0 n t ≡ true) (g : formed tiles t ≡ true) where
  one : (i : ℕ) → i < size t → Fits 0 0 n t i
  one i h = fits t 0 0 n i w z g (omega arith) (omega arith)

  pair : (i j : ℕ) → i < j → j < size t → Two t i j
  pair i j l h = two t 0 0 n i j w z g (omega arith) l (omega arith)

  low : (i j : ℕ) → j < size t → over t i j ≡ true → i ≤ j
  low i j h o = (line t 0 j i w (omega arith) (omega arith) o).1

  self : (i : ℕ) → i < size t → over t i i ≡ true
  self i h = (there t 0 i w (omega arith) (omega arith)).self

  spans : (i j : ℕ) → i < size t → j < size t → over t i j ≡ (leb i j && ltb j (i + span_at t i))
  spans i j k h =
      in_order i j
      (λ q. let x = (one i k).own in rw (le-leb i j (omega arith), lt-ltb j (i + span_at t i) (omega arith)) (subst (λ (m : ℕ). over t i m ≡ true) q (self i k)))
      (λ l. rw (le-leb i j (omega arith)) (pair i j l h).over)
      (λ l. rw (lt-leb i j l) (never (over t i j) (λ o. omega (arith, low i j h o))))
    where
      in_order : {P : Type 0} (i j : ℕ) → (i ≡ j → P) → (i < j → P) → (j < i → P) → P
      in_order i j same less more = same_or i j same (λ ne. low_or i j less (λ l. more (omega (arith, ne))))

  within : (i j : ℕ) → j < size t → i < j → over t i j ≡ true → j < i + span_at t i
  within i j h l o = ltb-true j (i + span_at t i) (sym (pair i j l h).over ∙ o)

  pub laws : Laws t n
  laws = record {
    self = self;
    low = low;
    deeper = λ i j h l o. (pair i j l h).deeper (within i j h l o);
    through = λ i j k hj h o p.
        same_or i j (λ q. rw q p) (λ ni. same_or j k (λ q. rw (← q) o) (λ nj.
        let u : i < j = omega (arith, ni, low i j hj o) in
        let v : j < k = omega (arith, nj, low j k h p) in
        (pair i k (omega arith) h).over ∙ lt-ltb k (i + span_at t i) (omega (arith, within j k h v p, (pair i j u hj).whole (within i j hj u o)))));
    line = λ i j k h l o p.
        same_or i j (λ q. rw q (self j (omega (arith, low j k h p)))) (λ ne.
        let u : i < j = omega (arith, ne) in
        let v : j ≤ k = low j k h p in
        (pair i j u (omega arith)).over ∙ lt-ltb j (i + span_at t i) (omega (arith, within i k h (omega arith) o)));
    spans = spans;
    shallow = λ i h. (one i h).shallow;
    ordered = λ i h. (one i h).ordered;
    in_text = λ i h. (one i h).to;
    after = λ i j h l o. (pair i j l h).after (ltb-false j (i + span_at t i) (sym (pair i j l h).over ∙ o));
  }

-- an accepted tree keeps them
pub tree_laws : (l : List ℕ) (w : WellFormed l) → Laws (tree l) w.bytes
tree_laws l w = let b = tree_built w.bytes l w.small w.few w.is in laws (tree l) w.bytes b.numbered b.inside b.good

-- so an element is on another's line if that one is among the first so many from it, which are it with all below it
pub over_span : (l : List ℕ) → is_well_formed l ≡ true → (i j n : ℕ) (c : Elems) → i < size (tree l) → j < size (tree l) → by_itself c ≡ by_itself (element_at i (tree l)) → n ≡ size (by_itself c)
    → (leb i j && ltb j (i + n)) ≡ over (tree l) i j
over_span l f i j n c h k e s = rw (s ∙ ap size e) (sym ((tree_laws l (formed_is l f)).spans i j h k))
