-- The rows show what the definition nests, and a match's way over them is its fate.
-- Assumes nothing.
use Prim.Native.Nat.{ℕ}
use mathlib.Core.Path.{◌≡◌, refl, sym, ap, ◌∙◌}
use mathlib.Core.List.{List, [], ◌∷◌, ◌++◌}
use mathlib.Core.Bool.{Bool, true, false, cond, ◌&&◌, true≢false, false≢true}
use lib.Dec.{eqb}
use borrow.Author.Tests.{eqb-true, eq-eqb}
use Rattle.std.specs.Option.{option_and_then}
use Rattle.std.specs.Prelude.{Option, None, Some}
use Rattle.words.proofs.TestLaws.{and_both, never}
use Rattle.syntax.specs.Trees.{Elems}
use Rattle.nester.specs.Matches.{Match}
use Rattle.nester.specs.Nest.{Nest, kept, change, above, holding, come, nest}
use Rattle.nester.specs.Fates.{Place, outer, within, same, inside, Placed, fate_at, walk, pushed, rows, shown}
use Rattle.nester.proofs.Lists.{All, Pairwise, all_map, all_zip, all_append, pairwise_append}

pub same_self : (p : Place) → same p p ≡ true
same_self outer = refl
same_self (within n r k) = rw (eq-eqb n n refl, eq-eqb r r refl, eq-eqb k k refl)

pub same_true : (p q : Place) → same p q ≡ true → p ≡ q
same_true outer outer h = refl
same_true outer (within n r k) h = absurd (false≢true h)
same_true (within n r k) outer h = absurd (false≢true h)
same_true (within n r k) (within n' r' k') h =
    let a = and_both (eqb n n' && eqb r r') (eqb k k') h in
    let b = and_both (eqb n n') (eqb r r') a.0 in
    λ i. within (eqb-true n n' b.0 i) (eqb-true r r' b.1 i) (eqb-true k k' a.1 i)

same_back : (p q : Place) → same p q ≡ false → same q p ≡ false
same_back p q h = never (same q p) (λ e. true≢false (sym (rw (same_true q p e) (same_self p)) ∙ h))

-- two matches of different pairs have no place in common
abbrev pub Other : Match → Match → Type 0
Other x y = x.node ≡ y.node → x.rule ≡ y.rule → ⊥

-- no place of row r is p
abbrev Out : Place → Placed → Type 0
Out p r = (k : ℕ) → same p (inside r.match k) ≡ false

abbrev Fresh : Place → List Placed → Type 0
Fresh p l = All (Out p) l

-- no two rows are of one pair
abbrev pub Differ : Placed → Placed → Type 0
Differ r s = Other r.match s.match

abbrev pub Distinct : List Placed → Type 0
Distinct l = Pairwise Differ l

out : (r s : Placed) → Differ r s → (k : ℕ) → Out (inside r.match k) s
out r s d k j =
    never (same (inside r.match k) (inside s.match j))
    (λ h. let a = and_both (eqb r.match.node s.match.node && eqb r.match.rule s.match.rule) (eqb k j) h in
    let b = and_both (eqb r.match.node s.match.node) (eqb r.match.rule s.match.rule) a.0 in
    d (eqb-true _ _ b.0) (eqb-true _ _ b.1))

fresh_inside : (r : Placed) (k : ℕ) {l : List Placed} → All (Differ r) l → Fresh (inside r.match k) l
fresh_inside r k a = all_map (λ s d. out r s d k) a

fresh_outer : (l : List Placed) → Fresh outer l
fresh_outer [] = All.nil
fresh_outer (r ∷ l) = All.more (λ k. refl) (fresh_outer l)

-- what is shown at the row's place, and at another
module _ (r : Placed) (l : List Placed) (p : Place) where
  shown-at : same p r.place ≡ true → shown (r ∷ l) p ≡ kept r.match (λ k. shown l (inside r.match k)) (shown l p)
  unfolding shown
  shown-at e = rw e

  shown_not : same p r.place ≡ false → shown (r ∷ l) p ≡ shown l p
  unfolding shown
  shown_not e = rw e

module _ (t : Elems) (m : Match) where
  -- m's way, as a view
  data Walks : Place → List Placed → Option Place → Type 0 where
    ends : {p : Place} → Walks p [] (Some p)
    other : {p : Place} {r : Placed} {l : List Placed} {f : Option Place} → same p r.place ≡ false → Walks p l f → Walks p (r ∷ l) f
    by : {p : Place} {r : Placed} {l : List Placed} {f : Option Place} → same p r.place ≡ true → above t r.match m ≡ false → Walks p l f → Walks p (r ∷ l) f
    drop : {p : Place} {r : Placed} {l : List Placed} → same p r.place ≡ true → above t r.match m ≡ true → holding t r.match m ≡ None → Walks p (r ∷ l) None
    goes : {p : Place} {r : Placed} {l : List Placed} {f : Option Place} {k : ℕ} → same p r.place ≡ true → above t r.match m ≡ true → holding t r.match m ≡ Some k → Walks (inside r.match k) l f → Walks p (r ∷ l) f

  walks : (l : List Placed) (p : Place) → Walks p l (walk t m p l)
  unfolding walk
  walks [] p = ends
  walks (r ∷ l) p = go (same p r.place) (above t r.match m) (holding t r.match m) refl refl refl (λ q. walks l q)
    where
      go : (a b : Bool) (s : Option ℕ) → same p r.place ≡ a → above t r.match m ≡ b → holding t r.match m ≡ s → ((q : Place) → Walks q l (walk t m q l))
          → Walks p (r ∷ l) (cond (a && b) (option_and_then (λ k. walk t m (inside r.match k) l) s) (walk t m p l))
      go true true None e f h on = drop e f h
      go true true (Some k) e f h on = goes e f h (on (inside r.match k))
      go true false s e f h on = by e f (on p)
      go false b s e f h on = other e (on p)

  -- THE WAY over the rows is the fate in the collection that they show
  pub walk-fate : (l : List Placed) (p : Place) → walk t m p l ≡ fate_at t p m (shown l p)
  unfolding walk fate_at shown
  walk-fate [] p = refl
  walk-fate (r ∷ l) p = go (same p r.place) refl (λ q. walk-fate l q)
    where
      go : (a : Bool) → same p r.place ≡ a → ((q : Place) → walk t m q l ≡ fate_at t q m (shown l q))
          → cond (a && above t r.match m) (option_and_then (λ k. walk t m (inside r.match k) l) (holding t r.match m)) (walk t m p l)
          ≡ fate_at t p m (cond a (kept r.match (λ k. shown l (inside r.match k)) (shown l p)) (shown l p))
      go true e on = λ i. cond (above t r.match m) (option_and_then (λ k. on (inside r.match k) i) (holding t r.match m)) (on p i)
      go false e on = on p

  abbrev new : Place → Placed
  new q = record { match = m; place = q }

  -- what is shown at o does not change where what is shown behind the row does not
  behind : (r : Placed) (l l' : List Placed) (o : Place) → shown l o ≡ shown l' o → ((k : ℕ) → shown l (inside r.match k) ≡ shown l' (inside r.match k)) → shown (r ∷ l) o ≡ shown (r ∷ l') o
  unfolding shown
  behind r l l' o rest inner = go (same o r.place)
    where
      go : (b : Bool) → cond b (kept r.match (λ k. shown l (inside r.match k)) (shown l o)) (shown l o) ≡ cond b (kept r.match (λ k. shown l' (inside r.match k)) (shown l' o)) (shown l' o)
      go true = λ j. kept r.match (λ k. inner k j) (rest j)
      go false = rest

  -- elsewhere nothing changes
  unchanged : {p q : Place} {l : List Placed} → Walks p l (Some q) → (o : Place) → same o p ≡ false → Fresh p l → Fresh o l → Distinct l → shown (l ++ (new q ∷ [])) o ≡ shown l o
  unfolding shown
  unchanged ends o d All.nil All.nil Pairwise.nil = rw d
  unchanged {p} {q} (other {r = r} {l = l} e w) o d (All.more a an) (All.more b bs) (Pairwise.more z zs) =
      behind r (l ++ (new q ∷ [])) l o (unchanged w o d an bs zs) (λ k. unchanged w (inside r.match k) (same_back p (inside r.match k) (a k)) an (fresh_inside r k z) zs)
  unchanged {p} {q} (by {r = r} {l = l} e f w) o d (All.more a an) (All.more b bs) (Pairwise.more z zs) =
      behind r (l ++ (new q ∷ [])) l o (unchanged w o d an bs zs) (λ k. unchanged w (inside r.match k) (same_back p (inside r.match k) (a k)) an (fresh_inside r k z) zs)
  unchanged {p} {q} (goes {r = r} {l = l} {k = k} e f h w) o d (All.more a an) (All.more b bs) (Pairwise.more z zs) =
      let n : same o r.place ≡ false = sym (ap (λ (y : Place). same o y) (same_true p r.place e)) ∙ d in
      shown_not r (l ++ (new q ∷ [])) o n ∙ (unchanged w o (b k) (fresh_inside r k z) bs zs ∙ sym (shown_not r l o n))

  -- of row r's collections the k-th changes
  slots : (r : Placed) (k : ℕ) (l l' : List Placed) → shown l' (inside r.match k) ≡ come t m (shown l (inside r.match k)) → ((j : ℕ) → eqb j k ≡ false → shown l' (inside r.match j) ≡ shown l (inside r.match j))
      → (j : ℕ) → shown l' (inside r.match j) ≡ change k (come t m (shown l (inside r.match k))) (λ j. shown l (inside r.match j)) j
  slots r k l l' h o j = go (eqb j k) refl
    where
      go : (b : Bool) → eqb j k ≡ b → shown l' (inside r.match j) ≡ cond b (come t m (shown l (inside r.match k))) (shown l (inside r.match j))
      go true e = rw (eqb-true j k e) h
      go false e = o j e

  not_slot : (x : Match) (j k : ℕ) → eqb j k ≡ false → same (inside x j) (inside x k) ≡ false
  not_slot x j k e = rw (eq-eqb x.node x.node refl, eq-eqb x.rule x.rule refl) e

  -- a row added: the rows then show what the definition makes of what they showed
  added : {p q : Place} {l : List Placed} → Walks p l (Some q) → Fresh p l → Distinct l → shown (l ++ (new q ∷ [])) p ≡ come t m (shown l p)
  unfolding shown come
  added {p} ends All.nil Pairwise.nil = rw (same_self p)
  added {p} {q} (other {r = r} {l = l} e w) (All.more a an) (Pairwise.more z zs) = rw e (added w an zs)
  added {p} {q} (by {r = r} {l = l} e f w) (All.more a an) (Pairwise.more z zs) =
      rw (e, f) (λ j. kept r.match (λ k. unchanged w (inside r.match k) (same_back p (inside r.match k) (a k)) an (fresh_inside r k z) zs j) (added w an zs j))
  added {p} {q} (goes {r = r} {l = l} {k = k} e f h w) (All.more a an) (Pairwise.more z zs) =
      let inner = slots r k l (l ++ (new q ∷ [])) (added w (fresh_inside r k z) zs) (λ j y. unchanged w (inside r.match j) (not_slot r.match j k y) (fresh_inside r k z) (fresh_inside r j z) zs) in
      let rest = unchanged w p (a k) (fresh_inside r k z) an zs in
      rw (e, f, h) (λ j. kept r.match (λ k. inner k j) (rest j))

  lost : {p : Place} {l : List Placed} → Walks p l None → shown l p ≡ come t m (shown l p)
  unfolding shown come
  lost {p} (other {r = r} {l = l} e w) = rw e (lost w)
  lost {p} (by {r = r} {l = l} e f w) = rw (e, f) (ap (λ (c : Nest). kept r.match (λ k. shown l (inside r.match k)) c) (lost w))
  lost {p} (drop e f h) = rw (e, f, h)
  lost {p} (goes {r = r} {l = l} {k = k} e f h w) =
      let inner = slots r k l l (lost w) (λ j z. refl) in
      rw (e, f, h) (λ j. kept r.match (λ k. inner k j) (shown l p))

  -- one match
  one_more : (l : List Placed) → Distinct l → shown (pushed (walk t m outer l) m l) outer ≡ come t m (shown l outer)
  one_more l d = go (walk t m outer l) (walks l outer)
    where
      go : (f : Option Place) → Walks outer l f → shown (pushed f m l) outer ≡ come t m (shown l outer)
      go None w = lost w
      go (Some q) w = added w (fresh_outer l) d

  -- the rows then, where m's pair is none of theirs
  pub pushed_distinct : (f : Option Place) (l : List Placed) → Distinct l → All (λ r. Other r.match m) l → Distinct (pushed f m l)
  pushed_distinct None l d o = d
  pushed_distinct (Some p) l d o = pairwise_append d (Pairwise.more All.nil Pairwise.nil) (all_map (λ r a. All.more a All.nil) o)

  pub pushed-all : {P : Placed → Type 0} (f : Option Place) (l : List Placed) → All P l → ((p : Place) → P (new p)) → All P (pushed f m l)
  pushed-all None l a b = a
  pushed-all (Some p) l a b = all_append a (All.more (b p) All.nil)

-- THE ROWS of matches of different pairs show their nest
pub shows : (t : Elems) (ms : List Match) (l : List Placed) → Distinct l → Pairwise Other ms → All (λ m. All (λ r. Other r.match m) l) ms
    → shown (rows t ms l) outer ≡ nest t ms (shown l outer)
unfolding rows nest
shows t [] l d p a = refl
shows t (m ∷ ms) l d (Pairwise.more o os) (All.more a an) =
    let f = walk t m outer l in
    shows t ms (pushed f m l) (pushed_distinct t m f l d a) os (all_zip (λ y x b. pushed-all t m f l b (λ q. x)) o an)
    ∙ ap (λ (c : Nest). nest t ms c) (one_more t m l d)
