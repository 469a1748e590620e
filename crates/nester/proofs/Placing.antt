-- The matches of a collection in the order of the file: one item for each, rising without overlap, and that order is the elements'.
-- Assumes nothing.
use Prim.Native.Nat.{ℕ, zero, suc, ◌<◌, ◌≤◌}
use mathlib.Core.Path.{◌≡◌, refl, sym, subst, ◌∙◌}
use mathlib.Core.List.{List, [], ◌∷◌, ◌++◌, append-nil}
use mathlib.Core.Bool.{Bool, true, false, cond, true≢false}
use native.Mathlib.Omega.{arith}
use lib.Dec.{eqb, leb, ltb}
use borrow.Author.Tests.{eqb-true, eqb-false, eq-eqb, ne_eqb, ltb-true, ltb-false, leb-true, leb-false, lt-ltb, le-leb, lt-leb, le-ltb}
use Rattle.words.proofs.TestLaws.{low_or}
use Rattle.syntax.specs.Trees.{Elems, size}
use Rattle.candidates.specs.Candidates.{each, Perm, done, keep, swap, both}
use Rattle.nester.specs.Matches.{Match}
use Rattle.nester.specs.Nest.{Nest, none, kept, over, start_at, end_at, Unrelated, Alone, Apart, In, first, later}
use Rattle.nester.specs.Places.{Item, before, insert, items, listed}
use Rattle.nester.proofs.Lists.{All, Pairwise, all_map, all_zip, each_all, each_same}
use Rattle.nester.proofs.Lines.{Laws}

module _ {A : Type 0} where
  perm_refl : (l : List A) → Perm l l
  perm_refl [] = done
  perm_refl (x ∷ l) = keep (perm_refl l)

  pub perm_all : {P : A → Type 0} {a b : List A} → Perm a b → All P a → All P b
  perm_all done q = q
  perm_all (keep p) (All.more q r) = All.more q (perm_all p r)
  perm_all swap (All.more q (All.more r s)) = All.more r (All.more q s)
  perm_all (both p q) r = perm_all q (perm_all p r)

module _ (t : Elems) {T : Type 0} where
  insert_perm : (x : Item T) (l : List (Item T)) → Perm (x ∷ l) (insert t x l)
  unfolding insert
  insert_perm x [] = keep done
  insert_perm x (y ∷ l) = go (before t x y) (insert_perm x l)
    where
      go : (b : Bool) → Perm (x ∷ l) (insert t x l) → Perm (x ∷ (y ∷ l)) (cond b (x ∷ (y ∷ l)) (y ∷ insert t x l))
      go true p = perm_refl (x ∷ (y ∷ l))
      go false p = both swap (keep p)

-- one for each match of the collection and no other
module _ (t : Elems) {T : Type 0} (render : Match → (ℕ → List (Item T)) → T) where
  abbrev pub item : Match → (ℕ → Nest) → Item T
  item m inner = record { node = m.node; what = render m (λ k. items t render (inner k)) }

  pub items_row : (c : Nest) → Perm (listed t render c) (items t render c)
  unfolding items listed
  items_row none = done
  items_row (kept m inner rest) = both (keep (items_row rest)) (insert_perm t (item m inner) (items t render rest))

module _ (t : Elems) {n : ℕ} (laws : Laws t n) {T : Type 0} where
  -- x ends where y starts or earlier
  abbrev pub Ahead : Item T → Item T → Type 0
  Ahead x y = end_at t x.node ≤ start_at t y.node

  abbrev pub Known : Item T → Type 0
  Known x = x.node < size t

  abbrev pub Aparts : Item T → Item T → Type 0
  Aparts x y = Unrelated t x.node y.node

  -- of two unrelated ones, one is ahead of the other
  pub data Either (x y : Item T) : Type 0 where
    low : x.node < y.node → Ahead x y → Either x y
    high : y.node < x.node → Ahead y x → Either x y

  pub distinct : (x y : Item T) → Known x → Aparts x y → x.node ≡ y.node → ⊥
  distinct x y p u e = true≢false (sym (laws.self x.node p) ∙ subst (λ (i : ℕ). over t x.node i ≡ false) (sym e) u.down)

  pub either : (x y : Item T) → Known x → Known y → Aparts x y → Either x y
  either x y p q u =
      low_or x.node y.node (λ l. low l (laws.after x.node y.node q l u.down))
      (λ l. let less : y.node < x.node = omega (arith, distinct x y p u) in high less (laws.after y.node x.node p less u.up))

  -- the order by start, end and element is that of the elements
  pub by_element_lem : (x y : Item T) → Known x → Known y → Aparts x y → before t x y ≡ leb x.node y.node
  unfolding before
  by_element_lem x y p q u = go (eqb sx sy) (eqb ex ey) refl refl (either x y p q u)
    where
      sx : ℕ
      sx = start_at t x.node

      sy : ℕ
      sy = start_at t y.node

      ex : ℕ
      ex = end_at t x.node

      ey : ℕ
      ey = end_at t y.node

      go : (a b : Bool) → eqb sx sy ≡ a → eqb ex ey ≡ b → Either x y → cond a (cond b (leb x.node y.node) (ltb ex ey)) (ltb sx sy) ≡ leb x.node y.node
      go true true e f o = refl
      go true false e f (low h a) = let z = eqb-true sx sy e in let w = eqb-false ex ey f in rw (le-leb x.node y.node (omega arith)) (lt-ltb ex ey (omega (arith, laws.ordered x.node p, laws.ordered y.node q)))
      go true false e f (high h a) = let z = eqb-true sx sy e in rw (lt-leb x.node y.node h) (le-ltb ex ey (omega (arith, laws.ordered x.node p, laws.ordered y.node q)))
      go false b e f (low h a) = let w = eqb-false sx sy e in rw (le-leb x.node y.node (omega arith)) (lt-ltb sx sy (omega (arith, laws.ordered x.node p)))
      go false b e f (high h a) = rw (lt-leb x.node y.node h) (le-ltb sx sy (omega (arith, laws.ordered y.node q)))

  before_yes : (x y : Item T) → Known x → Known y → Aparts x y → before t x y ≡ true → Ahead x y
  before_yes x y p q u e = go (either x y p q u) (leb-true x.node y.node (sym (by_element_lem x y p q u) ∙ e))
    where
      go : Either x y → x.node ≤ y.node → Ahead x y
      go (low h a) i = a
      go (high h a) i = absurd (omega arith)

  before_no : (x y : Item T) → Known x → Known y → Aparts x y → before t x y ≡ false → Ahead y x
  before_no x y p q u e = go (either x y p q u) (leb-false x.node y.node (sym (by_element_lem x y p q u) ∙ e))
    where
      go : Either x y → y.node < x.node → Ahead y x
      go (low h a) i = absurd (omega arith)
      go (high h a) i = a

  insert_ahead : (x : Item T) (l : List (Item T)) → Known x → All Known l → All (Aparts x) l → Pairwise Ahead l → Pairwise Ahead (insert t x l)
  unfolding insert
  insert_ahead x [] k ks us a = Pairwise.more All.nil Pairwise.nil
  insert_ahead x (y ∷ l) k (All.more j js) (All.more u us) (Pairwise.more a aa) = go (before t x y) refl (insert_ahead x l k js us aa)
    where
      go : (b : Bool) → before t x y ≡ b → Pairwise Ahead (insert t x l) → Pairwise Ahead (cond b (x ∷ (y ∷ l)) (y ∷ insert t x l))
      go true e r =
          let h = before_yes x y k j u e in
          Pairwise.more {x = x} (All.more h (all_map (λ z i. omega (arith, laws.ordered y.node j)) a)) (Pairwise.more a aa)
      go false e r = Pairwise.more (perm_all (insert_perm t x l) (All.more (before_no x y k j u e) a)) r

module _ (t : Elems) {n : ℕ} (laws : Laws t n) {T : Type 0} (render : Match → (ℕ → List (Item T)) → T) where
  -- a collection, as a row
  pub row_alone : (m : Match) (i : ℕ → Nest) (c : Nest) → Alone t m c → All (Aparts t laws (item t render m i)) (listed t render c)
  unfolding listed
  row_alone m i none a = All.nil
  row_alone m i (kept y j r) a = All.more a.0 (row_alone m i r a.1)

  pub row_known : (c : Nest) → ((x : Match) → In x c → x.node < size t) → All (Known t laws) (listed t render c)
  unfolding listed
  row_known none f = All.nil
  row_known (kept x i r) f = All.more (f x (first refl)) (row_known r (λ y p. f y (later p)))

  -- IN ORDER: each item ends where those behind it start or earlier
  pub items_ahead : (c : Nest) → Apart t c → ((x : Match) → In x c → x.node < size t) → Pairwise (Ahead t laws) (items t render c)
  unfolding items
  items_ahead none a f = Pairwise.nil
  items_ahead (kept m i r) a f =
      let p = items_row t render r in
      let f' : (x : Match) → In x r → x.node < size t = λ y q. f y (later q) in
      insert_ahead t laws (item t render m i) (items t render r) (f m (first refl)) (perm_all p (row_known r f')) (perm_all p (row_alone m i r a.0))
      (items_ahead r a.2 f')

-- those of a list that are on node n
unfoldable pub pick : {T : Type 0} → ℕ → List (Item T) → List (Item T)
pick n [] = []
pick n (x ∷ l) = cond (eqb x.node n) (x ∷ pick n l) (pick n l)

module _ (t : Elems) {T : Type 0} where
  pub insert-first : (x : Item T) (l : List (Item T)) → All (λ y. before t x y ≡ true) l → insert t x l ≡ x ∷ l
  unfolding insert
  insert-first x [] h = refl
  insert-first x (y ∷ l) (All.more h hs) = rw h

  insert-front : (x : Item T) (a b : List (Item T)) → All (λ y. before t x y ≡ true) b → insert t x (a ++ b) ≡ insert t x a ++ b
  unfolding insert
  insert-front x [] b h = insert-first x b h
  insert-front x (z ∷ a) b h = go (before t x z) (insert-front x a b h)
    where
      go : (o : Bool) → insert t x (a ++ b) ≡ insert t x a ++ b → cond o (x ∷ (z ∷ (a ++ b))) (z ∷ insert t x (a ++ b)) ≡ cond o (x ∷ (z ∷ a)) (z ∷ insert t x a) ++ b
      go true e = refl
      go false e = rw e

  insert_end : (x : Item T) (a : List (Item T)) → All (λ y. before t x y ≡ false) a → insert t x a ≡ a ++ (x ∷ [])
  unfolding insert
  insert_end x [] h = refl
  insert_end x (y ∷ a) (All.more h hs) = rw (h, insert_end x a hs)

-- what is picked of those that have P
pick_all : {T : Type 0} {P : Item T → Type 0} (n : ℕ) {l : List (Item T)} → All P l → All (λ y. P y × (y.node ≡ n)) (pick n l)
unfolding pick
pick_all n All.nil = All.nil
pick_all {P = P} n (All.more {x = x} {l = l} p a) = go (eqb x.node n) refl (pick_all n a)
  where
    go : (b : Bool) → eqb x.node n ≡ b → All (λ y. P y × (y.node ≡ n)) (pick n l) → All (λ y. P y × (y.node ≡ n)) (cond b (x ∷ pick n l) (pick n l))
    go true e r = All.more (p, eqb-true x.node n e) r
    go false e r = r

pick-none : {T : Type 0} (n : ℕ) {l : List (Item T)} → All (λ y. y.node ≡ n → ⊥) l → pick n l ≡ []
unfolding pick
pick-none n All.nil = refl
pick-none n (All.more {x = x} p a) = rw (ne_eqb x.node n p) (pick-none n a)

pick_not : {T : Type 0} (n : ℕ) (x : Item T) (l : List (Item T)) → (x.node ≡ n → ⊥) → pick n (x ∷ l) ≡ pick n l
unfolding pick
pick_not n x l h = rw (ne_eqb x.node n h)

pick_head : {T : Type 0} (n : ℕ) (x : Item T) (l : List (Item T)) → x.node ≡ n → pick n (x ∷ l) ≡ x ∷ pick n l
unfolding pick
pick_head n x l h = rw (eq-eqb x.node n h)

module _ (t : Elems) {n : ℕ} (laws : Laws t n) {T : Type 0} where
  abbrev Good : Item T → Item T → Type 0
  Good x y = Known t laws y × Aparts t laws x y

  -- x is put in its place among those picked so far
  picked : (x : Item T) (l : List (Item T)) → Known t laws x → All (Good x) l → (k : ℕ) → x.node < k
      → insert t x (each k (λ i. pick i l)) ≡ each k (λ i. pick i (x ∷ l))
  unfolding each
  picked x l p g zero h = absurd (omega arith)
  picked x l p g (suc k) h = go (ltb x.node k) refl (λ q. picked x l p g k q)
    where
      go : (b : Bool) → ltb x.node k ≡ b → (x.node < k → insert t x (each k (λ i. pick i l)) ≡ each k (λ i. pick i (x ∷ l)))
          → insert t x (each k (λ i. pick i l) ++ pick k l) ≡ each k (λ i. pick i (x ∷ l)) ++ pick k (x ∷ l)
      go true e on =
          let q = ltb-true x.node k e in
          insert-front t x (each k (λ i. pick i l)) (pick k l) (all_map (λ y o. by_element_lem t laws x y p o.0.0 o.0.1 ∙ le-leb x.node y.node (let z = o.1 in omega arith)) (pick_all k g))
          ∙ rw (on q, pick_not k x l (λ z. omega arith))
      go false e on =
          let q = ltb-false x.node k e in
          let z : x.node ≡ k = omega arith in
          let none : pick k l ≡ [] = pick-none k (all_map (λ y o m. distinct t laws x y p o.1 (omega arith)) g) in
          let same : each k (λ i. pick i (x ∷ l)) ≡ each k (λ i. pick i l) = each_same _ _ k (λ i w. pick_not i x l (λ m. omega arith)) in
          rw (pick_head k x l z, none, same, append-nil (each k (λ i. pick i l)))
          (insert_end t x (each k (λ i. pick i l))
          (all_map (λ y o. let m = o.is.1 in let w = o.low in by_element_lem t laws x y p o.is.0.0 o.is.0.1 ∙ lt-leb x.node y.node (omega arith))
          (each_all {P = λ i y. Good x y × (y.node ≡ i)} (λ i. pick_all i g) k)))

module _ (t : Elems) {n : ℕ} (laws : Laws t n) {T : Type 0} (render : Match → (ℕ → List (Item T)) → T) where
  no_items : (k : ℕ) → each {A = Item T} k (λ i. pick i []) ≡ []
  unfolding each pick
  no_items zero = refl
  no_items (suc k) = rw (no_items k)

  -- THE ITEMS, element by element
  pub by_elements : (c : Nest) → Apart t c → ((x : Match) → In x c → x.node < size t) → items t render c ≡ each (size t) (λ i. pick i (listed t render c))
  unfolding items listed
  by_elements none a f = sym (no_items (size t))
  by_elements (kept m i r) a f =
      let f' : (x : Match) → In x r → x.node < size t = λ y q. f y (later q) in
      let k = f m (first refl) in
      rw (by_elements r a.2 f')
      (picked t laws (item t render m i) (listed t render r) k (all_zip (λ y o u. (o, u)) (row_known t laws render r f') (row_alone t laws render m i r a.0)) (size t) k)
