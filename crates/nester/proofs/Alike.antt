-- Matches on unrelated nodes may come in either order: the collections are then the same but for the order in which they were kept, and
-- in the order of the file they are the same.
-- Assumes nothing.
use Prim.Native.Nat.{ℕ, ◌<◌, ◌≤◌}
use mathlib.Core.Path.{◌≡◌, refl, sym, ap, ◌∙◌}
use mathlib.Core.List.{List, [], ◌∷◌}
use mathlib.Core.Bool.{Bool, true, false, cond}
use native.Mathlib.Omega.{arith}
use lib.Dec.{eqb, leb, ltb}
use borrow.Author.Tests.{eqb-true, eqb-false, eq-eqb, ne_eqb, leb-true, leb-false, le-leb, ltb-true, lt-ltb}
use Rattle.std.specs.Prelude.{Option, None, Some}
use Rattle.syntax.specs.Trees.{Elems, size}
use Rattle.nester.specs.Matches.{Match}
use Rattle.nester.specs.Nest.{Nest, none, kept, empty, change, sent, above, holding, come, start_at, end_at, Unrelated}
use Rattle.nester.specs.Places.{Item, before, insert, items}
use Rattle.nester.proofs.Lines.{Laws}
use Rattle.nester.proofs.Kept.{only_one}
use Rattle.nester.proofs.Placing.{Known, Aparts, by_element_lem, distinct, item}

module _ (t : Elems) where
  pub come_by : (m x : Match) (i : ℕ → Nest) (r : Nest) → above t x m ≡ false → come t m (kept x i r) ≡ kept x i (come t m r)
  unfolding come
  come_by m x i r e = rw e

  pub come-at : (m x : Match) (i : ℕ → Nest) (r : Nest) (s : Option ℕ) → above t x m ≡ true → holding t x m ≡ s → come t m (kept x i r) ≡ sent s x i r (λ k. come t m (i k))
  unfolding come
  come-at m x i r s e h = rw (e, h)

  one_kept : (m : Match) → come t m none ≡ kept m empty none
  unfolding come
  one_kept m = refl

  -- two matches on unrelated nodes of the tree
  pub record Free (x y : Match) : Type 0 where
    pub first : x.node < size t
    pub second : y.node < size t
    pub unrelated : Unrelated t x.node y.node

  -- the same matches at the same places, those of a collection kept in another order
  pub data Alike : Nest → Nest → Type 0 where
    same : {c : Nest} → Alike c c
    keep : {x : Match} {i j : ℕ → Nest} {r s : Nest} → ((k : ℕ) → Alike (i k) (j k)) → Alike r s → Alike (kept x i r) (kept x j s)
    swap : {x y : Match} {i j : ℕ → Nest} {r : Nest} → Free x y → Alike (kept x i (kept y j r)) (kept y j (kept x i r))
    both : {a b c : Nest} → Alike a b → Alike b c → Alike a c

  change_alike : (k : ℕ) {c d : Nest} {i j : ℕ → Nest} → Alike c d → ((l : ℕ) → Alike (i l) (j l)) → (l : ℕ) → Alike (change k c i l) (change k d j l)
  change_alike k {c} {d} {i} {j} a f l = go (eqb l k)
    where
      go : (b : Bool) → Alike (cond b c (i l)) (cond b d (j l))
      go true = a
      go false = f l

  -- to alike collections a match comes alike
  module _ {n : ℕ} (laws : Laws t n) (m : Match) (km : m.node < size t) where
    pub come_alike : {c d : Nest} → Alike c d → Alike (come t m c) (come t m d)
    come_alike same = same
    come_alike (keep {x = x} {i = i} {j = j} {r = r} {s = s} f a) = go (above t x m) (holding t x m) refl refl (λ k. come_alike (f k)) (come_alike a)
      where
        go : (b : Bool) (h : Option ℕ) → above t x m ≡ b → holding t x m ≡ h → ((k : ℕ) → Alike (come t m (i k)) (come t m (j k))) → Alike (come t m r) (come t m s) → Alike (come t m (kept x i r)) (come t m (kept x j s))
        go true None e p inner rest = rw (come-at m x i r None e p, come-at m x j s None e p) (keep f a)
        go true (Some k) e p inner rest = rw (come-at m x i r (Some k) e p, come-at m x j s (Some k) e p) (keep (change_alike k (inner k) f) a)
        go false h e p inner rest = rw (come_by m x i r e, come_by m x j s e) (keep f rest)
    come_alike (swap {x = x} {y = y} {i = i} {j = j} {r = r} u) = go (above t x m) (above t y m) (holding t x m) (holding t y m) refl refl refl refl
      where
        go : (b d : Bool) (h l : Option ℕ) → above t x m ≡ b → above t y m ≡ d → holding t x m ≡ h → holding t y m ≡ l → Alike (come t m (kept x i (kept y j r))) (come t m (kept y j (kept x i r)))
        go true true h l e f p q = absurd (only_one t laws x y m km e f u.unrelated)
        go true false None l e f p q = rw (come-at m x i (kept y j r) None e p, come_by m y j (kept x i r) f, come-at m x i r None e p) (swap u)
        go true false (Some k) l e f p q = rw (come-at m x i (kept y j r) (Some k) e p, come_by m y j (kept x i r) f, come-at m x i r (Some k) e p) (swap u)
        go false true h None e f p q = rw (come_by m x i (kept y j r) e, come-at m y j r None f q, come-at m y j (kept x i r) None f q) (swap u)
        go false true h (Some k) e f p q = rw (come_by m x i (kept y j r) e, come-at m y j r (Some k) f q, come-at m y j (kept x i r) (Some k) f q) (swap u)
        go false false h l e f p q = rw (come_by m x i (kept y j r) e, come_by m y j r f, come_by m y j (kept x i r) f, come_by m x i r e) (swap u)
    come_alike (both a b) = both (come_alike a) (come_alike b)

  -- THE TIE: two matches on unrelated nodes, in either order
  module _ (x y : Match) (u : Free x y) where
    -- of z's collections two change, or one twice
    slots : (i : ℕ → Nest) (k l : ℕ) → ((k : ℕ) → Alike (come t x (come t y (i k))) (come t y (come t x (i k)))) → (j : ℕ)
        → Alike (change k (come t x (change l (come t y (i l)) i k)) (change l (come t y (i l)) i) j) (change l (come t y (change k (come t x (i k)) i l)) (change k (come t x (i k)) i) j)
    slots i k l inner j = go (eqb j k) (eqb j l) refl refl
      where
        go : (a b : Bool) → eqb j k ≡ a → eqb j l ≡ b
            → Alike (cond a (come t x (change l (come t y (i l)) i k)) (cond b (come t y (i l)) (i j))) (cond b (come t y (change k (come t x (i k)) i l)) (cond a (come t x (i k)) (i j)))
        go true true e f =
            let p : k ≡ l = sym (eqb-true j k e) ∙ eqb-true j l f in
            rw (eq-eqb k l p, eq-eqb l k (sym p), p) (inner l)
        go true false e f = rw (ne_eqb k l (λ p. eqb-false j l f (eqb-true j k e ∙ p))) same
        go false true e f = rw (ne_eqb l k (λ p. eqb-false j k e (eqb-true j l f ∙ p))) same
        go false false e f = same

    pub tie : (c : Nest) → Alike (come t x (come t y c)) (come t y (come t x c))
    tie none =
        rw (one_kept y, one_kept x, come_by x y empty none u.unrelated.up, come_by y x empty none u.unrelated.down, one_kept x, one_kept y)
        (swap (record { first = u.second; second = u.first; unrelated = record { down = u.unrelated.up; up = u.unrelated.down } }))
    tie (kept z i r) = go (above t z x) (above t z y) (holding t z x) (holding t z y) refl refl refl refl (λ k. tie (i k)) (tie r)
      where
        go : (a b : Bool) (p q : Option ℕ) → above t z x ≡ a → above t z y ≡ b → holding t z x ≡ p → holding t z y ≡ q
            → ((k : ℕ) → Alike (come t x (come t y (i k))) (come t y (come t x (i k)))) → Alike (come t x (come t y r)) (come t y (come t x r))
            → Alike (come t x (come t y (kept z i r))) (come t y (come t x (kept z i r)))
        go false false p q e f g h inner rest = rw (come_by y z i r f, come_by x z i (come t y r) e, come_by x z i r e, come_by y z i (come t x r) f) (keep (λ k. same) rest)
        go true false None q e f g h inner rest = rw (come_by y z i r f, come-at x z i (come t y r) None e g, come-at x z i r None e g, come_by y z i r f) same
        go true false (Some k) q e f g h inner rest = rw (come_by y z i r f, come-at x z i (come t y r) (Some k) e g, come-at x z i r (Some k) e g, come_by y z (change k (come t x (i k)) i) r f) same
        go false true p None e f g h inner rest = rw (come-at y z i r None f h, come_by x z i r e, come-at y z i (come t x r) None f h) same
        go false true p (Some k) e f g h inner rest = rw (come-at y z i r (Some k) f h, come_by x z (change k (come t y (i k)) i) r e, come_by x z i r e, come-at y z i (come t x r) (Some k) f h) same
        go true true None None e f g h inner rest = rw (come-at y z i r None f h, come-at x z i r None e g, come-at y z i r None f h) same
        go true true None (Some k) e f g h inner rest = rw (come-at y z i r (Some k) f h, come-at x z (change k (come t y (i k)) i) r None e g, come-at x z i r None e g, come-at y z i r (Some k) f h) same
        go true true (Some k) None e f g h inner rest = rw (come-at y z i r None f h, come-at x z i r (Some k) e g, come-at y z (change k (come t x (i k)) i) r None f h) same
        go true true (Some k) (Some l) e f g h inner rest =
            rw (come-at y z i r (Some l) f h, come-at x z (change l (come t y (i l)) i) r (Some k) e g, come-at x z i r (Some k) e g, come-at y z (change k (come t x (i k)) i) r (Some l) f h)
            (keep (slots i k l inner) same)

-- IN THE ORDER OF THE FILE
module _ (t : Elems) {T : Type 0} where
  -- `before`, as numbers
  data Sooner (a b : Item T) : Type 0 where
    by_start : start_at t a.node < start_at t b.node → Sooner a b
    by_end : start_at t a.node ≡ start_at t b.node → end_at t a.node < end_at t b.node → Sooner a b
    by_number : start_at t a.node ≡ start_at t b.node → end_at t a.node ≡ end_at t b.node → a.node ≤ b.node → Sooner a b

  sooner : (a b : Item T) → before t a b ≡ true → Sooner a b
  unfolding before
  sooner a b h = go (eqb sa sb) (eqb ea eb) refl refl h
    where
      sa : ℕ
      sa = start_at t a.node

      sb : ℕ
      sb = start_at t b.node

      ea : ℕ
      ea = end_at t a.node

      eb : ℕ
      eb = end_at t b.node

      go : (x y : Bool) → eqb sa sb ≡ x → eqb ea eb ≡ y → cond x (cond y (leb a.node b.node) (ltb ea eb)) (ltb sa sb) ≡ true → Sooner a b
      go true true e f q = by_number (eqb-true sa sb e) (eqb-true ea eb f) (leb-true _ _ q)
      go true false e f q = by_end (eqb-true sa sb e) (ltb-true ea eb q)
      go false y e f q = by_start (ltb-true sa sb q)

  before_of : (a b : Item T) → Sooner a b → before t a b ≡ true
  unfolding before
  before_of a b (by_start h) = rw (ne_eqb (start_at t a.node) (start_at t b.node) (λ z. omega arith)) (lt-ltb _ _ h)
  before_of a b (by_end e h) = rw (eq-eqb _ _ e, ne_eqb (end_at t a.node) (end_at t b.node) (λ z. omega arith)) (lt-ltb _ _ h)
  before_of a b (by_number e f h) = rw (eq-eqb _ _ e, eq-eqb _ _ f) (le-leb _ _ h)

  through : (a b c : Item T) → Sooner a b → Sooner b c → Sooner a c
  through a b c (by_start h) (by_start k) = by_start (omega arith)
  through a b c (by_start h) (by_end e k) = by_start (omega arith)
  through a b c (by_start h) (by_number e f k) = by_start (omega arith)
  through a b c (by_end e h) (by_start k) = by_start (omega arith)
  through a b c (by_end e h) (by_end e' k) = by_end (omega arith) (omega arith)
  through a b c (by_end e h) (by_number e' f k) = by_end (omega arith) (omega arith)
  through a b c (by_number e f h) (by_start k) = by_start (omega arith)
  through a b c (by_number e f h) (by_end e' k) = by_end (omega arith) (omega arith)
  through a b c (by_number e f h) (by_number e' f' k) = by_number (omega arith) (omega arith) (omega arith)

  insert_yes : (x y : Item T) (l : List (Item T)) → before t x y ≡ true → insert t x (y ∷ l) ≡ x ∷ (y ∷ l)
  unfolding insert
  insert_yes x y l h = rw h

  insert_no : (x y : Item T) (l : List (Item T)) → before t x y ≡ false → insert t x (y ∷ l) ≡ y ∷ insert t x l
  unfolding insert
  insert_no x y l h = rw h

  insert-none : (x : Item T) → insert t x [] ≡ x ∷ []
  unfolding insert
  insert-none x = refl

  -- the first of two, and the second, are put in in either order
  insert-two : (a b : Item T) → before t a b ≡ true → before t b a ≡ false → (l : List (Item T)) → insert t a (insert t b l) ≡ insert t b (insert t a l)
  insert-two a b p q [] = rw (insert-none b, insert-none a, insert_yes a b [] p, insert_no b a [] q, insert-none b)
  insert-two a b p q (z ∷ l) = go (before t a z) (before t b z) refl refl (insert-two a b p q l)
    where
      go : (x y : Bool) → before t a z ≡ x → before t b z ≡ y → insert t a (insert t b l) ≡ insert t b (insert t a l) → insert t a (insert t b (z ∷ l)) ≡ insert t b (insert t a (z ∷ l))
      go true true e f r = rw (insert_yes b z l f, insert_yes a z l e, insert_yes a b (z ∷ l) p, insert_no b a (z ∷ l) q, insert_yes b z l f)
      go true false e f r = rw (insert_no b z l f, insert_yes a z l e, insert_yes a z (insert t b l) e, insert_no b a (z ∷ l) q, insert_no b z l f)
      go false true e f r = absurd (let w : ◌≡◌ {A = Bool} true false = sym (before_of a z (through a b z (sooner a b p) (sooner b z f))) ∙ e in let z : ◌≡◌ {A = ℕ} 0 1 = cc in omega arith)
      go false false e f r = rw (insert_no b z l f, insert_no a z l e, insert_no a z (insert t b l) e, insert_no b z (insert t a l) f) (ap (λ (w : List (Item T)). z ∷ w) r)

module _ (t : Elems) {n : ℕ} (laws : Laws t n) {T : Type 0} (render : Match → (ℕ → List (Item T)) → T) where
  insert-swap : (a b : Item T) → Known t laws a → Known t laws b → Aparts t laws a b → Aparts t laws b a → (l : List (Item T)) → insert t a (insert t b l) ≡ insert t b (insert t a l)
  insert-swap a b p q v w l = go (leb a.node b.node) (leb b.node a.node) refl refl
    where
      go : (f g : Bool) → leb a.node b.node ≡ f → leb b.node a.node ≡ g → insert t a (insert t b l) ≡ insert t b (insert t a l)
      go true true e h = absurd (distinct t laws a b p v (let c = leb-true a.node b.node e in let d = leb-true b.node a.node h in omega arith))
      go true false e h = insert-two t a b (by_element_lem t laws a b p q v ∙ e) (by_element_lem t laws b a q p w ∙ h) l
      go false true e h = sym (insert-two t b a (by_element_lem t laws b a q p w ∙ h) (by_element_lem t laws a b p q v ∙ e) l)
      go false false e h = absurd (let c = leb-false a.node b.node e in let d = leb-false b.node a.node h in omega arith)

  -- ALIKE collections are the same
  pub items_alike : {c d : Nest} → Alike t c d → items t render c ≡ items t render d
  unfolding items
  items_alike same = refl
  items_alike (keep {x = x} f a) = λ i. insert t (record { node = x.node; what = render x (λ k. items_alike (f k) i) }) (items_alike a i)
  items_alike (swap {x = x} {y = y} {i = i} {j = j} {r = r} u) =
      insert-swap (item t render x i) (item t render y j) u.first u.second u.unrelated (record { down = u.unrelated.up; up = u.unrelated.down }) (items t render r)
  items_alike (both a b) = items_alike a ∙ items_alike b
