-- The collection of each slot of a kept row stands in the order of the file too: it is a collection inside the outer one, since each row is
-- kept in a slot of a row before it, or outermost.
-- Assumes nothing.
use Prim.Native.Nat.{ℕ, ◌<◌}
use mathlib.Core.Path.{◌≡◌, refl, subst}
use mathlib.Core.Bool.{Bool, true, false, cond, ◌&&◌}
use mathlib.Core.List.{List, [], ◌∷◌, ◌++◌}
use Rattle.std.specs.Prelude.{Option, None, Some}
use Rattle.std.specs.Option.{option_and_then}
use Rattle.syntax.specs.Trees.{Elems, size}
use Rattle.nester.specs.Matches.{Match}
use Rattle.nester.specs.Nest.{Nest, kept, above, holding, Apart, In, inside as In-inside, later}
use Rattle.nester.specs.Fates.{Place, outer, same, inside, Placed, walk, pushed, rows, shown}
use Rattle.nester.specs.Places.{Item, items, laid}
use Rattle.nester.proofs.Lines.{Laws}
use Rattle.nester.proofs.Inner.{Rising, items-laid}
use Rattle.nester.proofs.Shown.{same_self}

-- a place that was known, or a slot of a match
data Known (P : Place → Type 0) (m : Match) (p : Place) : Type 0 where
  old : P p → Known P m p
  own : (k : ℕ) → p ≡ inside m k → Known P m p

-- each row is kept in a place that is known by then
abbrev AllPlaced : (Place → Type 0) → List Placed → Type 0
AllPlaced P [] = Unit {0}
AllPlaced P (r ∷ l) = P r.place × AllPlaced (Known P r.match) l

-- ---- the rows of matches are so

module _ (t : Elems) (m : Match) where
  placed_first : (f : Option Place) (P : Place → Type 0) (r : Placed) (l : List Placed) → P r.place → AllPlaced (Known P r.match) (pushed f m l)
      → AllPlaced P (pushed f m (r ∷ l))
  placed_first None P r l h g = (h, g)
  placed_first (Some p) P r l h g = (h, g)

  placed_pushed : (l : List Placed) (P : Place → Type 0) (p : Place) → P p → AllPlaced P l → AllPlaced P (pushed (walk t m p l) m l)
  unfolding walk
  placed_pushed [] P p h g = (h, tt)
  placed_pushed (r ∷ l) P p h g =
      let Q = Known P r.match in
      go (same p r.place && above t r.match m) (holding t r.match m)
      (λ k. placed_pushed l Q (inside r.match k) (own k refl) g.1) (placed_pushed l Q p (old h) g.1)
    where
      way : Place → Option Place
      way q = walk t m q l

      go : (b : Bool) (s : Option ℕ) → ((k : ℕ) → AllPlaced (Known P r.match) (pushed (way (inside r.match k)) m l))
          → AllPlaced (Known P r.match) (pushed (way p) m l)
          → AllPlaced P (pushed (cond b (option_and_then (λ k. way (inside r.match k)) s) (way p)) m (r ∷ l))
      go true None inner by = g
      go true (Some k) inner by = placed_first (way (inside r.match k)) P r l g.0 (inner k)
      go false s inner by = placed_first (way p) P r l g.0 by

placed_all : (t : Elems) (ms : List Match) (l : List Placed) → AllPlaced (λ p. p ≡ outer) l → AllPlaced (λ p. p ≡ outer) (rows t ms l)
unfolding rows
placed_all t [] l g = g
placed_all t (m ∷ ms) l g = placed_all t ms (pushed (walk t m outer l) m l) (placed_pushed t m l (λ p. p ≡ outer) outer refl g)

-- ---- so what they show in a slot is inside what they show outermost

module _ (t : Elems) where
  -- a collection that stands in the order of the file
  pub record Ordered (c : Nest) : Type 0 where
    pub apart : Apart t c
    pub known : (x : Match) → In x c → x.node < size t
    pub rising : Rising t c

  ordered_rest : (m : Match) (i : ℕ → Nest) (r : Nest) → Ordered (kept m i r) → Ordered r
  ordered_rest m i r o = record { apart = o.apart.2; known = λ x p. o.known x (later p); rising = o.rising.2 }

  ordered_inner : (m : Match) (i : ℕ → Nest) (r : Nest) → Ordered (kept m i r) → (k : ℕ) → Ordered (i k)
  ordered_inner m i r o k = record { apart = o.apart.1 k; known = λ x p. o.known x (In-inside k p); rising = o.rising.1 k }

  -- behind a row, at a place that was known, and at its slots
  ordered_behind : (r : Placed) (l : List Placed) (p : Place) → Ordered (shown (r ∷ l) p) → Ordered (shown l p)
  unfolding shown
  ordered_behind r l p o = go (same p r.place) o
    where
      inner : ℕ → Nest
      inner k = shown l (inside r.match k)

      go : (b : Bool) → Ordered (cond b (kept r.match inner (shown l p)) (shown l p)) → Ordered (shown l p)
      go true o = ordered_rest r.match inner (shown l p) o
      go false o = o

  ordered_own : (r : Placed) (l : List Placed) → Ordered (shown (r ∷ l) r.place) → (k : ℕ) → Ordered (shown l (inside r.match k))
  unfolding shown
  ordered_own r l o k =
      ordered_inner r.match (λ k. shown l (inside r.match k)) (shown l r.place) (rw (same_self r.place) at o) k

  abbrev AllOrdered : (Place → Type 0) → List Placed → Type 0
  AllOrdered P l = (p : Place) → P p → Ordered (shown l p)

  ordered_next : (P : Place → Type 0) (r : Placed) (l : List Placed) → P r.place → AllOrdered P (r ∷ l) → AllOrdered (Known P r.match) l
  ordered_next P r l h f p (old q) = ordered_behind r l p (f p q)
  ordered_next P r l h f p (own k e) = rw e (ordered_own r l (f r.place h) k)

  ordered_slot : (P : Place → Type 0) (a : List Placed) (r : Placed) (b : List Placed) → AllPlaced P (a ++ (r ∷ b)) → AllOrdered P (a ++ (r ∷ b))
      → (k : ℕ) → Ordered (shown b (inside r.match k))
  ordered_slot P [] r b g f k = ordered_next P r b g.0 f (inside r.match k) (own k refl)
  ordered_slot P (x ∷ a) r b g f k = ordered_slot (Known P x.match) a r b g.1 (ordered_next P x (a ++ (r ∷ b)) g.0 f) k

-- THE SLOTS of the rows of matches
module _ (t : Elems) {n : ℕ} (laws : Laws t n) {T : Type 0} (render : Match → (ℕ → List (Item T)) → T) where
  pub slot_items : (ms : List Match) → Ordered t (shown (rows t ms []) outer)
      → (a : List Placed) (r : Placed) (b : List Placed) → rows t ms [] ≡ a ++ (r ∷ b)
      → (k : ℕ) → items t render (shown b (inside r.match k)) ≡ laid t render (shown b (inside r.match k))
  slot_items ms o a r b e k =
      let P : Place → Type 0 = λ p. p ≡ outer in
      let s = ordered_slot t P a r b (subst (AllPlaced P) e (placed_all t ms [] tt))
      (λ p q. rw q (subst (λ (l : List Placed). Ordered t (shown l outer)) e o)) k in
      items-laid t laws render (shown b (inside r.match k)) s.apart s.known s.rising
