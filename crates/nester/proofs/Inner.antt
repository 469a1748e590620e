-- What rendering needs of the nested collections: each match there lies in the captured range that the collection belongs to; and matches
-- that come by element stand by element in each collection.
-- Assumes nothing.
use Prim.Native.Nat.{ℕ, ◌<◌, ◌≤◌}
use mathlib.Core.Path.{◌≡◌, refl, ◌∙◌}
use mathlib.Core.List.{List, [], ◌∷◌}
use mathlib.Core.Bool.{Bool, true, false≢true}
use lib.ListN.{get_or}
use lib.Dec.{leb}
use borrow.Author.Tests.{leb-true, le-leb}
use Rattle.std.proofs.lemmas.List.Quantifiers.{position-Some}
use Rattle.std.specs.Prelude.{Option, None, Some}
use Rattle.words.proofs.TestLaws.{and_both}
use Rattle.syntax.specs.Trees.{Elems, size}
use Rattle.captures.specs.declared.Binding.{Binding}
use Rattle.nester.specs.Matches.{Match}
use Rattle.nester.specs.Nest.{Nest, none, kept, holds, above, holding, start_at, end_at, nest, Apart, In, first, inside, later}
use Rattle.nester.specs.Places.{Item, items, listed, laid}
use Rattle.nester.proofs.Lists.{All, Pairwise, all_zip}
use Rattle.nester.proofs.Lines.{Laws}
use Rattle.nester.proofs.Kept.{Comes, ends, by, drop, goes, at-change, all_stays}
use Rattle.nester.proofs.Placing.{Known, Aparts, item, row_known, row_alone, by_element_lem, insert-first}

-- of each match of a collection, not of those inside it
abbrev pub Each : (Match → Type 0) → Nest → Type 0
Each P none = Unit {0}
Each P (kept x i r) = P x × Each P r

module _ (t : Elems) where
  -- m came from x to x's k-th collection
  pub record From (x : Match) (k : ℕ) (m : Match) : Type 0 where
    pub up : above t x m ≡ true
    pub by : holding t x m ≡ Some k

  -- In a collection, and in each one inside it, each match of a captured range's collection came there from its holder.
  abbrev pub Within : Nest → Type 0
  Within none = Unit {0}
  Within (kept x i r) = ((k : ℕ) → Each (From x k) (i k)) × ((k : ℕ) → Within (i k)) × Within r

  pub top : (P : Match → Type 0) {m : Match} {b : Bool} {c d : Nest} → Comes t m b c d → P m → Each P c → Each P d
  top P ends p a = (p, tt)
  top P (by e q) p a = (a.0, top P q p a.1)
  top P (drop e h) p a = a
  top P (goes e h q) p a = a

  pub within : {m : Match} {b : Bool} {c d : Nest} → Comes t m b c d → Within c → Within d
  within ends a = (λ k. tt, λ k. tt, tt)
  within (by e q) a = (a.0, a.1, within q a.2)
  within (drop e h) a = a
  within {m} (goes {x = x} {i = i} {c = c} {k = k} e h q) a = (
    at-change t (λ j u d. Each (From x j) d) {c = c} {i = i} {k = k} (top (From x k) q (record { up = e; by = h }) (a.0 k)) a.0,
    at-change t (λ j u d. Within d) {c = c} {i = i} {k = k} (within q (a.1 k)) a.1,
    a.2,
  )

  pub all-within : (l : List Match) → Within (nest t l none)
  all-within l = all_stays t (λ x y. Unit {0}) Within (λ m b c d q f a. within q a) l (anyhow l) tt
    where
      any : (x : Match) (l : List Match) → All (λ y. Unit {0}) l
      any x [] = All.nil
      any x (y ∷ l) = All.more tt (any x l)

      anyhow : (l : List Match) → Pairwise (λ x y. Unit {0}) l
      anyhow [] = Pairwise.nil
      anyhow (x ∷ l) = Pairwise.more (any x l) (anyhow l)

-- the k-th binding is there and holds s to e
pub record Holds (l : List (Option Binding)) (k s e : ℕ) : Type 0 where
  pub captured : Binding
  pub is : get_or l k None ≡ Some captured
  pub low : captured.start ≤ s
  pub high : e ≤ captured.end

holds_at : (l : List (Option Binding)) (k s e : ℕ) (b : Option Binding) → get_or l k None ≡ b → holds b s e ≡ true → Holds l k s e
holds_at l k s e None i h = absurd (false≢true h)
holds_at l k s e (Some b) i h =
    let u = and_both (leb b.start s) (leb e b.end) h in record { captured = b; is = i; low = leb-true _ _ u.0; high = leb-true _ _ u.1 }

-- A NESTED MATCH lies in its captured range
pub in_range : (t : Elems) (x m : Match) (k : ℕ) → From t x k m → Holds x.bindings k (start_at t m.node) (end_at t m.node)
in_range t x m k f =
    let s = start_at t m.node in
    let e = end_at t m.node in
    let h = position-Some (λ (b : Option Binding). holds b s e) x.bindings k None f.by in
    holds_at x.bindings k s e (get_or x.bindings k None) refl h.1

-- BY ELEMENT
module _ (t : Elems) where
  -- in the collection, and in each one inside it, no match is on a lower node than one kept earlier
  abbrev pub Rising : Nest → Type 0
  Rising none = Unit {0}
  Rising (kept x i r) = Each (λ y. x.node ≤ y.node) r × ((k : ℕ) → Rising (i k)) × Rising r

  rising : {m : Match} {b : Bool} {c d : Nest} → Comes t m b c d → ((x : Match) → In x c → x.node ≤ m.node) → Rising c → Rising d
  rising ends f a = (tt, λ k. tt, tt)
  rising (by {x = x} e q) f a = (top t (λ y. x.node ≤ y.node) q (f x (first refl)) a.0, a.1, rising q (λ y p. f y (later p)) a.2)
  rising (drop e h) f a = a
  rising (goes {i = i} {c = c} {k = k} e h q) f a = (a.0, at-change t (λ j u d. Rising d) {c = c} {i = i} {k = k} (rising q (λ y p. f y (inside k p)) (a.1 k)) a.1, a.2)

  pub all_rising : (l : List Match) → Pairwise (λ x y. x.node ≤ y.node) l → Rising (nest t l none)
  all_rising l h = all_stays t (λ x y. x.node ≤ y.node) Rising (λ m b c d q f a. rising q f a) l h tt

module _ (t : Elems) {n : ℕ} (laws : Laws t n) {T : Type 0} (render : Match → (ℕ → List (Item T)) → T) where
  each-listed : (x : Match) (c : Nest) → Each (λ y. x.node ≤ y.node) c → All (λ (y : Item T). x.node ≤ y.node) (listed t render c)
  unfolding listed
  each-listed x none a = All.nil
  each-listed x (kept y i r) a = All.more a.0 (each-listed x r a.1)

  -- such a collection is kept in the order of the file
  pub items-listed : (c : Nest) → Apart t c → ((x : Match) → In x c → x.node < size t) → Rising t c → items t render c ≡ listed t render c
  unfolding items listed
  items-listed none a f s = refl
  items-listed (kept m i r) a f s =
      let f' : (x : Match) → In x r → x.node < size t = λ y q. f y (later q) in
      let k = f m (first refl) in
      let x = item t render m i in
      let good : All (λ (y : Item T). Known t laws y × Aparts t laws x y) (listed t render r) = all_zip (λ y o u. (o, u)) (row_known t laws render r f') (row_alone t laws render m i r a.0) in
      rw (items-listed r a.2 f' s.2)
      (insert-first t x (listed t render r) (all_zip (λ y l o. by_element_lem t laws x y k o.0 o.1 ∙ le-leb x.node y.node l) (each-listed m r s.0) good))

  listed-laid : (c : Nest) → Apart t c → ((x : Match) → In x c → x.node < size t) → Rising t c → listed t render c ≡ laid t render c
  unfolding listed laid
  listed-laid none a f s = refl
  listed-laid (kept m i r) a f s =
      let f' : (k : ℕ) (x : Match) → In x (i k) → x.node < size t = λ k y q. f y (inside k q) in
      let inner : (k : ℕ) → items t render (i k) ≡ laid t render (i k) = λ k. items-listed (i k) (a.1 k) (f' k) (s.1 k) ∙ listed-laid (i k) (a.1 k) (f' k) (s.1 k) in
      let rest = listed-laid r a.2 (λ y q. f y (later q)) s.2 in
      λ d. record { node = m.node; what = render m (λ k. inner k d) } ∷ rest d

  -- and so are those inside it
  pub items-laid : (c : Nest) → Apart t c → ((x : Match) → In x c → x.node < size t) → Rising t c → items t render c ≡ laid t render c
  items-laid c a f s = items-listed c a f s ∙ listed-laid c a f s
