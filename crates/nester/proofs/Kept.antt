-- Demand 3, the collections: in each no node equals another or is its ancestor; and a match is dropped exactly when it meets a kept one that
-- has no captured range holding it.
-- Assumes nothing.
use Prim.Native.Nat.{ℕ, ◌<◌, ◌≤◌}
use mathlib.Core.Path.{◌≡◌, refl, sym, ap, subst, ◌∙◌}
use mathlib.Core.List.{List, [], ◌∷◌, ◌++◌, Memᴰ}
use mathlib.Core.Bool.{Bool, true, false, cond, true≢false}
use mathlib.Core.Logic.{◌⊎◌, inl, inr, ⊎_elim, ◌↔◌}
use native.Mathlib.Omega.{arith}
use lib.Dec.{eqb}
use borrow.Author.Tests.{eqb-true, eq-eqb}
use Rattle.std.specs.Prelude.{Option, None, Some}
use Rattle.words.proofs.TestLaws.{same_or, low_or, never}
use Rattle.syntax.specs.Trees.{Elems, size}
use Rattle.syntax.specs.Accessors.{depth_of}
use Rattle.captures.specs.Attempts.{Attempt}
use Rattle.candidates.specs.Candidates.{Pairs}
use Rattle.nester.specs.Matches.{Match, matches}
use Rattle.nester.specs.Nest.{Nest, none, kept, empty, change, sent, over, above, holding, come, nest, Meets, here, past, down, Stop, Unrelated, Alone, Apart, In, first, inside, later}
use Rattle.nester.specs.Collections.{Collections}
use Rattle.nester.proofs.Lists.{All, Pairwise, all_map, all_zip, all_mem, pairs-front, pairs_back}
use Rattle.nester.proofs.Lines.{Laws}
use Rattle.nester.proofs.Order.{Is, ComesFirst, by_depth, by_rule, by_node, no_deeper, all_is, in_order}

module _ (t : Elems) where
  -- m comes to c, which becomes d, and is kept or not: the view of `come` by which all below is proved
  pub data Comes (m : Match) : Bool → Nest → Nest → Type 0 where
    ends : Comes m true none (kept m empty none)
    by : {x : Match} {i : ℕ → Nest} {r s : Nest} {b : Bool} → above t x m ≡ false → Comes m b r s → Comes m b (kept x i r) (kept x i s)
    drop : {x : Match} {i : ℕ → Nest} {r : Nest} → above t x m ≡ true → holding t x m ≡ None → Comes m false (kept x i r) (kept x i r)
    goes : {x : Match} {i : ℕ → Nest} {r c : Nest} {b : Bool} {k : ℕ} → above t x m ≡ true → holding t x m ≡ Some k → Comes m b (i k) c → Comes m b (kept x i r) (kept x (change k c i) r)

  pub record Came (m : Match) (c d : Nest) : Type 0 where
    pub stays : Bool
    pub by : Comes m stays c d

  pub comes : (m : Match) (c : Nest) → Came m c (come t m c)
  unfolding come
  comes m none = record { stays = true; by = ends }
  comes m (kept x i r) = go (above t x m) refl (holding t x m) refl (λ k. comes m (i k)) (comes m r)
    where
      go : (b : Bool) → above t x m ≡ b → (s : Option ℕ) → holding t x m ≡ s → ((k : ℕ) → Came m (i k) (come t m (i k))) → Came m r (come t m r)
          → Came m (kept x i r) (cond b (sent s x i r (λ k. come t m (i k))) (kept x i (come t m r)))
      go true e None h f g = record { stays = false; by = drop e h }
      go true e (Some k) h f g = record { stays = (f k).stays; by = goes e h (f k).by }
      go false e s h f g = record { stays = g.stays; by = by e g.by }

  -- the k-th collection is changed, the others stay
  pub at-change : (P : ℕ → Nest → Nest → Type 0) {c : Nest} {i : ℕ → Nest} {k : ℕ} → P k (i k) c → ((j : ℕ) → P j (i j) (i j)) → (j : ℕ) → P j (i j) (change k c i j)
  at-change P {c} {i} {k} p q j = go (eqb j k) refl
    where
      go : (b : Bool) → eqb j k ≡ b → P j (i j) (cond b c (i j))
      go true z = rw (eqb-true j k z) p
      go false z = q j

  abbrev NotEmpty : Nest → Type 0
  NotEmpty none = ⊥
  NotEmpty (kept x i r) = Unit {0}

  pub some : {y : Match} {c : Nest} → In y c → NotEmpty c
  some (first p) = tt
  some (inside k p) = tt
  some (later p) = tt

  -- who is in d: who was in c, and m if it stays
  in_old : {m y : Match} {b : Bool} {c d : Nest} → Comes m b c d → In y c → In y d
  in_old ends p = elim p [ ]
  in_old (by e q) (first p) = first p
  in_old (by e q) (inside k p) = inside k p
  in_old (by e q) (later p) = later (in_old q p)
  in_old (drop e h) p = p
  in_old (goes e h q) (first p) = first p
  in_old {y = y} (goes {i = i} {c = c} {k = k} e h q) (inside j p) = inside j (at-change (λ j a b. In y a → In y b) {c = c} {i = i} {k = k} (λ p. in_old q p) (λ j p. p) j p)
  in_old (goes e h q) (later p) = later p

  in_new : {m : Match} {b : Bool} {c d : Nest} → Comes m b c d → b ≡ true → In m d
  in_new ends z = first refl
  in_new (by e q) z = later (in_new q z)
  in_new (drop e h) z = absurd (true≢false (sym z))
  in_new {m} (goes {i = i} {c = c} {k = k} e h q) z = inside {inner = change k c i} k (rw (eq-eqb k k refl) (in_new q z))

  -- and nobody else
  in_only : {m y : Match} {b : Bool} {c d : Nest} → Comes m b c d → In y d → In y c ⊎ ((y ≡ m) × (b ≡ true))
  in_only ends (first p) = inr (p, refl)
  in_only ends (inside k p) = absurd (some p)
  in_only ends (later p) = absurd (some p)
  in_only (by e q) (first p) = inl (first p)
  in_only (by e q) (inside k p) = inl (inside k p)
  in_only (by e q) (later p) = ⊎_elim (λ o. inl (later o)) (λ n. inr n) (in_only q p)
  in_only (drop e h) p = inl p
  in_only (goes e h q) (first p) = inl (first p)
  in_only {m} {y} {b} (goes {i = i} {c = c} {k = k} e h q) (inside j p) =
      ⊎_elim (λ o. inl (inside j o)) (λ n. inr n) (at-change (λ j a d. In y d → In y a ⊎ ((y ≡ m) × (b ≡ true))) {c = c} {i = i} {k = k} (λ p. in_only q p) (λ j p. inl p) j p)
  in_only (goes e h q) (later p) = inl (later p)

  -- THE DROPPED: m does not stay exactly where it meets one that has no captured range holding it
  stops : {m : Match} {b : Bool} {c d : Nest} → Comes m b c d → b ≡ false → Stop t m c
  stops ends z = absurd (true≢false z)
  stops (by e q) z = let s = stops q z in record { at = s.at; met = past e s.met; no = s.no }
  stops (drop {x = x} e h) z = record { at = x; met = here refl e; no = h }
  stops (goes e h q) z = let s = stops q z in record { at = s.at; met = down e h s.met; no = s.no }

  ne_slot : {s : Option ℕ} {k : ℕ} → s ≡ Some k → s ≡ None → ⊥
  ne_slot p q = let z : ◌≡◌ {A = ℕ} 0 1 = cc in omega arith

  stopped : {m x : Match} {b : Bool} {c d : Nest} → Comes m b c d → Meets t m x c → holding t x m ≡ None → b ≡ false
  stopped ends p n = elim p [ ]
  stopped (by e q) (here p e') n = absurd (true≢false (sym e' ∙ e))
  stopped (by e q) (past e' p) n = stopped q p n
  stopped (by e q) (down e' h' p) n = absurd (true≢false (sym e' ∙ e))
  stopped (drop e h) p n = refl
  stopped (goes e h q) (here p e') n = absurd (ne_slot h (rw p at n))
  stopped (goes e h q) (past e' p) n = absurd (true≢false (sym e ∙ e'))
  stopped (goes {k = k} e h q) (down {k = j} e' h' p) n = let z : j ≡ k = cc in stopped q (rw z at p) n

  -- who is met is kept, and on the node or an ancestor
  pub met_in : {m y : Match} {c : Nest} → Meets t m y c → In y c
  met_in (here p e) = first p
  met_in (past e p) = later (met_in p)
  met_in (down {k = k} e h p) = inside k (met_in p)

  pub met-above : {m y : Match} {c : Nest} → Meets t m y c → above t y m ≡ true
  met-above (here p e) = rw p e
  met-above (past e p) = met-above p
  met-above (down e h p) = met-above p

  -- THE COLLECTIONS: unrelated matches stay so
  alone : (x : Match) {m : Match} {b : Bool} {c d : Nest} → Unrelated t x.node m.node → Comes m b c d → Alone t x c → Alone t x d
  alone x u ends a = (u, tt)
  alone x u (by e q) a = (a.0, alone x u q a.1)
  alone x u (drop e h) a = a
  alone x u (goes e h q) a = a

  -- x may come before m: where x is not on m's node or an ancestor, m is not on x's
  abbrev pub Heeds : Match → Match → Type 0
  Heeds x m = above t x m ≡ false → above t m x ≡ false

  -- so it is with each match in a collection when m comes to it
  abbrev Earlier : Match → Nest → Type 0
  Earlier m c = (x : Match) → In x c → Heeds x m

  apart : {m : Match} {b : Bool} {c d : Nest} → Comes m b c d → Earlier m c → Apart t c → Apart t d
  apart ends f a = (tt, λ k. tt, tt)
  apart {m} (by {x = x} e q) f a =
      (alone x (record { down = e; up = f x (first refl) e }) q a.0, a.1, apart q (λ y p. f y (later p)) a.2)
  apart (drop e h) f a = a
  apart (goes {i = i} {c = c} {k = k} e h q) f a = (a.0, at-change (λ j a d. Apart t d) {c = c} {i = i} {k = k} (apart q (λ y p. f y (inside k p)) (a.1 k)) a.1, a.2)

  -- THE WHOLE: from a collection on, for matches that come by depth
  in_after : (l : List Match) {y : Match} {c : Nest} → In y c → In y (nest t l c)
  unfolding nest
  in_after [] p = p
  in_after (m ∷ l) {c = c} p = in_after l (in_old (comes m c).by p)

  pub in_from : (l : List Match) {y : Match} (c : Nest) → In y (nest t l c) → In y c ⊎ Memᴰ y l
  unfolding nest
  in_from [] c p = inl p
  in_from (m ∷ l) {y} c p = ⊎_elim (λ o. ⊎_elim (λ q. inl q) (λ q. inr (Memᴰ.head q.0)) (in_only (comes m c).by o)) (λ q. inr (Memᴰ.tail q)) (in_from l (come t m c) p)

  nest-append : (a b : List Match) (c : Nest) → nest t (a ++ b) c ≡ nest t b (nest t a c)
  unfolding nest
  nest-append [] b c = refl
  nest-append (m ∷ a) b c = nest-append a b (come t m c)

  -- what stays true of a collection when a match comes to it that stands to all there as R says, holds of all that come so in turn
  module _ (R : Match → Match → Type 0) (P : Nest → Type 0) (stays : (m : Match) (b : Bool) (c d : Nest) → Comes m b c d → ((x : Match) → In x c → R x m) → P c → P d) where
    each_stays : {l : List Match} (c : Nest) → Pairwise R l → All (λ m. (x : Match) → In x c → R x m) l → P c → P (nest t l c)
    unfolding nest
    each_stays c Pairwise.nil All.nil a = a
    each_stays c (Pairwise.more {x = m} q qs) (All.more f fs) a =
        each_stays (come t m c) qs
        (all_zip (λ z g d y i. ⊎_elim (λ o. g y o) (λ e. subst (λ (u : Match). R u z) (sym e.0) d) (in_only (comes m c).by i)) fs q) (stays m (comes m c).stays c (come t m c) (comes m c).by f a)

    pub all_stays : (l : List Match) → Pairwise R l → P none → P (nest t l none)
    all_stays l h = each_stays none h (nobody l)
      where
        nobody : (l : List Match) → All (λ m. (x : Match) → In x none → R x m) l
        nobody [] = All.nil
        nobody (m ∷ l) = All.more (λ x i. absurd (some i)) (nobody l)

  -- matches of which each may come before those behind it
  pub apart_all : (l : List Match) → Pairwise Heeds l → Apart t (nest t l none)
  apart_all l h = all_stays Heeds (λ c. Apart t c) (λ m b c d q f a. apart q f a) l h tt

  -- A match is dropped exactly when it meets a kept match that has no captured range holding it.
  not_kept : (a b : List Match) (m : Match) → (Memᴰ m a → ⊥) → (Memᴰ m b → ⊥) → (In m (nest t (a ++ (m ∷ b)) none) → ⊥) ↔ Stop t m (nest t a none)
  unfolding nest
  not_kept a b m na nb = rw (nest-append a (m ∷ b) none) (to, from)
    where
      came : Came m (nest t a none) (come t m (nest t a none))
      came = comes m (nest t a none)

      to : (In m (nest t b (come t m (nest t a none))) → ⊥) → Stop t m (nest t a none)
      to f = go came.stays refl
        where
          go : (s : Bool) → came.stays ≡ s → Stop t m (nest t a none)
          go true e = absurd (f (in_after b (in_new came.by e)))
          go false e = stops came.by e

      from : Stop t m (nest t a none) → In m (nest t b (come t m (nest t a none))) → ⊥
      from s p =
          ⊎_elim
          (λ o. ⊎_elim (λ q. ⊎_elim (λ z. some z) na (in_from a none q)) (λ q. true≢false (sym q.1 ∙ stopped came.by s.met s.no)) (in_only came.by o))
          nb
          (in_from b (come t m (nest t a none)) p)

-- Demand 3, of the matches of a job.
module _ (t : Elems) (rules : ℕ) (attempt : ℕ → ℕ → Attempt) (pairs : Pairs) where
  abbrev the_matches : List Match
  the_matches = matches t rules attempt pairs

  -- by depth, a match may come before those behind it
  heeds : {n : ℕ} → Laws t n → (x m : Match) → x.node < size t → depth_of x.node t ≤ depth_of m.node t → Heeds t x m
  heeds laws x m low d e =
      never (above t m x) (λ o. same_or m.node x.node
      (λ q. true≢false (sym (laws.self x.node low) ∙ subst (λ (i : ℕ). over t x.node i ≡ false) q e))
      (λ ne. omega (arith, ne, laws.low m.node x.node low o, laws.deeper m.node x.node low (omega (arith, ne, laws.low m.node x.node low o)) o)))

  pub matches_heed : {n : ℕ} → Laws t n → Pairwise (Heeds t) the_matches
  matches_heed laws = go (all_is t rules attempt pairs) (in_order t rules attempt pairs)
    where
      go : {l : List Match} → All (Is t rules attempt pairs) l → Pairwise (ComesFirst t rules attempt pairs) l → Pairwise (Heeds t) l
      go All.nil Pairwise.nil = Pairwise.nil
      go (All.more {x = x} i is) (Pairwise.more p ps) = Pairwise.more (all_map (λ y o. heeds laws x y i.node (no_deeper t rules attempt pairs o)) p) (go is ps)

  -- in each collection, outer or nested, no node equals another or is its ancestor
  pub each-collection : {n : ℕ} → Laws t n → Apart t (nest t the_matches none)
  each-collection laws = apart_all t the_matches (matches_heed laws)

  pub not_self : {x y : Match} → ComesFirst t rules attempt pairs x y → x ≡ y → ⊥
  not_self (by_depth h) e = omega (arith, ap (λ (m : Match). depth_of m.node t) e)
  not_self (by_rule e' h) e = omega (arith, ap (λ (m : Match). m.rule) e)
  not_self (by_node e' i h) e = omega (arith, ap (λ (m : Match). m.node) e)

  -- A match is dropped exactly when, coming after the matches a, it meets a kept match, on its node or an ancestor, that has no captured
  -- range holding it.
  pub dropped_exactly : (a b : List Match) (m : Match) → the_matches ≡ a ++ (m ∷ b) → (In m (nest t the_matches none) → ⊥) ↔ Stop t m (nest t a none)
  dropped_exactly a b m e =
      rw e (not_kept t a b m
      (λ i. not_self (all_mem (pairs-front m b a order) i) refl)
      (λ i. not_self (all_mem (pairs_back m b a order) i) refl))
    where
      order : Pairwise (ComesFirst t rules attempt pairs) (a ++ (m ∷ b))
      order = rw e at (in_order t rules attempt pairs)

  -- and the one met stays kept, and is on its node or an ancestor
  pub met-kept : (a b : List Match) (m x : Match) → the_matches ≡ a ++ (m ∷ b) → Meets t m x (nest t a none) → In x (nest t the_matches none) × (above t x m ≡ true)
  met-kept a b m x e p = (rw (e, nest-append t a (m ∷ b) none) (in_after t (m ∷ b) (met_in t p)), met-above t p)

  -- every kept match is one of the job's
  pub kept_is : (y : Match) → In y (nest t the_matches none) → Is t rules attempt pairs y
  kept_is y p = ⊎_elim (λ o. absurd (some t o)) (λ q. all_mem (all_is t rules attempt pairs) q) (in_from t the_matches none p)

  -- THE COLLECTIONS of a job are as demand 3 says
  pub collections : {n : ℕ} → Laws t n → Collections t rules attempt pairs
  collections laws = record { apart = each-collection laws; dropped = dropped_exactly; met = met-kept }

-- "that one": two that m meets in one collection would be related
pub only_one : (t : Elems) {n : ℕ} → Laws t n → (x y m : Match) → m.node < size t → above t x m ≡ true → above t y m ≡ true → Unrelated t x.node y.node → ⊥
only_one t laws x y m h p q u =
    low_or x.node y.node
    (λ l. true≢false (sym (laws.line x.node y.node m.node h (omega arith) p q) ∙ u.down))
    (λ l. true≢false (sym (laws.line y.node x.node m.node h l q p) ∙ u.up))
