-- THE ORDER OF COMING: by depth, rule and node, or by element and rule, the collections in the order of the file are the same. On one line
-- of ancestors both orders agree, and matches on unrelated nodes may come in either order.
-- Assumes nothing.
use Prim.Native.Nat.{ℕ, ◌<◌, ◌≤◌}
use mathlib.Core.Path.{◌≡◌, refl, sym, ap, subst, ◌∙◌}
use mathlib.Core.Logic.{⊎_elim}
use mathlib.Core.List.Memᴰ
use mathlib.Core.List.{List, [], ◌∷◌, ◌++◌, Memᴰ}
use mathlib.Core.Bool.{false, true≢false}
use native.Mathlib.Omega.{arith}
use Rattle.words.proofs.TestLaws.{same_or, never}
use Rattle.syntax.specs.Trees.{Elems, size}
use Rattle.syntax.specs.Accessors.{depth_of}
use Rattle.captures.specs.Attempts.{Attempt}
use Rattle.candidates.specs.Candidates.{Pairs}
use Rattle.nester.specs.Matches.{Match, matches, by_element}
use Rattle.nester.specs.Nest.{Nest, none, over, above, come, nest, In, Apart}
use Rattle.nester.specs.Fates.{Placed, outer, rows, shown}
use Rattle.nester.specs.Rows.{rows_in, matches_in, Nested}
use Rattle.nester.specs.declared.Row.{Row}
use Rattle.nester.specs.Places.{Item, items, listed, laid}
use Rattle.nester.proofs.Lists.{All, Pairwise, all_map, all_mem, all_of, all_append, pairwise_map, pairs-front, pairs_back}
use Rattle.nester.proofs.Lines.{Laws}
use Rattle.nester.proofs.Order.{Is, ComesFirst, by_depth, by_rule, by_node, no_deeper, all_is, in_order, all_there, StandsFirst, lower_node, lower_rule, each_is, by_element_lem, each_there}
use Rattle.nester.proofs.Kept.{Heeds, apart_all, some, in_from, not_self}
use Rattle.nester.proofs.Inner.{Rising, all_rising, items-listed, items-laid}
use Rattle.nester.proofs.Shown.{Other, shows}
use Rattle.nester.proofs.Alike.{Free, Alike, same, both, come_alike, tie, items_alike}

-- one of a list, with those before it and those behind it
record Split (x : Match) (l : List Match) : Type 0 where
  front : List Match
  back : List Match
  is : l ≡ front ++ (x ∷ back)

split : {x : Match} {l : List Match} → Memᴰ x l → Split x l
split (Memᴰ.head {xs = l} e) = record { front = []; back = l; is = λ i. sym e i ∷ l }
split (Memᴰ.tail {x = y} m) = let s = split m in record { front = y ∷ s.front; back = s.back; is = ap (λ (l : List Match). y ∷ l) s.is }

-- without it
drop_all : {P : Match → Type 0} (x : Match) (a b : List Match) → All P (a ++ (x ∷ b)) → All P (a ++ b)
drop_all x [] b (All.more p ps) = ps
drop_all x (y ∷ a) b (All.more p ps) = All.more p (drop_all x a b ps)

drop-pairs : {R : Match → Match → Type 0} (x : Match) (a b : List Match) → Pairwise R (a ++ (x ∷ b)) → Pairwise R (a ++ b)
drop-pairs x [] b (Pairwise.more p ps) = ps
drop-pairs x (y ∷ a) b (Pairwise.more p ps) = Pairwise.more (drop_all x a b p) (drop-pairs x a b ps)

module _ (t : Elems) {n : ℕ} (laws : Laws t n) where
  abbrev Known : Match → Type 0
  Known m = m.node < size t

  nest_alike : (l : List Match) → All Known l → {c d : Nest} → Alike t c d → Alike t (nest t l c) (nest t l d)
  unfolding nest
  nest_alike [] k a = a
  nest_alike (m ∷ l) (All.more k ks) a = nest_alike l ks (come_alike t laws m k a)

  -- one that is unrelated to all before it may come first
  to_front : (a : List Match) (x : Match) (b : List Match) (c : Nest) → All Known a → All Known b → All (λ y. Free t x y) a → Alike t (nest t (a ++ (x ∷ b)) c) (nest t (x ∷ (a ++ b)) c)
  unfolding nest
  to_front [] x b c k kb f = same
  to_front (y ∷ a) x b c (All.more k ks) kb (All.more f fs) =
      both (to_front a x b (come t y c) ks kb fs) (nest_alike (a ++ b) (all_append ks kb) (tie t x y f c))

  -- two orders of the same matches that agree on related ones
  module _ (R S : Match → Match → Type 0) (not-R : (x y : Match) → R x y → x ≡ y → ⊥) (not-S : (x y : Match) → S x y → x ≡ y → ⊥)
      (free : (x y : Match) → Known x → Known y → R x y → S y x → Free t y x) where
    either_order : (l m : List Match) → All Known l → Pairwise R l → Pairwise S m → ((x : Match) → Memᴰ x l → Memᴰ x m) → ((x : Match) → Memᴰ x m → Memᴰ x l)
        → (c : Nest) → Alike t (nest t l c) (nest t m c)
    unfolding nest
    either_order [] [] k r s to from c = same
    either_order (x ∷ l) [] k r s to from c = absurd (Memᴰ.not-nil (to x (Memᴰ.head refl)))
    either_order l (e ∷ m) k r (Pairwise.more s ss) to from c = go (λ l' k' r' to' from'. either_order l' m k' r' ss to' from' (come t e c)) (split (from e (Memᴰ.head refl)))
      where
        go : ((l' : List Match) → All Known l' → Pairwise R l' → ((x : Match) → Memᴰ x l' → Memᴰ x m) → ((x : Match) → Memᴰ x m → Memᴰ x l') → Alike t (nest t l' (come t e c)) (nest t m (come t e c)))
            → Split e l → Alike t (nest t l c) (nest t (e ∷ m) c)
        go on p =
            let a = p.front in
            let b = p.back in
            let k' : All Known (a ++ (e ∷ b)) = rw p.is at k in
            let r' : Pairwise R (a ++ (e ∷ b)) = rw p.is at r in
            let ab : All Known (a ++ b) = drop_all e a b k' in
            let ke : Known e = all_mem k' (Memᴰ.append_right a (Memᴰ.head refl)) in
            let ka : All Known a = all_of a (λ x i. all_mem k' (Memᴰ.append_left (e ∷ b) i)) in
            let kb : All Known b = all_of b (λ x i. all_mem ab (Memᴰ.append_right a i)) in
            let ra : All (λ y. R y e) a = pairs-front e b a r' in
            let rb : All (R e) b = pairs_back e b a r' in
            let here : (x : Match) → Memᴰ x (a ++ (e ∷ b)) → Memᴰ x l = λ x i. subst (λ (z : List Match). Memᴰ x z) (sym p.is) i in
            let there : (x : Match) → Memᴰ x l → Memᴰ x (a ++ (e ∷ b)) = λ x i. subst (λ (z : List Match). Memᴰ x z) p.is i in
            let behind : (x : Match) → Memᴰ x (a ++ (e ∷ b)) → (x ≡ e → ⊥) → Memᴰ x m = λ x i ne. ⊎_elim (λ q. absurd (ne q)) (λ q. q) (Memᴰ.cases_cons (to x (here x i))) in
            let in-a : (x : Match) → Memᴰ x a → Memᴰ x m = λ x i. behind x (Memᴰ.append_left (e ∷ b) i) (not-R x e (all_mem ra i)) in
            let in_b : (x : Match) → Memᴰ x b → Memᴰ x m = λ x i. behind x (Memᴰ.append_right a (Memᴰ.tail i)) (λ q. not-R e x (all_mem rb i) (sym q)) in
            let to' : (x : Match) → Memᴰ x (a ++ b) → Memᴰ x m = λ x i. ⊎_elim (in-a x) (in_b x) (Memᴰ.append_cases a i) in
            let from' : (x : Match) → Memᴰ x m → Memᴰ x (a ++ b) = λ x i.
            ⊎_elim (λ q. Memᴰ.append_left b q)
            (λ q. ⊎_elim (λ z. absurd (not-S e x (all_mem s i) (sym z))) (λ z. Memᴰ.append_right a z) (Memᴰ.cases_cons q))
            (Memᴰ.append_cases a (there x (from x (Memᴰ.tail i)))) in
            let fa : All (λ y. Free t e y) a = all_of a (λ y i. free y e (all_mem ka i) ke (all_mem ra i) (all_mem s (in-a y i))) in
            subst (λ (z : List Match). Alike t (nest t z c) (nest t (e ∷ m) c)) (sym p.is)
            (both (to_front a e b c ka kb fa) (on (a ++ b) ab (drop-pairs e a b r') to' from'))

-- OF A JOB
module _ (t : Elems) {n : ℕ} (laws : Laws t n) (rules : ℕ) (attempt : ℕ → ℕ → Attempt) (pairs : Pairs) where
  abbrev found : List Match
  found = matches t rules attempt pairs

  abbrev element : List Match
  element = by_element t rules attempt pairs

  not_first : (x y : Match) → StandsFirst t rules attempt pairs x y → x ≡ y → ⊥
  not_first x y (lower_node h) e = omega (arith, ap (λ (m : Match). m.node) e)
  not_first x y (lower_rule i h) e = omega (arith, ap (λ (m : Match). m.rule) e)

  -- y stands before x by element and x comes before y by depth: they are unrelated
  turned : (x y : Match) → x.node < size t → y.node < size t → ComesFirst t rules attempt pairs x y → StandsFirst t rules attempt pairs y x → Free t y x
  turned x y kx ky c (lower_node h) =
      record {
        first = ky;
        second = kx;
        unrelated = record {
          down = never (above t y x) (λ o. omega (arith, laws.deeper y.node x.node kx h o, no_deeper t rules attempt pairs c));
          up = never (above t x y) (λ o. omega (arith, laws.low x.node y.node ky o));
        };
      }
  turned x y kx ky c (lower_rule i h) = absurd (go c)
    where
      d : depth_of y.node t ≡ depth_of x.node t
      d = ap (λ (j : ℕ). depth_of j t) i

      go : ComesFirst t rules attempt pairs x y → ⊥
      go (by_depth l) = omega (arith, d)
      go (by_rule e l) = omega arith
      go (by_node e j l) = omega arith

  -- in both orders the matches meet the same
  pub found_alike : Alike t (nest t found none) (nest t element none)
  found_alike =
      either_order t laws (ComesFirst t rules attempt pairs) (StandsFirst t rules attempt pairs) (λ x y c e. not_self t rules attempt pairs c e) not_first turned found element
      (all_map (λ m o. o.node) (all_is t rules attempt pairs)) (in_order t rules attempt pairs) (by_element_lem t rules attempt pairs)
      (λ x i. each_there t rules attempt pairs x (all_mem (all_is t rules attempt pairs) i))
      (λ x i. let o = all_mem (each_is t rules attempt pairs) i in all_there t rules attempt pairs x (laws.shallow x.node o.node) o)
      none

  pub other : (x y : Match) → StandsFirst t rules attempt pairs x y → Other x y
  other x y (lower_node h) e f = omega arith
  other x y (lower_rule i h) e f = omega arith

  -- the rows show the collection of the matches by element
  pub rows_show : shown (rows t element []) outer ≡ nest t element none
  unfolding shown
  rows_show = shows t element [] Pairwise.nil (pairwise_map other (by_element_lem t rules attempt pairs)) (all_of element (λ m i. All.nil))

  rise : (x y : Match) → StandsFirst t rules attempt pairs x y → x.node ≤ y.node
  rise x y (lower_node h) = omega arith
  rise x y (lower_rule i h) = omega arith

  heed : {l : List Match} → All (Is t rules attempt pairs) l → Pairwise (StandsFirst t rules attempt pairs) l → Pairwise (Heeds t) l
  heed All.nil Pairwise.nil = Pairwise.nil
  heed (All.more {x = x} i is) (Pairwise.more p ps) = Pairwise.more (all_map (λ y o e. one y (rise x y o) e) p) (heed is ps)
    where
      one : (y : Match) → x.node ≤ y.node → above t x y ≡ false → above t y x ≡ false
      one y l e =
          never (above t y x) (λ o. same_or x.node y.node
          (λ q. true≢false (sym (laws.self x.node i.node) ∙ subst (λ (j : ℕ). over t x.node j ≡ false) (sym q) e))
          (λ ne. omega (arith, ne, laws.low y.node x.node i.node o)))

  pub element_apart : Apart t (nest t element none)
  element_apart = apart_all t element (heed (each_is t rules attempt pairs) (by_element_lem t rules attempt pairs))

  pub element_rising : Rising t (nest t element none)
  element_rising = all_rising t element (pairwise_map rise (by_element_lem t rules attempt pairs))

  pub element_known : (x : Match) → In x (nest t element none) → x.node < size t
  element_known x i = ⊎_elim (λ o. absurd (some t o)) (λ q. (all_mem (each_is t rules attempt pairs) q).node) (in_from t element none i)

  -- THE THEOREM: what is rendered of the job's collections, in the order of the file, is what is rendered of the rows by element, as they stand
  pub rows-items : {T : Type 0} (render : Match → (ℕ → List (Item T)) → T) → items t render (nest t found none) ≡ listed t render (shown (rows t element []) outer)
  rows-items render =
      items_alike t laws render found_alike ∙ items-listed t laws render (nest t element none) element_apart element_known element_rising
      ∙ ap (λ (c : Nest). listed t render c) (sym rows_show)

  -- and with those inside them, as they stand
  pub matches-laid : {T : Type 0} (render : Match → (ℕ → List (Item T)) → T) → items t render (nest t found none) ≡ laid t render (shown (rows t element []) outer)
  matches-laid render =
      items_alike t laws render found_alike ∙ items-laid t laws render (nest t element none) element_apart element_known element_rising
      ∙ ap (λ (c : Nest). laid t render c) (sym rows_show)

  -- THE ROWS: rows that are nested, of all matches by element, show what the job renders
  pub rows-laid : {T : Type 0} (render : Match → (ℕ → List (Item T)) → T) (comments : ℕ → ℕ → List ℕ) (before after : List Row) → Nested t before after
      → matches_in comments before ≡ element → items t render (nest t found none) ≡ laid t render (shown (rows_in comments after after) outer)
  rows-laid render comments before after w e =
      matches-laid render ∙ ap (λ (l : List Placed). laid t render (shown l outer)) (sym (w.kept comments ∙ ap (λ (ms : List Match). rows t ms []) e))
