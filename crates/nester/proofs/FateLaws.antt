-- A match's fate depends only on the matches on its line of ancestors, and so is the same in both orders of coming.
-- Assumes nothing.
use Prim.Native.Nat.{ℕ, ◌<◌}
use mathlib.Core.Path.{◌≡◌, refl, sym, ap, subst, ◌∙◌}
use mathlib.Core.Logic.{◌⊎◌, inl, inr, ⊎_elim}
use mathlib.Core.List.Memᴰ
use mathlib.Core.List.{List, [], ◌∷◌, ◌++◌, Memᴰ}
use mathlib.Core.Bool.{Bool, true, false, cond, true≢false}
use native.Mathlib.Omega.{arith}
use borrow.Author.Tests.{eq-eqb, ne_eqb}
use Rattle.std.specs.Option.{option_and_then}
use Rattle.std.specs.Prelude.{Option, None, Some}
use Rattle.words.proofs.TestLaws.{low_or, same_or}
use Rattle.syntax.specs.Trees.{Elems, size}
use Rattle.syntax.specs.Accessors.{depth_of}
use Rattle.captures.specs.Attempts.{Attempt}
use Rattle.candidates.specs.Candidates.{Pairs}
use Rattle.nester.specs.Matches.{Match, matches, by_element}
use Rattle.nester.specs.Nest.{Nest, none, kept, change, above, holding, come, nest}
use Rattle.nester.specs.Fates.{Place, outer, inside, fate_at, fate, walk, rows, shown}
use Rattle.nester.proofs.Lists.{All, Pairwise, all_mem, all_of, pairwise_map, front-pairs, pairs-front, pairs_back}
use Rattle.nester.proofs.Lines.{Laws}
use Rattle.nester.proofs.Order.{Is, ComesFirst, by_depth, by_rule, by_node, no_deeper, all_is, in_order, all_there, StandsFirst, lower_node, lower_rule, each_is, by_element_lem, each_there}
use Rattle.nester.proofs.Kept.{not_self}
use Rattle.nester.proofs.Shown.{shows, walk-fate}
use Rattle.nester.proofs.Alike.{come_by, come-at}
use Rattle.nester.proofs.Orders.{other}

module _ (t : Elems) (m : Match) where
  -- a collection without the matches that are not on m's node or an ancestor, nor what is in them
  unfoldable seen : Nest → Nest
  seen none = none
  seen (kept x i r) = cond (above t x m) (kept x (λ k. seen (i k)) (seen r)) (seen r)

  -- those of a list that are
  unfoldable line : List Match → List Match
  line [] = []
  line (x ∷ l) = cond (above t x m) (x ∷ line l) (line l)

  fate-seen : (p : Place) (c : Nest) → fate_at t p m c ≡ fate_at t p m (seen c)
  unfolding fate_at seen
  fate-seen p none = refl
  fate-seen p (kept x i r) = go (above t x m) refl (λ k. fate-seen (inside x k) (i k)) (fate-seen p r)
    where
      go : (b : Bool) → above t x m ≡ b → ((k : ℕ) → fate_at t (inside x k) m (i k) ≡ fate_at t (inside x k) m (seen (i k))) → fate_at t p m r ≡ fate_at t p m (seen r)
          → cond b (option_and_then (λ k. fate_at t (inside x k) m (i k)) (holding t x m)) (fate_at t p m r) ≡ fate_at t p m (cond b (kept x (λ k. seen (i k)) (seen r)) (seen r))
      go true e inner rest = rw e (λ d. option_and_then (λ k. inner k d) (holding t x m))
      go false e inner rest = rest

  seen-kept : (x : Match) (i : ℕ → Nest) (r : Nest) (b : Bool) → above t x m ≡ b → seen (kept x i r) ≡ cond b (kept x (λ k. seen (i k)) (seen r)) (seen r)
  unfolding seen
  seen-kept x i r b e = rw e

  -- one that comes is seen or not
  module _ (y : Match) (up : (x : Match) → above t x y ≡ true → above t y m ≡ true → above t x m ≡ true) where
    abbrev Stays : Nest → Type 0
    Stays c = seen (come t y c) ≡ cond (above t y m) (come t y (seen c)) (seen c)

    slots : (i : ℕ → Nest) (k : ℕ) (d : Bool) → seen (come t y (i k)) ≡ cond d (come t y (seen (i k))) (seen (i k)) → (j : ℕ)
        → seen (change k (come t y (i k)) i j) ≡ cond d (change k (come t y (seen (i k))) (λ l. seen (i l)) j) (seen (i j))
    slots i k d h j = same_or j k (λ q. go q) (λ ne. other ne)
      where
        go : j ≡ k → seen (change k (come t y (i k)) i j) ≡ cond d (change k (come t y (seen (i k))) (λ l. seen (i l)) j) (seen (i j))
        go q = rw (q, eq-eqb k k refl) h

        other : (j ≡ k → ⊥) → seen (change k (come t y (i k)) i j) ≡ cond d (change k (come t y (seen (i k))) (λ l. seen (i l)) j) (seen (i j))
        other ne = rw (ne_eqb j k ne) (pick d)
          where
            pick : (d : Bool) → seen (i j) ≡ cond d (seen (i j)) (seen (i j))
            pick true = refl
            pick false = refl

    come-first : (d : Bool) → above t y m ≡ d → seen (come t y none) ≡ cond d (come t y (seen none)) (seen none)
    unfolding seen come
    come-first true e = rw e
    come-first false e = rw e

    -- past x, or to x
    come-past : (x : Match) (i : ℕ → Nest) (r : Nest) → Stays r → (b d : Bool) → above t x y ≡ false → above t x m ≡ b → above t y m ≡ d
        → seen (come t y (kept x i r)) ≡ cond d (come t y (seen (kept x i r))) (seen (kept x i r))
    come-past x i r h true true a e f =
        rw (come_by t y x i r a, seen-kept x i (come t y r) true e, seen-kept x i r true e, come_by t y x (λ k. seen (i k)) (seen r) a)
        (ap (λ (c : Nest). kept x (λ k. seen (i k)) c) (rw f at h))
    come-past x i r h true false a e f =
        rw (come_by t y x i r a, seen-kept x i (come t y r) true e, seen-kept x i r true e) (ap (λ (c : Nest). kept x (λ k. seen (i k)) c) (rw f at h))
    come-past x i r h false d a e f =
        rw (come_by t y x i r a, seen-kept x i (come t y r) false e, seen-kept x i r false e) (rw f at h)

    come_to : (x : Match) (i : ℕ → Nest) (r : Nest) → ((k : ℕ) → Stays (i k)) → (b d : Bool) (s : Option ℕ) → above t x y ≡ true → holding t x y ≡ s → above t x m ≡ b → above t y m ≡ d
        → seen (come t y (kept x i r)) ≡ cond d (come t y (seen (kept x i r))) (seen (kept x i r))
    come_to x i r h false true s a g e f = absurd (true≢false (sym (up x a f) ∙ e))
    come_to x i r h false false None a g e f = rw (come-at t y x i r None a g)
    come_to x i r h true true None a g e f =
        rw (come-at t y x i r None a g, seen-kept x i r true e, come-at t y x (λ k. seen (i k)) (seen r) None a g)
    come_to x i r h true false None a g e f = rw (come-at t y x i r None a g)
    come_to x i r h false false (Some k) a g e f =
        rw (come-at t y x i r (Some k) a g, seen-kept x (change k (come t y (i k)) i) r false e, seen-kept x i r false e)
    come_to x i r h true true (Some k) a g e f =
        let inner = slots i k true (rw f at (h k)) in
        rw (come-at t y x i r (Some k) a g, seen-kept x (change k (come t y (i k)) i) r true e, seen-kept x i r true e, come-at t y x (λ k. seen (i k)) (seen r) (Some k) a g)
        (λ d. kept x (λ j. inner j d) (seen r))
    come_to x i r h true false (Some k) a g e f =
        let inner = slots i k false (rw f at (h k)) in
        rw (come-at t y x i r (Some k) a g, seen-kept x (change k (come t y (i k)) i) r true e, seen-kept x i r true e) (λ d. kept x (λ j. inner j d) (seen r))

    seen-come : (c : Nest) → Stays c
    seen-come none = come-first (above t y m) refl
    seen-come (kept x i r) = go (above t x y) refl (λ k. seen-come (i k)) (seen-come r)
      where
        go : (a : Bool) → above t x y ≡ a → ((k : ℕ) → Stays (i k)) → Stays r → Stays (kept x i r)
        go true a inner rest = come_to x i r inner (above t x m) (above t y m) (holding t x y) a refl refl refl
        go false a inner rest = come-past x i r rest (above t x m) (above t y m) a refl refl

  -- all that come: those on the line are seen
  seen-nest : (l : List Match) → All (λ y. (x : Match) → above t x y ≡ true → above t y m ≡ true → above t x m ≡ true) l → (c : Nest) → seen (nest t l c) ≡ nest t (line l) (seen c)
  unfolding nest line
  seen-nest [] a c = refl
  seen-nest (y ∷ l) (All.more u us) c = seen-nest l us (come t y c) ∙ ap (λ (d : Nest). nest t (line l) d) (seen-come y u c) ∙ go (above t y m)
    where
      go : (b : Bool) → nest t (line l) (cond b (come t y (seen c)) (seen c)) ≡ nest t (cond b (y ∷ line l) (line l)) (seen c)
      go true = refl
      go false = refl

  seen_none : seen none ≡ none
  unfolding seen
  seen_none = refl

  fate-line : (l : List Match) → All (λ y. (x : Match) → above t x y ≡ true → above t y m ≡ true → above t x m ≡ true) l → fate t m (nest t l none) ≡ fate t m (nest t (line l) none)
  fate-line l a = fate-seen outer (nest t l none) ∙ ap (λ (c : Nest). fate_at t outer m c) (seen-nest l a none ∙ ap (λ (c : Nest). nest t (line l) c) seen_none)

  -- who is on the line
  line_mem : {x : Match} (l : List Match) → Memᴰ x (line l) → Memᴰ x l × (above t x m ≡ true)
  unfolding line
  line_mem [] i = absurd (Memᴰ.not-nil i)
  line_mem {x} (y ∷ l) i = go (above t y m) refl (λ j. line_mem l j) i
    where
      go : (b : Bool) → above t y m ≡ b → (Memᴰ x (line l) → Memᴰ x l × (above t x m ≡ true)) → Memᴰ x (cond b (y ∷ line l) (line l)) → Memᴰ x (y ∷ l) × (above t x m ≡ true)
      go true e on j = ⊎_elim (λ q. (Memᴰ.head q, subst (λ (z : Match). above t z m ≡ true) (sym q) e)) (λ q. let r = on q in (Memᴰ.tail r.0, r.1)) (Memᴰ.cases_cons j)
      go false e on j = let r = on j in (Memᴰ.tail r.0, r.1)

  mem_line : {x : Match} (l : List Match) → Memᴰ x l → above t x m ≡ true → Memᴰ x (line l)
  unfolding line
  mem_line [] i u = absurd (Memᴰ.not-nil i)
  mem_line {x} (y ∷ l) i u = go (above t y m) refl (λ j. mem_line l j u) (Memᴰ.cases_cons i)
    where
      go : (b : Bool) → above t y m ≡ b → (Memᴰ x l → Memᴰ x (line l)) → (x ≡ y) ⊎ Memᴰ x l → Memᴰ x (cond b (y ∷ line l) (line l))
      go true e on (inl q) = Memᴰ.head q
      go true e on (inr q) = Memᴰ.tail (on q)
      go false e on (inl q) = absurd (true≢false (sym (subst (λ (z : Match). above t z m ≡ true) q u) ∙ e))
      go false e on (inr q) = on q

  line-pairs : {R S : Match → Match → Type 0} (l : List Match) → ((x y : Match) → Memᴰ x l → Memᴰ y l → above t x m ≡ true → above t y m ≡ true → R x y → S x y) → Pairwise R l → Pairwise S (line l)
  unfolding line
  line-pairs [] f Pairwise.nil = Pairwise.nil
  line-pairs {R} {S} (x ∷ l) f (Pairwise.more p ps) = go (above t x m) refl (line-pairs l (λ y z i j. f y z (Memᴰ.tail i) (Memᴰ.tail j)) ps)
    where
      go : (b : Bool) → above t x m ≡ b → Pairwise S (line l) → Pairwise S (cond b (x ∷ line l) (line l))
      go true e rest = Pairwise.more (all_of (line l) (λ y i. let q = line_mem l i in f x y (Memᴰ.head refl) (Memᴰ.tail q.0) e q.1 (all_mem p q.0))) rest
      go false e rest = rest

-- two rising lists of the same matches are equal
module _ (S : Match → Match → Type 0) (not_both : (x y : Match) → S x y → S y x → ⊥) where
  same_list : (l k : List Match) → Pairwise S l → Pairwise S k → ((x : Match) → Memᴰ x l → Memᴰ x k) → ((x : Match) → Memᴰ x k → Memᴰ x l) → l ≡ k
  same_list [] [] p q to from = refl
  same_list [] (y ∷ k) p q to from = absurd (Memᴰ.not-nil (from y (Memᴰ.head refl)))
  same_list (x ∷ l) [] p q to from = absurd (Memᴰ.not-nil (to x (Memᴰ.head refl)))
  same_list (x ∷ l) (y ∷ k) (Pairwise.more p ps) (Pairwise.more q qs) to from =
      let e : x ≡ y = first (Memᴰ.cases_cons (to x (Memᴰ.head refl))) (Memᴰ.cases_cons (from y (Memᴰ.head refl))) in
      λ i. e i ∷ same_list l k ps qs (λ z j. behind z j e) (λ z j. ahead z j e) i
    where
      first : (x ≡ y) ⊎ Memᴰ x k → (y ≡ x) ⊎ Memᴰ y l → x ≡ y
      first (inl e) o = e
      first (inr i) (inl e) = sym e
      first (inr i) (inr j) = absurd (not_both x y (all_mem p j) (all_mem q i))

      behind : (z : Match) → Memᴰ z l → x ≡ y → Memᴰ z k
      behind z j e = ⊎_elim (λ o. let s : S x x = subst (λ (u : Match). S x u) (o ∙ sym e) (all_mem p j) in absurd (not_both x x s s)) (λ o. o) (Memᴰ.cases_cons (to z (Memᴰ.tail j)))

      ahead : (z : Match) → Memᴰ z k → x ≡ y → Memᴰ z l
      ahead z j e = ⊎_elim (λ o. let s : S y y = subst (λ (u : Match). S y u) (o ∙ e) (all_mem q j) in absurd (not_both y y s s)) (λ o. o) (Memᴰ.cases_cons (from z (Memᴰ.tail j)))

-- OF A JOB
module _ (t : Elems) {n : ℕ} (laws : Laws t n) (rules : ℕ) (attempt : ℕ → ℕ → Attempt) (pairs : Pairs) where
  abbrev First : Match → Match → Type 0
  First x y = StandsFirst t rules attempt pairs x y

  abbrev Comes : Match → Match → Type 0
  Comes x y = ComesFirst t rules attempt pairs x y

  not_both : (x y : Match) → First x y → First y x → ⊥
  not_both x y (lower_node h) (lower_node k) = omega arith
  not_both x y (lower_node h) (lower_rule e k) = omega arith
  not_both x y (lower_rule e h) (lower_node k) = omega arith
  not_both x y (lower_rule e h) (lower_rule f k) = omega arith

  -- a list that stands by element and has the job's matches is theirs
  pub the_element_order : (l : List Match) → Pairwise First l → ((x : Match) → Memᴰ x l → Is t rules attempt pairs x)
      → ((x : Match) → Is t rules attempt pairs x → Memᴰ x l) → l ≡ by_element t rules attempt pairs
  the_element_order l p to from =
      same_list First not_both l (by_element t rules attempt pairs) p (by_element_lem t rules attempt pairs)
      (λ x i. each_there t rules attempt pairs x (to x i)) (λ x i. from x (all_mem (each_is t rules attempt pairs) i))

  -- on one line of ancestors both orders agree
  agree : (m x y : Match) → m.node < size t → x.node < size t → above t x m ≡ true → above t y m ≡ true → Comes x y → First x y
  agree m x y km kx u v c =
      low_or x.node y.node (λ l. lower_node l)
      (λ l. same_or y.node x.node (λ q. on-node q c)
      (λ ne. absurd (omega (arith, no_deeper t rules attempt pairs c, laws.deeper y.node x.node kx (omega (arith, ne)) (laws.line y.node x.node m.node km l v u)))))
    where
      on-node : y.node ≡ x.node → Comes x y → First x y
      on-node q (by_depth h) = absurd (omega (arith, ap (λ (i : ℕ). depth_of i t) q))
      on-node q (by_rule e h) = lower_rule (sym q) h
      on-node q (by_node e i h) = absurd (omega arith)

  through : (m y : Match) → m.node < size t → y.node < size t → (x : Match) → above t x y ≡ true → above t y m ≡ true → above t x m ≡ true
  through m y km ky x u v = laws.through x.node y.node m.node ky km u v

  module _ (a b a' b' : List Match) (m : Match) (e : matches t rules attempt pairs ≡ a ++ (m ∷ b)) (e' : by_element t rules attempt pairs ≡ a' ++ (m ∷ b')) where
    are : All (Is t rules attempt pairs) (a ++ (m ∷ b))
    are = rw e at (all_is t rules attempt pairs)

    are' : All (Is t rules attempt pairs) (a' ++ (m ∷ b'))
    are' = rw e' at (each_is t rules attempt pairs)

    order : Pairwise Comes (a ++ (m ∷ b))
    order = rw e at (in_order t rules attempt pairs)

    order' : Pairwise First (a' ++ (m ∷ b'))
    order' = rw e' at (by_element_lem t rules attempt pairs)

    km : m.node < size t
    km = (all_mem are (Memᴰ.append_right a (Memᴰ.head refl))).node

    known : (x : Match) → Memᴰ x a → Is t rules attempt pairs x
    known x i = all_mem are (Memᴰ.append_left (m ∷ b) i)

    known' : (x : Match) → Memᴰ x a' → Is t rules attempt pairs x
    known' x i = all_mem are' (Memᴰ.append_left (m ∷ b') i)

    self : above t m m ≡ true
    self = laws.self m.node km

    -- the same matches are before m on its line
    to : (x : Match) → Memᴰ x (line t m a) → Memᴰ x (line t m a')
    to x i =
        let q = line_mem t m a i in
        let c : Comes x m = all_mem (pairs-front m b a order) q.0 in
        let f : First x m = agree m x m km (known x q.0).node q.1 self c in
        ⊎_elim (λ o. mem_line t m a' o q.1)
        (λ o. absurd (⊎_elim (λ z. not_self t rules attempt pairs c z) (λ z. not_both x m f (all_mem (pairs_back m b' a' order') z)) (Memᴰ.cases_cons o)))
        (Memᴰ.append_cases a' (subst (λ (l : List Match). Memᴰ x l) e' (each_there t rules attempt pairs x (known x q.0))))

    from : (x : Match) → Memᴰ x (line t m a') → Memᴰ x (line t m a)
    from x i =
        let q = line_mem t m a' i in
        let o = known' x q.0 in
        let f : First x m = all_mem (pairs-front m b' a' order') q.0 in
        ⊎_elim (λ j. mem_line t m a j q.1)
        (λ j. absurd (⊎_elim (λ z. not_both x m f (subst (λ (u : Match). First u x) z (subst (λ (u : Match). First x u) (sym z) f)))
        (λ z. not_both x m f (agree m m x km km self q.1 (all_mem (pairs_back m b a order) z))) (Memᴰ.cases_cons j)))
        (Memᴰ.append_cases a (subst (λ (l : List Match). Memᴰ x l) e (all_there t rules attempt pairs x (laws.shallow x.node o.node) o)))

    same_line : line t m a ≡ line t m a'
    same_line =
        same_list First not_both (line t m a) (line t m a')
        (line-pairs t m a (λ x y i j u v c. agree m x y km (known x i).node u v c) (front-pairs (m ∷ b) a order)) (line-pairs t m a' (λ x y i j u v c. c) (front-pairs (m ∷ b') a' order')) to from

    -- THE SAME FATE in both orders
    pub same-fate : fate t m (nest t a none) ≡ fate t m (nest t a' none)
    same-fate =
        fate-line t m a (all_of a (λ y i. through m y km (known y i).node))
        ∙ ap (λ (l : List Match). fate t m (nest t l none)) same_line
        ∙ sym (fate-line t m a' (all_of a' (λ y i. through m y km (known' y i).node)))

    -- and it is the match's way over the rows of those before it by element
    pub rows-fate : fate t m (nest t a none) ≡ walk t m outer (rows t a' [])
    unfolding shown
    rows-fate =
        same-fate ∙ ap (λ (c : Nest). fate t m c) (sym (shows t a' [] Pairwise.nil (pairwise_map (other t laws rules attempt pairs) (front-pairs (m ∷ b') a' order')) (all_of a' (λ y i. All.nil))))
        ∙ sym (walk-fate t m (rows t a' []) outer)
