-- What the matches of a job are, and their two orders: by depth, rule and node, and by node and rule.
-- Assumes nothing.
use Prim.Native.Nat.{ℕ, ◌+◌, ◌<◌, ◌≤◌}
use mathlib.Core.Path.{◌≡◌, refl, sym, ◌∙◌}
use mathlib.Core.List.{List, [], Memᴰ}
use mathlib.Core.Bool.{Bool, true, false, cond, ◌&&◌}
use native.Mathlib.Omega.{arith}
use lib.Dec.{eqb}
use borrow.Author.Tests.{eqb-true, eq-eqb}
use Rattle.syntax.specs.Trees.{Elems, size, depth}
use Rattle.syntax.specs.Accessors.{depth_of}
use Rattle.captures.specs.Attempts.{Event, Attempt, failed, matched, comments}
use Rattle.captures.specs.Effects.{nothing, recorded}
use Rattle.candidates.specs.Candidates.{Pairs}
use Rattle.nester.specs.Matches.{Match, match_of, stands_at, matches, by_element}
use Rattle.nester.proofs.Lists.{All, Pairwise, all_map, Has, each_all, each-pairs, each_mem}

module _ (t : Elems) (rules : ℕ) (attempt : ℕ → ℕ → Attempt) (pairs : Pairs) where
  -- m is the match of a pair in the set that get_match accepts
  pub record Is (m : Match) : Type 0 where
    pub node : m.node < size t
    pub rule : m.rule < rules
    pub pair : pairs m.node m.rule ≡ true
    pub accepts : Memᴰ m (match_of m.node m.rule (attempt m.node m.rule))

  -- by depth, then rule, then node
  pub data ComesFirst (x y : Match) : Type 0 where
    by_depth : depth_of x.node t < depth_of y.node t → ComesFirst x y
    by_rule : depth_of x.node t ≡ depth_of y.node t → x.rule < y.rule → ComesFirst x y
    by_node : depth_of x.node t ≡ depth_of y.node t → x.rule ≡ y.rule → x.node < y.node → ComesFirst x y

  pub no_deeper : {x y : Match} → ComesFirst x y → depth_of x.node t ≤ depth_of y.node t
  no_deeper (by_depth h) = omega arith
  no_deeper (by_rule e h) = omega arith
  no_deeper (by_node e i h) = omega arith

  -- by node, then rule
  pub data StandsFirst (x y : Match) : Type 0 where
    lower_node : x.node < y.node → StandsFirst x y
    lower_rule : x.node ≡ y.node → x.rule < y.rule → StandsFirst x y

  -- of the rule r, at the node n, where a test holds
  record One (r n : ℕ) (b : Bool) (m : Match) : Type 0 where
    rule : m.rule ≡ r
    node : m.node ≡ n
    holds : b ≡ true
    pair : pairs m.node m.rule ≡ true
    accepts : Memᴰ m (match_of m.node m.rule (attempt m.node m.rule))

  one : (r n : ℕ) (b : Bool) → (b ≡ true → pairs n r ≡ true) → All (One r n b) (cond b (match_of n r (attempt n r)) [])
  one r n false h = All.nil
  one r n true h = go (attempt n r) refl
    where
      made : List Event → Match
      made es = record { node = n; rule = r; bindings = (recorded 0 es nothing).bindings; comments = comments es }

      go : (a : Attempt) → attempt n r ≡ a → All (One r n true) (match_of n r a)
      go failed e = All.nil
      go (matched es) e = All.more {x = made es} (record { rule = refl; node = refl; holds = refl; pair = h refl; accepts = rw e (Memᴰ.head refl) }) All.nil

  lone : {R : Match → Match → Type 0} (b : Bool) (n r : ℕ) (a : Attempt) → Pairwise R (cond b (match_of n r a) [])
  lone true n r failed = Pairwise.nil
  lone true n r (matched es) = Pairwise.more All.nil Pairwise.nil
  lone false n r a = Pairwise.nil

  second : (a b : Bool) → (a && b) ≡ true → b ≡ true
  second true b h = h
  second false true h = refl
  second false false h = h

  first : (a b : Bool) → (a && b) ≡ true → a ≡ true
  first true b h = refl
  first false b h = h

  abbrev AtNode : ℕ → ℕ → ℕ → Match → Type 0
  AtNode d r n m = One r n (stands_at t pairs d r n) m

  abbrev AtRule : ℕ → ℕ → Match → Type 0
  AtRule d r m = Has (AtNode d r) (size t) m

  abbrev AtDepth : ℕ → Match → Type 0
  AtDepth d m = Has (AtRule d) rules m

  at_node : (d r n : ℕ) → All (AtNode d r n) (cond (stands_at t pairs d r n) (match_of n r (attempt n r)) [])
  at_node d r n = one r n (stands_at t pairs d r n) (second (eqb (depth_of n t) d) (pairs n r))

  deep : (d r n : ℕ) (m : Match) → AtNode d r n m → depth_of m.node t ≡ d
  deep d r n m o = rw o.node (eqb-true (depth_of n t) d (first (eqb (depth_of n t) d) (pairs n r) o.holds))

  pub all_is : All Is (matches t rules attempt pairs)
  unfolding matches
  all_is =
      all_map (λ m h. let o = h.is.is.is in record {
        node = rw o.node h.is.is.low;
        rule = rw o.rule h.is.low;
        pair = o.pair;
        accepts = o.accepts;
      }) (each_all {P = AtDepth} (λ d. each_all {P = AtRule d} (λ r. each_all {P = AtNode d r} (at_node d r) (size t)) rules) (1 + depth t))

  -- they come by depth, then rule, then node, and no pair comes twice
  pub in_order : Pairwise ComesFirst (matches t rules attempt pairs)
  unfolding matches
  in_order =
      each-pairs {P = AtDepth} (λ d. each_all {P = AtRule d} (λ r. each_all {P = AtNode d r} (at_node d r) (size t)) rules)
      (λ d. each-pairs {P = AtRule d} (λ r. each_all {P = AtNode d r} (at_node d r) (size t))
      (λ r. each-pairs {P = AtNode d r} (at_node d r) (λ n. lone (stands_at t pairs d r n) n r (attempt n r))
      (λ i j x y h p q. by_node (deep d r i x p ∙ sym (deep d r j y q)) (omega arith) (omega arith)) (size t))
      (λ i j x y h p q. by_rule (deep d i p.at x p.is ∙ sym (deep d j q.at y q.is)) (let u = p.is in let v = q.is in omega arith)) rules)
      (λ i j x y h p q. by_depth (omega (arith, deep i p.at p.is.at x p.is.is, deep j q.at q.is.at y q.is.is))) (1 + depth t)

  -- and each pair of the set that get_match accepts is there
  pub all_there : (m : Match) → depth_of m.node t ≤ depth t → Is m → Memᴰ m (matches t rules attempt pairs)
  unfolding matches
  all_there m l o =
      each_mem _ (depth_of m.node t) (1 + depth t) (omega arith)
      (each_mem _ m.rule rules o.rule
      (each_mem _ m.node (size t) o.node
      (rw (eq-eqb (depth_of m.node t) (depth_of m.node t) refl, o.pair) o.accepts)))

  -- By element: the same matches, in the other order.
  abbrev OfRule : ℕ → ℕ → Match → Type 0
  OfRule n r m = One r n (pairs n r) m

  abbrev OfNode : ℕ → Match → Type 0
  OfNode n m = Has (OfRule n) rules m

  of_rule : (n r : ℕ) → All (OfRule n r) (cond (pairs n r) (match_of n r (attempt n r)) [])
  of_rule n r = one r n (pairs n r) (λ h. h)

  pub each_is : All Is (by_element t rules attempt pairs)
  unfolding by_element
  each_is =
      all_map (λ m h. let o = h.is.is in record {
        node = rw o.node h.low;
        rule = rw o.rule h.is.low;
        pair = o.pair;
        accepts = o.accepts;
      }) (each_all {P = OfNode} (λ n. each_all {P = OfRule n} (of_rule n) rules) (size t))

  pub by_element_lem : Pairwise StandsFirst (by_element t rules attempt pairs)
  unfolding by_element
  by_element_lem =
      each-pairs {P = OfNode} (λ n. each_all {P = OfRule n} (of_rule n) rules)
      (λ n. each-pairs {P = OfRule n} (of_rule n) (λ r. lone (pairs n r) n r (attempt n r)) (λ i j x y h p q. lower_rule (omega arith) (omega arith)) rules)
      (λ i j x y h p q. lower_node (let u = p.is in let v = q.is in omega arith)) (size t)

  pub each_there : (m : Match) → Is m → Memᴰ m (by_element t rules attempt pairs)
  unfolding by_element
  each_there m o = each_mem _ m.node (size t) o.node (each_mem _ m.rule rules o.rule (rw o.pair o.accepts))
