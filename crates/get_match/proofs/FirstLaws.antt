-- Why nodes and siblings cannot match, one test after the other.
-- Assumes nothing.
use Rattle.std.proofs.Common.{◌≡◌, ℕ, zero, suc, ◌≤◌, Bool, true, false, ◌&&◌, ◌||◌, eqb, leb, length, Option, Some, None, sym, refl, ap, ◌∙◌, true≢false, arith, eq-eqb, ne_eqb, eqb-true, le-leb, leb-true}
use mathlib.Core.Bool.{false≢true}
use Prim.Native.Nat.{min, max}
use Rattle.std.specs.Prelude.{is_some}
use Rattle.words.proofs.TestLaws.{and_both, and_of, or_neither, never}
use Rattle.syntax.specs.Trees.{Elems, none, token, node}
use Rattle.syntax.specs.Accessors.{children, rest, number_of, some, node_in, first_child}
use Rattle.syntax.specs.Siblings.{kind_of, is_a_node, is_a_token, is_trivia, skip_trivia}
use Rattle.syntax.specs.Views.{elems_of}
use Rattle.syntax.specs.declared.kinds.Kinds.{Kinds}
use Rattle.syntax.specs.declared.parts.Part.{Part}
use Rattle.syntax.proofs.AccessorLaws.{number_is}
use Rattle.captures.specs.Attempts.{Attempt, failed, matched, and_then, given}
use Rattle.matcher.specs.Matcher.{Matcher, slot_of, is_a_call, is_resolved}
use Rattle.matcher.specs.Tokens.{matches_token, after_token, note}
use Rattle.calls.specs.Calls.{call_of, first_fits, same_resolution, same_function}
use Rattle.matching.specs.Matching.{match_node, match_by_kind, match_sequences, match_path, match_segments, match_ufcs, match_method_call}
use Rattle.get_match.specs.declared.first_phase.checking.Check.{Check}
use Rattle.get_match.specs.declared.first_phase.checking.Check.TheVariants.{Fails, Below, Passes}
use Rattle.get_match.specs.FirstPhase.{NodeFails, KindFails, SiblingsFail, FailsIf, NodesCheck, KindCheck, HoldAll}

-- ---- attempts in turn

then_fails : (a : Attempt) → and_then a failed ≡ failed
unfolding and_then
then_fails failed = refl
then_fails (matched es) = refl

fails_then : (b : Attempt) → and_then failed b ≡ failed
unfolding and_then
fails_then b = refl

-- ---- two nodes, by the elements

module _ (x : Matcher) (p c : Elems) (other : slot_of x p ≡ None) where
  -- a method call of another function
  method_never : (is_a_call (call_of x p) && node_in 65 65 c) ≡ true → same_function x p c ≡ false → (n : ℕ) → match_node n x p c ≡ failed
  unfolding match_node match_method_call
  method_never t f zero = refl
  method_never t f (suc zero) = rw (other, t)
  method_never t f (suc (suc n)) = rw (other, t, f) (fails_then _)

  module _ (method : (is_a_call (call_of x p) && node_in 65 65 c) ≡ false) where
    -- a call
    call_never : (is_a_call (call_of x p) && node_in 64 64 c) ≡ true → SiblingsFail x (children p) (children c) → (n : ℕ) → match_node n x p c ≡ failed
    unfolding match_node match_ufcs
    call_never t f zero = refl
    call_never t f (suc zero) = rw (other, method, t)
    call_never t f (suc (suc n)) = rw (other, method, t, f.fails n) (then_fails (given (first_fits x p c)))

    module _ (call : (is_a_call (call_of x p) && node_in 64 64 c) ≡ false) where
      -- nodes of two kinds
      kinds_never : eqb (kind_of p) (kind_of c) ≡ false → (n : ℕ) → match_node n x p c ≡ failed
      unfolding match_node
      kinds_never t zero = refl
      kinds_never t (suc n) = rw (other, method, call, t)

      -- and of one
      kind_never : eqb (kind_of p) (kind_of c) ≡ true → KindFails x p c → (n : ℕ) → match_node n x p c ≡ failed
      unfolding match_node
      kind_never t f zero = refl
      kind_never t f (suc n) = rw (other, method, call, t) (f.fails n)

-- a node of none of the kinds that a root can match
wider : (low high l h : ℕ) (c : Elems) → low ≤ l → h ≤ high → node_in l h c ≡ true → node_in low high c ≡ true
wider low high l h none a b e = absurd (false≢true e)
wider low high l h (token i k s f r) a b e = absurd (false≢true e)
wider low high l h (node i k s f cs r) a b e =
    let q = and_both (leb l k) (leb k h) e in
    and_of (le-leb low k (omega (arith, a, leb-true l k q.0))) (le-leb k high (omega (arith, b, leb-true k h q.1)))

own-kind : (c : Elems) → is_a_node c ≡ true → node_in (kind_of c) (kind_of c) c ≡ true
own-kind none e = absurd (false≢true e)
own-kind (token i k s f r) e = absurd (false≢true e)
own-kind (node i k s f cs r) e = and_of (le-leb k k (omega arith)) (le-leb k k (omega arith))

and_never : (a b : Bool) → (a ≡ true → b ≡ false) → (a && b) ≡ false
and_never true b h = h refl
and_never false b h = refl

outside : (x : Matcher) (p c : Elems) → slot_of x p ≡ None → (low high : ℕ) → is_a_node c ≡ true → node_in low high c ≡ false
    → low ≤ kind_of p → kind_of p ≤ high → (is_a_call (call_of x p) ≡ true → (low ≤ 64) × (65 ≤ high)) → NodeFails x p c
outside x p c other low high is out a b calls = record {
  fails = kinds_never x p c other
      (and_never _ _ (λ t. never _ (λ e. true≢false (sym (wider low high 65 65 c (omega (arith, (calls t).0)) (calls t).1 e) ∙ out))))
      (and_never _ _ (λ t. never _ (λ e. true≢false (sym (wider low high 64 64 c (calls t).0 (omega (arith, (calls t).1)) e) ∙ out))))
      (never _ (λ e. true≢false (sym (wider low high (kind_of c) (kind_of c) c (omega (arith, a, eqb-true (kind_of p) (kind_of c) e)) (omega (arith, b, eqb-true (kind_of p) (kind_of c) e)) (own-kind c is)) ∙ out)));
}

-- ---- two nodes, by their parts

module _ (x : Matcher) (p : Part) (long : 3 ≤ length p.words.now) where
  number : number_of (elems_of p) ≡ p.number
  number = number_is p.number p.words.now long

  none_is : (o : Option ℕ) → is_some o ≡ false → o ≡ None
  none_is None e = refl
  none_is (Some n) e = absurd (true≢false e)

  module _ (slot : is_some (x.slot_at p.number) ≡ false) where
    free : slot_of x (elems_of p) ≡ None
    free = ap x.slot_at number ∙ none_is (x.slot_at p.number) slot

    call : (kind : ℕ) (c : Elems) {b : Bool} → (is_some (x.call_at p.number) && node_in kind kind c) ≡ b → (is_a_call (call_of x (elems_of p)) && node_in kind kind c) ≡ b
    call kind c k = ap (λ (n : ℕ). is_some (x.call_at n) && node_in kind kind c) number ∙ k

    module _ (c : Elems) where
      pub method_fails : (is_some (x.call_at p.number) && node_in 65 65 c) ≡ true → same_function x (elems_of p) c ≡ false → NodeFails x (elems_of p) c
      method_fails t f = record { fails = method_never x (elems_of p) c free (call 65 c t) f }

      module _ (m : (is_some (x.call_at p.number) && node_in 65 65 c) ≡ false) where
        pub call_below : (is_some (x.call_at p.number) && node_in 64 64 c) ≡ true → FailsIf x (children (elems_of p)) (children c) (NodeFails x (elems_of p) c)
        call_below t = record { whole = λ f. record { fails = call_never x (elems_of p) c free (call 65 c m) (call 64 c t) f } }

        module _ (u : (is_some (x.call_at p.number) && node_in 64 64 c) ≡ false) where
          pub kinds_fail : (kind_of (elems_of p) ≡ kind_of c → ⊥) → NodeFails x (elems_of p) c
          kinds_fail k = record { fails = kinds_never x (elems_of p) c free (call 65 c m) (call 64 c u) (ne_eqb _ _ k) }

          kind_fails : kind_of (elems_of p) ≡ kind_of c → KindFails x (elems_of p) c → NodeFails x (elems_of p) c
          kind_fails k f = record { fails = kind_never x (elems_of p) c free (call 65 c m) (call 64 c u) (eq-eqb _ _ k) f }

          pub kind_says : (r : Check) → kind_of (elems_of p) ≡ kind_of c → KindCheck x (elems_of p) c r → NodesCheck x (elems_of p) c r
          kind_says Fails k f = kind_fails k f
          kind_says Below k f = record { whole = λ g. kind_fails k (f.whole g) }
          kind_says Passes k f = tt

    -- the kinds that hold all
    pub hold_calls : (kinds : Kinds) → kinds.low ≡ min (kind_of (elems_of p)) 64 → kinds.high ≡ max (kind_of (elems_of p)) 65 → HoldAll x (elems_of p) kinds
    hold_calls kinds e f = record {
      others = λ c is out. outside x (elems_of p) c free kinds.low kinds.high is out (omega (arith, e)) (omega (arith, f)) (λ t. (omega (arith, e), omega (arith, f)));
    }

    pub hold_own : (kinds : Kinds) → is_some (x.call_at p.number) ≡ false → kinds.low ≡ kind_of (elems_of p) → kinds.high ≡ kind_of (elems_of p) → HoldAll x (elems_of p) kinds
    hold_own kinds h e f = record {
      others = λ c is out. outside x (elems_of p) c free kinds.low kinds.high is out (omega (arith, e)) (omega (arith, f))
          (λ t. absurd (true≢false (sym t ∙ ap (λ (n : ℕ). is_some (x.call_at n)) number ∙ h)));
    }

  -- ---- two of one kind

  module _ (c : Elems) (others : (eqb (kind_of c) 8 || eqb (kind_of c) 1) ≡ false) where
    lists : (eqb (kind_of c) 8 ≡ false) × (eqb (kind_of c) 1 ≡ false)
    lists = or_neither (eqb (kind_of c) 8) (eqb (kind_of c) 1) others

    resolved : {b : Bool} → is_some (x.path_at p.number) ≡ b → is_resolved (x.path_at (number_of (elems_of p))) ≡ b
    resolved r = ap (λ (n : ℕ). is_some (x.path_at n)) number ∙ r

    -- a path that refers to something else
    path_never : kind_of c ≡ 2 → is_resolved (x.path_at (number_of (elems_of p))) ≡ true → same_resolution x (elems_of p) c ≡ false → (n : ℕ) → match_by_kind n x (elems_of p) c ≡ failed
    unfolding match_by_kind match_path
    path_never t r f zero = refl
    path_never t r f (suc zero) = rw (lists.0, lists.1, eq-eqb _ 2 t)
    path_never t r f (suc (suc n)) = rw (lists.0, lists.1, eq-eqb _ 2 t, r, f) (then_fails (match_segments n x (first_child 3 (elems_of p)) (first_child 3 c)))

    pub path_fails : (eqb (kind_of c) 2 && is_some (x.path_at p.number)) ≡ true → same_resolution x (elems_of p) c ≡ false → KindFails x (elems_of p) c
    path_fails t f =
        let b = and_both (eqb (kind_of c) 2) (is_some (x.path_at p.number)) t in
        record { fails = path_never (eqb-true _ 2 b.0) (resolved b.1) f }

    -- a path that is not resolved, and any other node
    plain_never : eqb (kind_of c) 2 ≡ true → is_resolved (x.path_at (number_of (elems_of p))) ≡ false → SiblingsFail x (children (elems_of p)) (children c) → (n : ℕ) → match_by_kind n x (elems_of p) c ≡ failed
    unfolding match_by_kind match_path
    plain_never t r f zero = refl
    plain_never t r f (suc zero) = rw (lists.0, lists.1, t)
    plain_never t r f (suc (suc n)) = rw (lists.0, lists.1, t, r) (f.fails n)

    node_never : eqb (kind_of c) 2 ≡ false → SiblingsFail x (children (elems_of p)) (children c) → (n : ℕ) → match_by_kind n x (elems_of p) c ≡ failed
    unfolding match_by_kind
    node_never t f zero = refl
    node_never t f (suc n) = rw (lists.0, lists.1, t) (f.fails n)

    pub kind_below : (eqb (kind_of c) 2 && is_some (x.path_at p.number)) ≡ false → FailsIf x (children (elems_of p)) (children c) (KindFails x (elems_of p) c)
    kind_below h = record { whole = λ f. record { fails = by (eqb (kind_of c) 2) refl h f } }
      where
        by : (b : Bool) → eqb (kind_of c) 2 ≡ b → (b && is_some (x.path_at p.number)) ≡ false → SiblingsFail x (children (elems_of p)) (children c) → (n : ℕ) → match_by_kind n x (elems_of p) c ≡ failed
        by true t h f = plain_never t (resolved h) f
        by false t h f = node_never t f

pub hold_any : (x : Matcher) (p : Elems) (kinds : Kinds) → kinds.low ≡ 1 → kinds.high ≡ 4095 → HoldAll x p kinds
hold_any x p kinds e f = record { others = λ c is out. absurd (true≢false (sym is ∙ (rw (e, f) at out))) }

-- ---- siblings

module _ (x : Matcher) (p c : Elems) where
  -- the code has none, and the pattern has
  pub end_never : some c ≡ false → some (skip_trivia p) ≡ true → (n : ℕ) → match_sequences n x p c ≡ failed
  unfolding match_sequences
  end_never s t zero = refl
  end_never s t (suc n) = rw (s, t)

  module _ (here : some c ≡ true) where
    pub trivia_never : is_trivia c ≡ true → SiblingsFail x (skip_trivia p) (rest c) → (n : ℕ) → match_sequences n x p c ≡ failed
    unfolding match_sequences
    trivia_never t f zero = refl
    trivia_never t f (suc n) = rw (here, t, f.fails n) (then_fails (note x.text c))

    module _ (fixed : is_trivia c ≡ false) where
      pub token_never : is_a_token c ≡ true → matches_token x.sheet x.code x.text (skip_trivia p) c ≡ false → (n : ℕ) → match_sequences n x p c ≡ failed
      unfolding match_sequences
      token_never t f zero = refl
      token_never t f (suc n) = rw (here, fixed, t, f) (fails_then _)

      pub tokens_never : is_a_token c ≡ true → SiblingsFail x (after_token x.sheet (skip_trivia p) c) (rest c) → (n : ℕ) → match_sequences n x p c ≡ failed
      unfolding match_sequences
      tokens_never t f zero = refl
      tokens_never t f (suc n) = rw (here, fixed, t, f.fails n) (then_fails _)

      module _ (token : is_a_token c ≡ false) where
        pub absent_never : is_a_node (skip_trivia p) ≡ false → (n : ℕ) → match_sequences n x p c ≡ failed
        unfolding match_sequences
        absent_never t zero = refl
        absent_never t (suc n) = rw (here, fixed, token, t) (fails_then _)

        pub node_first_never : NodeFails x (skip_trivia p) c → (n : ℕ) → match_sequences n x p c ≡ failed
        unfolding match_sequences
        node_first_never f zero = refl
        node_first_never f (suc n) = rw (here, fixed, token, f.fails n, fails_then (match_sequences n x (rest (skip_trivia p)) (rest c))) (then_fails _)

        pub node_rest_never : SiblingsFail x (rest (skip_trivia p)) (rest c) → (n : ℕ) → match_sequences n x p c ≡ failed
        unfolding match_sequences
        node_rest_never f zero = refl
        node_rest_never f (suc n) = rw (here, fixed, token, f.fails n, then_fails (match_node n x (skip_trivia p) c)) (then_fails _)
