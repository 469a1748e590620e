-- Laws of token trees: comments passed over, one step of each definition, and what a turn of each function's code comes to.
-- Assumes nothing.
use mathlib.Core.Path.{◌≡◌, refl}
use mathlib.Core.Bool.{true, false, cond, not}
use mathlib.Core.List.{List, [], ◌∷◌}
use Prim.Native.Nat.{ℕ, zero, suc, ◌+◌, ◌-◌, ◌*◌, ◌≤◌, ◌<◌}
use native.Mathlib.Nat.{le_of_suc-le-suc, not-suc-le-zero}
use native.Mathlib.Omega.{arith}
use lib.ListN.{length}
use borrow.Author.Tests.{le-leb}
use Rattle.std.proofs.Common.{Option, Some, None}
use Rattle.syntax.specs.Trees.{Elems}
use Rattle.syntax.specs.Accessors.{children, rest, text_of, some}
use Rattle.syntax.specs.Siblings.{is_a_node, is_a_token, is_trivia, is_comment, skip_trivia}
use Rattle.syntax.specs.Views.{elems_of}
use Rattle.syntax.specs.declared.kinds.ElementKind.{ElementKind}
use Rattle.syntax.specs.declared.kinds.ElementKind.TheVariants.{Node, Token}
use Rattle.syntax.specs.declared.parts.Part.{Part}
use Rattle.syntax.proofs.AccessorLaws.{some_is}
use Rattle.captures.specs.declared.SelfKind.TheVariants.{Owned}
use Rattle.captures.specs.declared.State.{State}
use Rattle.captures.specs.declared.Turn.{Turn}
use Rattle.captures.specs.Attempts.{Bound, Noted, Attempt, matched, and_then, given}
use Rattle.captures.specs.Effects.{binding, recorded_one, laid_one, Gives, Leads}
use Rattle.captures.specs.Turns.{GoesOn, TurnOf}
use Rattle.captures.proofs.AttemptLaws.{given_true, given_false, gives_done, gives_failed, leads_then, fails_then, leads_event, leads_none}
use Rattle.matcher.specs.Matcher.{Matcher, placeholder_of}
use Rattle.matcher.specs.Tokens.{matches_token, after_token, note, TokenIs}
use Rattle.token_trees.specs.declared.runs.Run as declared
use Rattle.token_trees.specs.Runs.{Run, is_at_tree, run, behind_run, run_of}
use Rattle.token_trees.specs.TokenTrees.{capture, match_token_tree, match_tokens, match_run, TokensGive, TokenTreeGives, RunGives}

-- ---- comments

module _ (text : List ℕ) (c : Elems) (left : Attempt) (s : State) (out : List ℕ) where
  pub comment_noted : (r : State) (out' : List ℕ) → is_comment c ≡ true → r ≡ recorded_one (length out) (Noted (text_of text c)) s
      → out' ≡ laid_one (Noted (text_of text c)) s out → Leads left (and_then (note text c) left) s out r out'
  comment_noted r out' h e f = rw (h, e, f) (leads_event (Noted (text_of text c)) left s out)

  pub comment_none : is_comment c ≡ false → Leads left (and_then (note text c) left) s out s out
  comment_none h = rw h (leads_none left s out)

-- ---- one step

-- what holds at each bound above k holds where it is one more than some m that is not below k
pub by_suc : (P : ℕ → Type 0) {k : ℕ} → ((m : ℕ) → k ≤ m → P (suc m)) → (n : ℕ) → k < n → P n
by_suc P f zero h = absurd (not-suc-le-zero h)
by_suc P f (suc m) h = f m (le_of_suc-le-suc h)

tree-step : (n : ℕ) (x : Matcher) (p c : Elems) → match_token_tree (suc n) x p c ≡ match_tokens n x (children p) (children c)
unfolding match_token_tree
tree-step n x p c = refl

module _ (n : ℕ) (x : Matcher) (ps q cs : Elems) (e : q ≡ skip_trivia ps) where
  tokens_end : some cs ≡ false → match_tokens (suc n) x ps cs ≡ given (not (some q))
  unfolding match_tokens
  tokens_end h = rw (h, e)

  module _ (h : some cs ≡ true) where
    tokens_run : (slot : ℕ) → placeholder_of x q ≡ Some slot → match_tokens (suc n) x ps cs ≡ match_run n x slot cs (run x.code x.text (rest q) cs)
    unfolding match_tokens
    tokens_run slot t = rw (h, ← e, t)

    module _ (t : placeholder_of x q ≡ None) where
      tokens_trivia : is_trivia cs ≡ true → match_tokens (suc n) x ps cs ≡ and_then (note x.text cs) (match_tokens n x q (rest cs))
      unfolding match_tokens
      tokens_trivia u = rw (h, ← e, t, u)

      tokens_token : is_trivia cs ≡ false → is_a_token cs ≡ true
          → match_tokens (suc n) x ps cs ≡ and_then (given (matches_token x.sheet x.code x.text q cs)) (match_tokens n x (after_token x.sheet q cs) (rest cs))
      unfolding match_tokens
      tokens_token u w = rw (h, ← e, t, u, w)

      tokens_node : is_trivia cs ≡ false → is_a_token cs ≡ false
          → match_tokens (suc n) x ps cs ≡ and_then (given (is_a_node q)) (and_then (match_token_tree n x q cs) (match_tokens n x (rest q) (rest cs)))
      unfolding match_tokens
      tokens_node u w = rw (h, ← e, t, u, w)

-- ---- two nodes, and what is left of them where the code is at its end

module _ (x : Matcher) (p q c : Part) (s : State) (out : List ℕ) (e : elems_of q ≡ skip_trivia (elems_of p)) (h : some (elems_of c) ≡ false) where
  pub tokens_done : some (elems_of q) ≡ false → TokensGive x p c s out (Some s) out
  tokens_done t = record {
    gives = by_suc (λ n. Gives (match_tokens n x (elems_of p) (elems_of c)) s out (Some s) out)
        (λ m b. rw (tokens_end m x (elems_of p) (elems_of q) (elems_of c) e h, t) (gives_done s out));
  }

  pub tokens_left : some (elems_of q) ≡ true → TokensGive x p c s out None out
  tokens_left t = record {
    gives = by_suc (λ n. Gives (match_tokens n x (elems_of p) (elems_of c)) s out None out)
        (λ m b. rw (tokens_end m x (elems_of p) (elems_of q) (elems_of c) e h, t) (gives_failed s out out refl));
  }

pub children_left : (x : Matcher) (p c : Part) (s : State) (out : List ℕ) (t : Turn)
    → length t.p.words.now ≤ length p.words.now - 3 → length t.c.words.now ≤ length c.words.now - 3 → 3 ≤ length c.words.now
    → elems_of t.p ≡ children (elems_of p) → elems_of t.c ≡ children (elems_of c) → t.state ≡ s → GoesOn (TokensGive x) (TokenTreeGives x) p c s out t out
children_left x p c s out t h k l e f i = record {
  right = λ a end g. record {
    gives = by_suc (λ n. Gives (match_token_tree n x (elems_of p) (elems_of c)) s out a end)
        (λ m b. rw (tree-step m x (elems_of p) (elems_of c), ← e, ← f, ← i) (g.gives m (omega (arith, h, k, l, b))));
  };
}

-- ---- one turn

module _ (x : Matcher) (p q c : Part) (s : State) (out : List ℕ) (e : elems_of q ≡ skip_trivia (elems_of p)) (w : length q.words.now ≤ length p.words.now) (h : 3 ≤ length c.words.now) where
  there : some (elems_of c) ≡ true
  there = rw (some_is c.number c.words.now) (le-leb 3 (length c.words.now) h)

  -- the attempt that is left leads to the whole, at each bound
  goes : (t : Turn) (out' : List ℕ) → length t.p.words.now ≤ length p.words.now → length t.c.words.now ≤ length c.words.now - 3
      → ((m : ℕ) → 3 * (length p.words.now + length c.words.now) < m → Leads (match_tokens m x (elems_of t.p) (elems_of t.c)) (match_tokens (suc m) x (elems_of p) (elems_of c)) s out t.state out')
      → GoesOn (TokensGive x) (TokensGive x) p c s out t out'
  goes t out' k l f = record {
    right =
        (λ a end g. record { gives = by_suc (λ m. Gives (match_tokens m x (elems_of p) (elems_of c)) s out a end) (λ m b. (f m (omega (arith, b))).gives a end (g.gives m (omega (arith, h, k, l, b)))) });
  }

  stops : (out' : List ℕ) → ((m : ℕ) → 3 * (length p.words.now + length c.words.now) < m → Gives (match_tokens (suc m) x (elems_of p) (elems_of c)) s out None out')
      → TokensGive x p c s out None out'
  stops out' f =
      (record { gives = by_suc (λ m. Gives (match_tokens m x (elems_of p) (elems_of c)) s out None out') (λ m b. f m (omega (arith, b))) })

  -- a placeholder
  pub turn_run : (slot : ℕ) (r : Option Turn) (out' : List ℕ) → placeholder_of x (elems_of q) ≡ Some slot
      → TurnOf (TokensGive x) (RunGives x slot) q c s out r out' → TurnOf (TokensGive x) (TokensGive x) p c s out r out'
  turn_run slot r out' t f = by r f
    where
      over : (a : Option State) (end : List ℕ) → RunGives x slot q c s out a end → TokensGive x p c s out a end
      over a end g = record {
        gives = by_suc (λ m. Gives (match_tokens m x (elems_of p) (elems_of c)) s out a end)
            (λ m b. rw (tokens_run m x (elems_of p) (elems_of q) (elems_of c) e there slot t) (g.gives m (omega (arith, w, b))));
      }

      by : (r : Option Turn) → TurnOf (TokensGive x) (RunGives x slot) q c s out r out' → TurnOf (TokensGive x) (TokensGive x) p c s out r out'
      by None f = over None out' f
      by (Some u) f = record { right = λ a end k. over a end (f.right a end k) }

  -- or else the first of the code's siblings
  module _ (t : placeholder_of x (elems_of q) ≡ None) where
    module _ (d : Part) (f : elems_of d ≡ rest (elems_of c)) (k : length d.words.now ≤ length c.words.now - 3) where
      pub turn_trivia : (r : State) (out' : List ℕ) → is_trivia (elems_of c) ≡ true → ((left : Attempt) → Leads left (and_then (note x.text (elems_of c)) left) s out r out')
          → GoesOn (TokensGive x) (TokensGive x) p c s out (record { p = q; c = d; state = r }) out'
      turn_trivia r out' u g = goes (record { p = q; c = d; state = r }) out' w k
          (λ m b. rw (tokens_trivia m x (elems_of p) (elems_of q) (elems_of c) e there t u, f) (g (match_tokens m x (elems_of q) (rest (elems_of c)))))

      pub turn_token : (y : Part) → is_trivia (elems_of c) ≡ false → is_a_token (elems_of c) ≡ true → TokenIs x q c (Some y)
          → GoesOn (TokensGive x) (TokensGive x) p c s out (record { p = y; c = d; state = s }) out
      turn_token y u v g = goes (record { p = y; c = d; state = s }) out (omega (arith, w, g.2)) k
          (λ m b. rw (tokens_token m x (elems_of p) (elems_of q) (elems_of c) e there t u v, g.0, f, ← g.1) (leads_none (match_tokens m x (elems_of y) (rest (elems_of c))) s out))

      pub turn_node : (y : Part) (r : State) (out' : List ℕ) → elems_of y ≡ rest (elems_of q) → length y.words.now ≤ length q.words.now - 3
          → is_trivia (elems_of c) ≡ false → is_a_token (elems_of c) ≡ false → is_a_node (elems_of q) ≡ true → TokenTreeGives x q c s out (Some r) out'
          → GoesOn (TokensGive x) (TokensGive x) p c s out (record { p = y; c = d; state = r }) out'
      turn_node y r out' i l u v a g = goes (record { p = y; c = d; state = r }) out' (omega (arith, w, l)) k
          (λ m b. rw (
            tokens_node m x (elems_of p) (elems_of q) (elems_of c) e there t u v,
            a,
            f,
            i,
            given_true (and_then (match_token_tree m x (elems_of q) (elems_of c)) (match_tokens m x (rest (elems_of q)) (rest (elems_of c)))),
          ) (leads_then (match_token_tree m x (elems_of q) (elems_of c)) (match_tokens m x (rest (elems_of q)) (rest (elems_of c))) s out r out' (g.gives m (omega (arith, w, b)))))

    pub turn_token_stops : is_trivia (elems_of c) ≡ false → is_a_token (elems_of c) ≡ true → TokenIs x q c None → TokensGive x p c s out None out
    turn_token_stops u v g = stops out
        (λ m b. rw (tokens_token m x (elems_of p) (elems_of q) (elems_of c) e there t u v, g, given_false (match_tokens m x (after_token x.sheet (elems_of q) (elems_of c)) (rest (elems_of c)))) (gives_failed s out out refl))

    pub turn_node_stops : (out' : List ℕ) → is_trivia (elems_of c) ≡ false → is_a_token (elems_of c) ≡ false → is_a_node (elems_of q) ≡ true
        → TokenTreeGives x q c s out None out' → TokensGive x p c s out None out'
    turn_node_stops out' u v a g = stops out'
        (λ m b. rw (
          tokens_node m x (elems_of p) (elems_of q) (elems_of c) e there t u v,
          a,
          given_true (and_then (match_token_tree m x (elems_of q) (elems_of c)) (match_tokens m x (rest (elems_of q)) (rest (elems_of c)))),
        ) (fails_then (match_token_tree m x (elems_of q) (elems_of c)) (match_tokens m x (rest (elems_of q)) (rest (elems_of c))) s out out' (g.gives m (omega (arith, w, b)))))

    pub turn_other_stops : is_trivia (elems_of c) ≡ false → is_a_token (elems_of c) ≡ false → is_a_node (elems_of q) ≡ false → TokensGive x p c s out None out
    turn_other_stops u v a = stops out
        (λ m b. rw (
          tokens_node m x (elems_of p) (elems_of q) (elems_of c) e there t u v,
          a,
          given_false (and_then (match_token_tree m x (elems_of q) (elems_of c)) (match_tokens m x (rest (elems_of q)) (rest (elems_of c)))),
        ) (gives_failed s out out refl))

-- ---- a placeholder's run

run-step : (n : ℕ) (x : Matcher) (slot : ℕ) (c : Elems) (u : Run) → match_run (suc n) x slot c u ≡
    and_then (cond (is_at_tree u) (match_token_tree n x (skip_trivia u.pattern) u.code) (matched []))
    (and_then (capture slot c u) (match_tokens n x (behind_run u) (rest u.code)))
unfolding match_run
run-step n x slot c u = refl

-- the subtree that a run stops at, where it does at one, is matched first
pub record First (x : Matcher) (p c : Part) (s : State) (out : List ℕ) (u : declared.Run) (t : State) (out' : List ℕ) : Type 0 where
  pub leads : (m : ℕ) → 3 * (length p.words.now + length c.words.now) ≤ m → (b : Attempt) → Leads b (and_then (cond (is_at_tree (run_of u)) (match_token_tree m x (skip_trivia (elems_of u.p)) (elems_of u.c)) (matched [])) b) s out t out'

module _ (x : Matcher) (slot : ℕ) (p ps c : Part) (s : State) (out : List ℕ) (u : declared.Run) (e : elems_of ps ≡ rest (elems_of p)) (is : run_of u ≡ run x.code x.text (elems_of ps) (elems_of c)) where
  pub no_subtree : u.stop ≡ Some Token → First x p c s out u s out
  no_subtree t = record { leads = λ m b a. rw t (leads_none a s out) }

  module _ (q : Part) (few : length q.words.now ≤ length p.words.now) (less : length u.c.words.now < length c.words.now) (f : elems_of q ≡ skip_trivia (elems_of u.p)) (t : u.stop ≡ Some Node) where
    pub subtree : (r : State) (out' : List ℕ) → TokenTreeGives x q u.c s out (Some r) out' → First x p c s out u r out'
    subtree r out' g = record {
      leads = λ m b a. rw (t, ← f) (leads_then (match_token_tree m x (elems_of q) (elems_of u.c)) a s out r out' (g.gives m (omega (arith, few, less, b))));
    }

    pub subtree_fails : (out' : List ℕ) → TokenTreeGives x q u.c s out None out' → RunGives x slot p c s out None out'
    subtree_fails out' g = (record {
      gives = by_suc (λ m. Gives (match_run m x slot (elems_of c) (run x.code x.text (rest (elems_of p)) (elems_of c))) s out None out')
          (λ m b. rw (run-step m x slot (elems_of c) (run x.code x.text (rest (elems_of p)) (elems_of c)), ← e, ← is, t, ← f)
          (fails_then (match_token_tree m x (elems_of q) (elems_of u.c)) _ s out out' (g.gives m (omega (arith, few, less, b)))));
    })

  -- then the placeholder is bound
  module _ (y d : Part) (t r : State) (out' : List ℕ) (g : elems_of d ≡ rest (elems_of u.c)) (k : length y.words.now ≤ length p.words.now) (l : length d.words.now < length c.words.now)
      (bound : (room : ℕ) → r ≡ recorded_one room (Bound slot (binding (elems_of c) (elems_of u.last) 0 Owned)) t) where
    run_bound : First x p c s out u t out' → elems_of y ≡ behind_run (run_of u) → GoesOn (TokensGive x) (RunGives x slot) p c s out (record { p = y; c = d; state = r }) out'
    run_bound first f = record {
      right = (λ a end h. record {
        gives = by_suc (λ m. Gives (match_run m x slot (elems_of c) (run x.code x.text (rest (elems_of p)) (elems_of c))) s out a end)
            (λ m b.
            let v = Bound slot (binding (elems_of c) (elems_of u.last) 0 Owned) in
            let left = match_tokens m x (behind_run (run_of u)) (rest (elems_of u.c)) in
            rw (run-step m x slot (elems_of c) (run x.code x.text (rest (elems_of p)) (elems_of c)), ← e, ← is)
            ((first.leads m b (and_then (matched (v ∷ [])) left)).gives a end
            ((leads_event v left t out').gives a end (rw (f, g, bound (length out')) at (h.gives m (omega (arith, k, l, b)))))));
      });
    }

    pub run_stops : (kind : ElementKind) (q : Part) → First x p c s out u t out' → u.stop ≡ Some kind → elems_of q ≡ skip_trivia (elems_of u.p) → elems_of y ≡ rest (elems_of q)
        → GoesOn (TokensGive x) (RunGives x slot) p c s out (record { p = y; c = d; state = r }) out'
    run_stops kind q first z f h = run_bound first (rw (z, ← f) h)

  pub run_ends : (d : Part) (r : State) → elems_of d ≡ rest (elems_of u.c) → length u.p.words.now ≤ length p.words.now → length d.words.now < length c.words.now
      → ((room : ℕ) → r ≡ recorded_one room (Bound slot (binding (elems_of c) (elems_of u.last) 0 Owned)) s) → u.stop ≡ None
      → GoesOn (TokensGive x) (RunGives x slot) p c s out (record { p = u.p; c = d; state = r }) out
  run_ends d r g k l bound z = run_bound u.p d s r out g k l bound (record { leads = λ m b a. rw z (leads_none a s out) }) (rw z)
