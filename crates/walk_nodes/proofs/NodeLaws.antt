-- What `find_nodes` has found when it comes to an element.
-- Assumes nothing.
use mathlib.Core.Path.{◌≡◌, refl, sym, ap, ◌∙◌}
use mathlib.Core.Bool.{Bool, true, false, ◌&&◌}
use mathlib.Core.List.{List, [], ◌∷◌, ◌++◌, append_assoc, append-nil}
use Prim.Native.Nat.{ℕ, ◌+◌, ◌*◌, ◌≤◌, ◌<◌}
use native.Mathlib.Omega.{arith}
use lib.ListN.{length, length-append}
use Rattle.std.proofs.Common.{Option, Some, None, is_some, IfSome, unwrap_or}
use Rattle.words.specs.declared.texts.Range.{Range}
use Rattle.syntax.specs.Trees.{Elems, size}
use Rattle.syntax.specs.Accessors.{element_at, by_itself, node_in}
use Rattle.syntax.specs.declared.kinds.Kinds.{Kinds}
use Rattle.syntax.proofs.ViewLaws.{node_itself}
use Rattle.paths.specs.Steps.{SideTree}
use Rattle.captures.specs.Attempts.{Attempt, failed, matched, and_then, given}
use Rattle.captures.specs.declared.State.{State}
use Rattle.captures.specs.Effects.{Gives}
use Rattle.matcher.specs.Matcher.{Matcher}
use Rattle.get_match.specs.FirstPhase.{HoldAll}
use Rattle.get_match.specs.Templates.{renders_given}
use Rattle.get_match.specs.GetMatch.{is_within, TryGives}
use Rattle.candidates.specs.Candidates.{Candidate}
use Rattle.walk_nodes.specs.WalkCandidates.{is_match}
use Rattle.walk_nodes.specs.Finds.{attempts, IsMatch, FindsNodes}
use Rattle.walk_nodes.proofs.CandidateLaws.{below, below_none, below_more, below-same, below_on, below_up}

-- an answer says whether its attempt is a match
pub some_is : (a : Attempt) {s : State} {out : List ℕ} {r : Option State} {end : List ℕ} → Gives a s out r end → is_some r ≡ is_match a
some_is failed g = ap is_some g.answer
some_is (matched es) g = ap is_some g.answer

-- where the pattern does not match, nothing does
try_failed : (within renders : Bool) (a : Attempt) → a ≡ failed → and_then (given within) (and_then a (given renders)) ≡ failed
unfolding and_then
try_failed true renders a h = rw h
try_failed false renders a h = refl

never_both : (is : Bool) (a : Attempt) → (is ≡ true → a ≡ failed) → (is && is_match a) ≡ false
never_both true a h = rw (h refl)
never_both false a h = refl

pub bound_of : (from all : ℕ) (next : Option ℕ) → IfSome next (λ e. (from ≤ e) × (e < all)) → IfSome next (λ e. e < all)
bound_of from all (Some e) b = b.1
bound_of from all None b = tt

module _ (x : Matcher) (words : ℕ) (root : Elems) (template : Option SideTree) (range : Option Range) where
  -- ---- one element

  module _ (e : ℕ) where
    pub no_node : node_in 1 4095 (element_at e x.tree) ≡ false → IsMatch x words root template range e false
    no_node h = record { is = λ n l. rw h }

    pub node_tried : (s : State) (out : List ℕ) (r : Option State) (end : List ℕ) → node_in 1 4095 (element_at e x.tree) ≡ true
        → TryGives x words root range (by_itself (element_at e x.tree)) (renders_given template x.facts e) out r end
        → IsMatch x words root template range e (is_some r)
    node_tried s out r end h g = record { is = λ n l. rw h (some_is _ (g.gives n l)) }

  -- ---- all that match below a number

  module _ (rule : ℕ) (before : List Candidate) where
    pub record FoundBelow (node : ℕ) (found : List Candidate) : Type 0 where
      pub finds : (n : ℕ) → 5 * words + 2 < n → found ≡ before ++ below (attempts n x root template range) x.tree rule node

    pub walk_starts : FoundBelow 0 before
    walk_starts = record { finds = λ n l. rw (below_none (attempts n x root template range) x.tree rule) (sym (append-nil before)) }

    -- what matches before the next node that is tried, or all
    pub record FoundBefore (next : Option ℕ) (found : List Candidate) : Type 0 where
      pub low : IfSome next (λ node. node < size x.tree)
      pub below : FoundBelow (unwrap_or next (size x.tree)) found

    -- up to the next node there are only nodes of kinds that the pattern never matches
    module _ (node : ℕ) (found : List Candidate) (so_far : FoundBelow node found) (le : node ≤ size x.tree) (kinds : Kinds) (holds : HoldAll x root kinds) where
      to : (end : ℕ) → node ≤ end → ((e : ℕ) → node ≤ e → e < end → node_in kinds.low kinds.high (element_at e x.tree) ≡ false) → FoundBelow end found
      to end low passed = record {
        finds = λ n l.
            let a = attempts n x root template range in
            rw (below_on a x.tree rule node end low
            (λ e from to. let c = element_at e x.tree in
            never_both (node_in 1 4095 c) (a e rule)
            (λ is. try_failed (is_within range (by_itself c)) (renders_given template x.facts e) _
            ((holds.others (by_itself c) (node_itself 1 4095 c ∙ is) (node_itself kinds.low kinds.high c ∙ passed e from to)).fails n))))
            (so_far.finds n l);
      }

      pub walk_on : (next : Option ℕ) (all : ℕ) → size x.tree ≡ all → IfSome next (λ e. (node ≤ e) × (e < all))
          → ((e : ℕ) → node ≤ e → e < unwrap_or next all → node_in kinds.low kinds.high (element_at e x.tree) ≡ false) → FoundBefore next found
      walk_on (Some e) all sized b passed = record { low = omega (arith, sized, b.1); below = to e b.0 passed }
      walk_on None all sized b passed = record { low = tt; below = to (size x.tree) le (rw (← sized) at passed) }

    module _ (next : Option ℕ) (found : List Candidate) (so_far : FoundBefore next found) where
      -- the next node is there
      pub walk_low : (node : ℕ) → next ≡ Some node → node + 1 ≤ size x.tree
      walk_low node at = let b : node < size x.tree = rw at at so_far.low in omega (arith, b)

      module _ (node : ℕ) (at : next ≡ Some node) (r : Bool) (is : IsMatch x words root template range node r) where
        here : FoundBelow node found
        here = rw at at so_far.below

        pub walk_same : r ≡ false → FoundBelow (node + 1) found
        walk_same h = record {
          finds = λ n l.
              rw (below-same (attempts n x root template range) x.tree rule node (sym (is.is n l) ∙ h)) (here.finds n l);
        }

        module _ (h : r ≡ true) where
          pub walk_more : (found' : List Candidate) → found' ≡ found ++ record { node = node; rule = rule } ∷ [] → FoundBelow (node + 1) found'
          walk_more found' e = record {
            finds = λ n l.
                let c : Candidate = record { node = node; rule = rule } in
                let a = attempts n x root template range in
                rw (e, below_more a x.tree rule node (sym (is.is n l) ∙ h))
                (ap (λ (cs : List Candidate). cs ++ c ∷ []) (here.finds n l) ∙ append_assoc before (below a x.tree rule node) (c ∷ []));
          }

          -- 1,024 were found before
          pub walk_many : {A : Type 0} (found' : List Candidate) → length found ≡ 1024 → FindsNodes x words root template range rule before {A = A} None found'
          walk_many found' full = record {
            finds = λ n l.
                let a = attempts n x root template range in
                let k = below_up a x.tree rule (node + 1) (size x.tree) (walk_low node at) in
                let j : length (below a x.tree rule (node + 1)) ≡ length (below a x.tree rule node) + 1 =
                ap length (below_more a x.tree rule node (sym (is.is n l) ∙ h)) ∙ length-append (below a x.tree rule node) _ in
                let m = ap length (here.finds n l) ∙ length-append before (below a x.tree rule node) in
                simp length-append (omega (arith, k, j, full, m));
          }

      pub walk_ends : {A : Type 0} (done : A) → next ≡ None → FindsNodes x words root template range rule before (Some done) found
      walk_ends done e = let b : FoundBelow (size x.tree) found = rw e at so_far.below in record { finds = b.finds }
