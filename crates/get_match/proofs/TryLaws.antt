-- What is known of the pattern's root and of the node asked for, and what is right for `try_match`.
-- Assumes nothing.
use mathlib.Core.Path.{◌≡◌, refl, sym, ap, ◌∙◌}
use mathlib.Core.Bool.{Bool, true, false, ◌&&◌, false≢true}
use mathlib.Core.List.{List}
use Prim.Native.Nat.{ℕ, ◌+◌, ◌*◌, ◌≤◌, ◌<◌}
use native.Mathlib.Omega.{arith}
use lib.ListN.{length}
use Rattle.std.proofs.Common.{Option, Some, None}
use Rattle.words.specs.Texts.{same_text}
use Rattle.words.specs.declared.texts.Range.{Range}
use Rattle.words.proofs.TestLaws.{low_or, and_both}
use Rattle.syntax.specs.Trees.{Elems, words, tree, covers, tiles, formed, is_tree_of}
use Rattle.syntax.specs.Accessors.{node_in, by_itself}
use Rattle.syntax.specs.Checks.{is_well_formed}
use Rattle.syntax.specs.Views.{elems_of}
use Rattle.syntax.specs.declared.parts.Part.{Part}
use Rattle.syntax.proofs.TreeLaws.{elems_end}
use Rattle.syntax.proofs.AccessorLaws.{node_none}
use Rattle.syntax.proofs.FormedLaws.{formed_is}
use Rattle.syntax.proofs.ViewLaws.{node_itself}
use Rattle.captures.specs.Attempts.{failed, and_then, given}
use Rattle.captures.specs.Effects.{nothing, Gives}
use Rattle.captures.specs.declared.State.{State}
use Rattle.captures.proofs.AttemptLaws.{given_true, given_false, then_right, gives_failed, gives_then, fails_then}
use Rattle.matcher.specs.Matcher.{Matcher}
use Rattle.matching.specs.Matching.{match_node, NodeGives}
use Rattle.get_match.specs.FirstPhase.{NodeFails}
use Rattle.get_match.specs.GetMatch.{is_within, TryGives}

-- a well-formed tree has a root
pub root_long : (l : List ℕ) → is_well_formed l ≡ true → 3 ≤ length l
unfolding is_tree_of
root_long l h =
    let w = formed_is l h in
    let p = and_both (same_text (words (tree l)) l && covers w.bytes (tree l)) (formed tiles (tree l)) w.is in
    let q = and_both (same_text (words (tree l)) l) (covers w.bytes (tree l)) p.0 in
    low_or (length l) 3 (λ s. absurd (false≢true (rw (elems_end 0 l s) at q.1))) (λ s. s)

-- a node is not empty
pub node_long : (c : Part) (d : Elems) → elems_of c ≡ by_itself d → node_in 1 4095 d ≡ true → 3 ≤ length c.words.now
node_long c d at is =
    low_or (length c.words.now) 3
    (λ s. absurd (false≢true (sym (node_none 1 4095 c.number c.words.now s) ∙ ap (node_in 1 4095) at ∙ node_itself 1 4095 d ∙ is)))
    (λ s. s)

-- ---- `try_match`, of the pattern's root and the node

module _ (x : Matcher) (p c : Part) (n : ℕ) (root d : Elems) (range : Option Range) (renders : Bool) (out : List ℕ) (is_root : elems_of p ≡ root) (is_node : elems_of c ≡ d) where
  -- outside the range
  pub outside : is_within range (elems_of c) ≡ false → TryGives x n root range d renders out None out
  outside h = record { gives = λ m b. rw (← is_node, h, given_false _) (gives_failed nothing out out refl) }

  module _ (inside : is_within range (elems_of c) ≡ true) where
    -- inside it, what is right for the node and then for the template is right
    within : (r : Option State) (out' : List ℕ)
        → ((m : ℕ) → 5 * n + 2 < m → Gives (and_then (match_node m x (elems_of p) (elems_of c)) (given renders)) nothing out r out')
        → TryGives x n root range d renders out r out'
    within r out' g = record { gives = λ m b. rw (← is_root, ← is_node, inside, given_true _) (g m b) }

    -- the first phase says that it does not match
    pub refused : NodeFails x (elems_of p) (elems_of c) → TryGives x n root range d renders out None out
    refused f = within None out (λ m b. fails_then _ (given renders) nothing out out (rw (f.fails m) (gives_failed nothing out out refl)))

    module _ (less : length p.words.now + length c.words.now ≤ n) (s : State) (starts : s ≡ nothing) where
      node_gives : (r : Option State) (out' : List ℕ) → NodeGives x p c s out r out' → (m : ℕ) → 5 * n + 2 < m
          → Gives (match_node m x (elems_of p) (elems_of c)) nothing out r out'
      node_gives r out' g m b = rw starts at (g.gives m (omega (arith, less, b)))

      -- it does not match
      pub fails : (out' : List ℕ) → NodeGives x p c s out None out' → TryGives x n root range d renders out None out'
      fails out' g = within None out' (λ m b. fails_then _ (given renders) nothing out out' (node_gives None out' g m b))

      module _ (t : State) (out' : List ℕ) (g : NodeGives x p c s out (Some t) out') where
        -- it does, but its template cannot be rendered there
        pub unrendered : renders ≡ false → TryGives x n root range d renders out None out'
        unrendered h =
            within None out' (λ m b. rw h (gives_then _ failed nothing out t out' None out' (node_gives (Some t) out' g m b) (gives_failed t out' out' refl)))

        -- it does, and there is no template or it can be rendered
        pub matches : renders ≡ true → TryGives x n root range d renders out (Some t) out'
        matches h = within (Some t) out' (λ m b. rw (h, then_right (match_node m x (elems_of p) (elems_of c))) (node_gives (Some t) out' g m b))
