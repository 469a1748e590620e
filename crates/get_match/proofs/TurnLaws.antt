-- A turn over siblings: what it says of them, by those that it leaves.
-- Assumes nothing.
use Rattle.std.proofs.Common.{◌≡◌, ◌≤◌, true, false, Some, None, length, ◌∙◌, le-leb}
use Rattle.syntax.specs.Trees.{Elems}
use Rattle.syntax.specs.Accessors.{children, rest, some}
use Rattle.syntax.specs.Siblings.{is_a_node, is_a_token, is_trivia, skip_trivia}
use Rattle.syntax.specs.Views.{elems_of}
use Rattle.syntax.specs.declared.parts.Part.{Part}
use Rattle.syntax.proofs.AccessorLaws.{some_is}
use Rattle.matcher.specs.Matcher.{Matcher}
use Rattle.matcher.specs.Tokens.{TokenIs}
use Rattle.get_match.specs.FirstPhase.{NodeFails, SiblingsFail, FailsIf}
use Rattle.get_match.proofs.FirstLaws.{end_never, trivia_never, token_never, tokens_never, absent_never, node_first_never, node_rest_never}

module _ (x : Matcher) (p q c : Part) (e : elems_of q ≡ skip_trivia (elems_of p)) (h : 3 ≤ length c.words.now) where
  there : some (elems_of c) ≡ true
  there = some_is c.number c.words.now ∙ le-leb 3 (length c.words.now) h

  module _ (d : Part) (f : elems_of d ≡ rest (elems_of c)) where
    pub turn_trivia : is_trivia (elems_of c) ≡ true → FailsIf x (elems_of q) (elems_of d) (SiblingsFail x (elems_of p) (elems_of c))
    turn_trivia t = record { whole = λ g. record { fails = trivia_never x (elems_of p) (elems_of c) there t (rw (← e, ← f) g) } }

    module _ (v : is_trivia (elems_of c) ≡ false) where
      pub turn_token : (y : Part) → is_a_token (elems_of c) ≡ true → TokenIs x q c (Some y) → FailsIf x (elems_of y) (elems_of d) (SiblingsFail x (elems_of p) (elems_of c))
      turn_token y t k = record { whole = λ g. record { fails = tokens_never x (elems_of p) (elems_of c) there v t (rw (← e, ← k.1, ← f) g) } }

      pub turn_node : (y : Part) → is_a_token (elems_of c) ≡ false → elems_of y ≡ rest (elems_of q) → FailsIf x (elems_of y) (elems_of d) (SiblingsFail x (elems_of p) (elems_of c))
      turn_node y t k = record { whole = λ g. record { fails = node_rest_never x (elems_of p) (elems_of c) there v t (rw (← e, ← k, ← f) g) } }

  module _ (v : is_trivia (elems_of c) ≡ false) where
    pub turn_token_fails : is_a_token (elems_of c) ≡ true → TokenIs x q c None → SiblingsFail x (elems_of p) (elems_of c)
    turn_token_fails t k = record { fails = token_never x (elems_of p) (elems_of c) there v t (rw (← e) k) }

    module _ (t : is_a_token (elems_of c) ≡ false) where
      pub turn_absent : is_a_node (elems_of q) ≡ false → SiblingsFail x (elems_of p) (elems_of c)
      turn_absent k = record { fails = absent_never x (elems_of p) (elems_of c) there v t (rw (← e) k) }

      pub turn_node_fails : NodeFails x (elems_of q) (elems_of c) → SiblingsFail x (elems_of p) (elems_of c)
      turn_node_fails k = record { fails = node_first_never x (elems_of p) (elems_of c) there v t (rw (← e) k) }

      pub turn_below : (y z : Part) → elems_of y ≡ children (elems_of q) → elems_of z ≡ children (elems_of c) → FailsIf x (children (elems_of q)) (children (elems_of c)) (NodeFails x (elems_of q) (elems_of c))
          → FailsIf x (elems_of y) (elems_of z) (SiblingsFail x (elems_of p) (elems_of c))
      turn_below y z a b k = record { whole = λ g. turn_node_fails (k.whole (rw (← a, ← b) g)) }

-- ---- turns in a row

pub first_turn : (x : Matcher) (p c : Elems) → FailsIf x p c (SiblingsFail x p c)
first_turn x p c = record { whole = λ g. g }

pub next_turn : (x : Matcher) (p c q d y z : Elems) → FailsIf x q d (SiblingsFail x p c) → FailsIf x y z (SiblingsFail x q d) → FailsIf x y z (SiblingsFail x p c)
next_turn x p c q d y z f g = record { whole = λ h. f.whole (g.whole h) }

pub last_turn : (x : Matcher) (p c q d : Elems) → FailsIf x q d (SiblingsFail x p c) → SiblingsFail x q d → SiblingsFail x p c
last_turn x p c q d f g = f.whole g

pub end_fails : (x : Matcher) (p q c : Elems) → q ≡ skip_trivia p → some c ≡ false → some q ≡ true → SiblingsFail x p c
end_fails x p q c e h k = record { fails = end_never x p c h (rw (← e) k) }

pub node_below : (x : Matcher) (p c ps cs : Elems) → FailsIf x (children p) (children c) (NodeFails x p c) → ps ≡ children p → cs ≡ children c → SiblingsFail x ps cs → NodeFails x p c
node_below x p c ps cs f a b g = f.whole (rw (← a, ← b) g)
