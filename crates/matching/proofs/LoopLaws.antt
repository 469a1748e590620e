-- What is right for the loops of the cycle: at the end of a sequence, and for arguments in turn.
-- Assumes nothing.
use mathlib.Core.Path.{◌≡◌, refl, ◌∙◌}
use mathlib.Core.Bool.{true, false}
use mathlib.Core.List.{List}
use Prim.Native.Nat.{ℕ, zero, suc, ◌-◌, ◌≤◌}
use native.Mathlib.Omega.{arith}
use lib.ListN.{length}
use Rattle.std.proofs.Common.{Some, None}
use Rattle.syntax.specs.Trees.{Elems}
use Rattle.syntax.specs.Accessors.{rest, some, find_expression}
use Rattle.syntax.specs.Siblings.{skip_trivia}
use Rattle.syntax.specs.Views.{elems_of}
use Rattle.syntax.specs.declared.parts.Part.{Part}
use Rattle.syntax.proofs.SiblingLaws.{long_some}
use Rattle.captures.specs.declared.State.{State}
use Rattle.captures.specs.declared.Turn.{Turn}
use Rattle.captures.specs.Attempts.{Attempt, failed, and_then}
use Rattle.captures.specs.Turns.{GoesOn}
use Rattle.matcher.specs.Matcher.{Matcher}
use Rattle.matching.specs.Matching.{match_node, match_opt, match_sequences, match_arguments, SequencesGive, OptGives, ArgumentsGive}
use Rattle.matching.proofs.StepLaws.{sequence_end, arguments_end, arguments_turn as arguments_step}
use Rattle.matching.proofs.GiveLaws.{fails_at, done_at, first_fails, both_match}

-- ---- the end of a sequence

module _ (x : Matcher) (p q c : Part) (s : State) (out : List ℕ) (e : elems_of q ≡ skip_trivia (elems_of p)) (h : some (elems_of c) ≡ false) where
  pub sequence_done : some (elems_of q) ≡ false → SequencesGive x p c s out (Some s) out
  sequence_done t = done_at 4 match_sequences x p c s out (λ m. sequence_end x (elems_of p) (elems_of c) m h ∙ rw (← e, t))

  pub sequence_left : some (elems_of q) ≡ true → SequencesGive x p c s out None out
  sequence_left t = fails_at 4 match_sequences x p c s out out (λ m. sequence_end x (elems_of p) (elems_of c) m h ∙ rw (← e, t)) refl

-- ---- arguments in turn

opt_absent : (x : Matcher) (p c : Elems) (n : ℕ) → some p ≡ true → some c ≡ false → match_opt n x p c ≡ failed
unfolding match_node
opt_absent x p c zero h k = refl
opt_absent x p c (suc n) h k = rw (h, k)

failed_first : (b : Attempt) → and_then failed b ≡ failed
unfolding and_then
failed_first b = refl

module _ (x : Matcher) (p c y z : Part) (s : State) (out : List ℕ) (e : elems_of y ≡ find_expression (elems_of p)) (f : elems_of z ≡ find_expression (elems_of c)) where
  module _ (k : some (elems_of z) ≡ false) where
    pub arguments_done : some (elems_of y) ≡ false → ArgumentsGive x p c s out (Some s) out
    arguments_done h = done_at 4 match_arguments x p c s out (λ m. arguments_end x (elems_of p) (elems_of c) m (rw (← e) h) (rw (← f) k))

    absent : some (elems_of y) ≡ true → (m : ℕ) → match_arguments (suc m) x (elems_of p) (elems_of c) ≡ failed
    unfolding match_node
    absent h m = rw (← e, h, ← f, opt_absent x (elems_of y) (elems_of z) m h k) (failed_first (match_arguments m x (rest (elems_of y)) (rest (elems_of z))))

    pub arguments_left : some (elems_of y) ≡ true → ArgumentsGive x p c s out None out
    arguments_left h = fails_at 4 match_arguments x p c s out out (absent h) refl

  module _ (k : some (elems_of z) ≡ true) (v : length y.words.now ≤ length p.words.now) (w : length z.words.now ≤ length c.words.now) where
    pub arguments_fail : (out' : List ℕ) → OptGives x y z s out None out' → ArgumentsGive x p c s out None out'
    arguments_fail out' g = first_fails 4 match_arguments x p c s out 3 match_opt y z (omega (arith, v, w)) (λ m. match_arguments m x (rest (elems_of y)) (rest (elems_of z)))
        (λ m. arguments_step x (elems_of p) (elems_of c) m (rw (← f) k) ∙ rw (← e, ← f)) out' g

    pub arguments_turn : (u : Turn) (out' : List ℕ) (t : State) → OptGives x y z s out (Some t) out' → u.state ≡ t → elems_of u.p ≡ rest (elems_of y) → elems_of u.c ≡ rest (elems_of z)
        → length u.p.words.now ≤ length y.words.now - 3 → length u.c.words.now ≤ length z.words.now - 3 → GoesOn (ArgumentsGive x) (ArgumentsGive x) p c s out u out'
    arguments_turn u out' t g b i j l o = record {
      right = λ a end r. both_match 4 match_arguments x p c s out 3 match_opt y z (omega (arith, v, w)) (λ m. match_arguments m x (elems_of u.p) (elems_of u.c))
          (λ m. arguments_step x (elems_of p) (elems_of c) m (rw (← f) k) ∙ rw (← e, ← f, ← i, ← j)) t out' a end g (λ m h. rw (← b) (r.gives m (omega (arith, long_some z.number z.words.now k, v, w, l, o, h))));
    }
