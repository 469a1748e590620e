-- The functions of `token_trees::token_trees` end: their measure is three times the words that are left.
use mathlib.Core.Path.{◌≡◌}
use Prim.Native.Nat.{ℕ, ◌+◌, ◌*◌, ◌≤◌}
use lib.ListN.{length}
use Rattle.captures.specs.Turns.{GoesOn}
use Rattle.matcher.specs.Matcher.{matcher_of}
use Rattle.token_trees.specs.TokenTrees.{TokensGive, TokenTreeGives}
use Rattle.token_trees.proofs.token_trees.+token_tree.Given as goal

abbrev pub decreases-attempt_match_token_tree : goal.decreases-attempt_match_token_tree
decreases-attempt_match_token_tree l = 3 * (length l.p.words.now + length l.c.words.now)

abbrev pub decreases-run_turn : goal.decreases-run_turn
decreases-run_turn l = 3 * (length l.p.words.now + length l.c.words.now)

abbrev pub decreases-token_turn : goal.decreases-token_turn
decreases-token_turn l = 3 * (length l.p.words.now + length l.c.words.now) + 1

abbrev pub invariant-attempt_match_token_tree-loop-t : goal.invariant-attempt_match_token_tree-loop-t
invariant-attempt_match_token_tree-loop-t l = record {
  p_short : length l.t.p.words.now ≤ length l.p.words.now;
  c_short : length l.t.c.words.now + 3 ≤ length l.c.words.now;
  long : length l.out ≡ length l.initial.out;
  goes_on : GoesOn (TokensGive (matcher_of l.x)) (TokenTreeGives (matcher_of l.x)) l.p l.c l.fn.s l.initial.out l.t l.out;
}

abbrev pub decreases-attempt_match_token_tree-loop-t : goal.decreases-attempt_match_token_tree-loop-t
decreases-attempt_match_token_tree-loop-t l = length l.t.c.words.now
