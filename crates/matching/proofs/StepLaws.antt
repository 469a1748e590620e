-- One step of each definition of matching, by what its tests say.
-- Assumes nothing.
use mathlib.Core.Path.{◌≡◌, refl}
use mathlib.Core.Bool.{Bool, true, false, not, ◌&&◌}
use mathlib.Core.List.{[]}
use Prim.Native.Nat.{ℕ, suc}
use lib.Dec.{eqb}
use Rattle.std.proofs.Common.{Some, None}
use Rattle.syntax.specs.Trees.{Elems}
use Rattle.syntax.specs.Accessors.{children, rest, number_of, some, node_in, first_child, find_expression}
use Rattle.syntax.specs.Siblings.{kind_of, is_a_node, is_a_token, is_trivia, skip_trivia}
use Rattle.captures.specs.Attempts.{failed, matched, and_then, given}
use Rattle.captures.proofs.AttemptLaws.{given_true, given_false}
use Rattle.matcher.specs.Matcher.{Matcher, slot_of, is_resolved, is_a_call}
use Rattle.matcher.specs.Tokens.{matches_token, after_token, note}
use Rattle.token_trees.specs.TokenTrees.{match_token_tree}
use Rattle.calls.specs.Calls.{call_of, first_fits, same_resolution}
use Rattle.matching.specs.Matching.{capture, match_node, match_by_kind, match_sequences, match_opt, match_path, match_segments, match_record_field_list, match_ufcs, match_method_call, match_arguments}

module _ (x : Matcher) (p c : Elems) (n : ℕ) where
  -- ---- nodes
  pub node_takes : (slot : ℕ) → slot_of x p ≡ Some slot → match_node (suc n) x p c ≡ capture x slot c
  unfolding match_node
  node_takes slot h = rw h

  module _ (h : slot_of x p ≡ None) where
    pub node_method : (is_a_call (call_of x p) && node_in 65 65 c) ≡ true → match_node (suc n) x p c ≡ match_method_call n x p c
    unfolding match_node
    node_method m = rw (h, m)

    module _ (m : (is_a_call (call_of x p) && node_in 65 65 c) ≡ false) where
      pub node_ufcs : (is_a_call (call_of x p) && node_in 64 64 c) ≡ true → match_node (suc n) x p c ≡ match_ufcs n x p c
      unfolding match_node
      node_ufcs u = rw (h, m, u)

      pub node_kind : (is_a_call (call_of x p) && node_in 64 64 c) ≡ false → eqb (kind_of p) (kind_of c) ≡ true → match_node (suc n) x p c ≡ match_by_kind n x p c
      unfolding match_node
      node_kind u k = rw (h, m, u, k)

      pub node_other : (is_a_call (call_of x p) && node_in 64 64 c) ≡ false → eqb (kind_of p) (kind_of c) ≡ false → match_node (suc n) x p c ≡ failed
      unfolding match_node
      node_other u k = rw (h, m, u, k)

  pub kind_record : eqb (kind_of c) 8 ≡ true → match_by_kind (suc n) x p c ≡ match_record_field_list n x p c
  unfolding match_node
  kind_record h = rw (h)

  pub kind-tree : eqb (kind_of c) 8 ≡ false → eqb (kind_of c) 1 ≡ true → match_by_kind (suc n) x p c ≡ match_token_tree n x p c
  unfolding match_node
  kind-tree h t = rw (h, t)

  pub kind-path : eqb (kind_of c) 8 ≡ false → eqb (kind_of c) 1 ≡ false → eqb (kind_of c) 2 ≡ true → match_by_kind (suc n) x p c ≡ match_path n x p c
  unfolding match_node
  kind-path h t k = rw (h, t, k)

  pub kind-rest : eqb (kind_of c) 8 ≡ false → eqb (kind_of c) 1 ≡ false → eqb (kind_of c) 2 ≡ false
      → match_by_kind (suc n) x p c ≡ match_sequences n x (children p) (children c)
  unfolding match_node
  kind-rest h t k = rw (h, t, k)

  -- ---- two that may be absent
  pub opt_both : some p ≡ true → some c ≡ true → match_opt (suc n) x p c ≡ match_node n x p c
  unfolding match_node
  opt_both h k = rw (h, k)

  pub opt_pattern : some p ≡ true → some c ≡ false → match_opt (suc n) x p c ≡ failed
  unfolding match_node
  opt_pattern h k = rw (h, k)

  pub opt_code : some p ≡ false → some c ≡ true → match_opt (suc n) x p c ≡ failed
  unfolding match_node
  opt_code h k = rw (h, k)

  pub opt_none : some p ≡ false → some c ≡ false → match_opt (suc n) x p c ≡ matched []
  unfolding match_node
  opt_none h k = rw (h, k)

  -- ---- paths
  pub path_resolved : is_resolved (x.path_at (number_of p)) ≡ true
      → match_path (suc n) x p c ≡ and_then (match_segments n x (first_child 3 p) (first_child 3 c)) (given (same_resolution x p c))
  unfolding match_node
  path_resolved h = rw (h)

  pub path-plain : is_resolved (x.path_at (number_of p)) ≡ false → match_path (suc n) x p c ≡ match_sequences n x (children p) (children c)
  unfolding match_node
  path-plain h = rw (h)

  pub segments-none : (some p && some c) ≡ false → match_segments (suc n) x p c ≡ matched []
  unfolding match_node
  segments-none h = rw (h)

  pub segments-both : (some p && some c) ≡ true
      → match_segments (suc n) x p c ≡ and_then (match_opt n x (first_child 5 p) (first_child 5 c)) (match_opt n x (first_child 6 p) (first_child 6 c))
  unfolding match_node
  segments-both h = rw (h)

  -- ---- calls
  pub ufcs_fits : first_fits x p c ≡ true → match_ufcs (suc n) x p c ≡ match_sequences n x (children p) (children c)
  unfolding match_node
  ufcs_fits h = rw (h) (given_true (match_sequences n x (children p) (children c)))

  pub ufcs_other : first_fits x p c ≡ false → match_ufcs (suc n) x p c ≡ failed
  unfolding match_node
  ufcs_other h = rw (h) (given_false (match_sequences n x (children p) (children c)))

  -- ---- sequences
  pub sequence_end : some c ≡ false → match_sequences (suc n) x p c ≡ given (not (some (skip_trivia p)))
  unfolding match_node
  sequence_end h = rw (h)

  pub sequence_trivia : some c ≡ true → is_trivia c ≡ true → match_sequences (suc n) x p c ≡ and_then (note x.text c) (match_sequences n x (skip_trivia p) (rest c))
  unfolding match_node
  sequence_trivia h t = rw (h, t)

  pub sequence_token : some c ≡ true → is_trivia c ≡ false → is_a_token c ≡ true → matches_token x.sheet x.code x.text (skip_trivia p) c ≡ true
      → match_sequences (suc n) x p c ≡ match_sequences n x (after_token x.sheet (skip_trivia p) c) (rest c)
  unfolding match_node
  sequence_token h t k m = rw (h, t, k, m) (given_true (match_sequences n x (after_token x.sheet (skip_trivia p) c) (rest c)))

  pub sequence_other-token : some c ≡ true → is_trivia c ≡ false → is_a_token c ≡ true → matches_token x.sheet x.code x.text (skip_trivia p) c ≡ false
      → match_sequences (suc n) x p c ≡ failed
  unfolding match_node
  sequence_other-token h t k m = rw (h, t, k, m) (given_false (match_sequences n x (after_token x.sheet (skip_trivia p) c) (rest c)))

  pub sequence_node : some c ≡ true → is_trivia c ≡ false → is_a_token c ≡ false → is_a_node (skip_trivia p) ≡ true
      → match_sequences (suc n) x p c ≡ and_then (match_node n x (skip_trivia p) c) (match_sequences n x (rest (skip_trivia p)) (rest c))
  unfolding match_node
  sequence_node h t k m = rw (h, t, k, m) (given_true (and_then (match_node n x (skip_trivia p) c) (match_sequences n x (rest (skip_trivia p)) (rest c))))

  pub sequence_other : some c ≡ true → is_trivia c ≡ false → is_a_token c ≡ false → is_a_node (skip_trivia p) ≡ false → match_sequences (suc n) x p c ≡ failed
  unfolding match_node
  sequence_other h t k m = rw (h, t, k, m) (given_false (and_then (match_node n x (skip_trivia p) c) (match_sequences n x (rest (skip_trivia p)) (rest c))))

  -- ---- arguments
  pub arguments_end : some (find_expression p) ≡ false → some (find_expression c) ≡ false → match_arguments (suc n) x p c ≡ matched []
  unfolding match_node
  arguments_end h k = rw (h, k)

  pub arguments_turn : some (find_expression c) ≡ true
      → match_arguments (suc n) x p c ≡ and_then (match_opt n x (find_expression p) (find_expression c)) (match_arguments n x (rest (find_expression p)) (rest (find_expression c)))
  unfolding match_node
  arguments_turn k = by (some (find_expression p)) refl
    where
      by : (b : Bool) → some (find_expression p) ≡ b
          → match_arguments (suc n) x p c ≡ and_then (match_opt n x (find_expression p) (find_expression c)) (match_arguments n x (rest (find_expression p)) (rest (find_expression c)))
      by true e = rw (e)
      by false e = rw (e, k)
