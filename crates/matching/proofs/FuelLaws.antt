-- More calls change nothing of a match: what matches within a bound matches, with the same events, within any larger one.
-- Assumes nothing.
use mathlib.Core.Path.{◌≡◌, refl, sym, ap, ◌∙◌}
use mathlib.Core.Bool.{Bool, true, false, ◌&&◌, ◌||◌}
use mathlib.Core.List.{List}
use Prim.Native.Nat.{ℕ, zero, suc, ◌≤◌}
use native.Mathlib.Omega.{arith}
use lib.Dec.{eqb, leb}
use borrow.Author.Tests.{leb-true, leb-false}
use Rattle.syntax.specs.Trees.{Elems, none, token, node}
use Rattle.syntax.specs.Accessors.{children, number_of, some, node_in, find_expression}
use Rattle.syntax.specs.Siblings.{kind_of, is_a_token, is_trivia}
use Rattle.captures.specs.Attempts.{Event, Attempt, matched}
use Rattle.captures.proofs.PartLaws.{events_of}
use Rattle.matcher.specs.Matcher.{Matcher, slot_of, is_resolved, is_a_call, has_placeholder_name}
use Rattle.record_fields.specs.Fields.{pattern_name}
use Rattle.token_trees.proofs.FuelLaws.{Below, below_refl, below-failed, below_then, below_cond, below_slot, below_more, step-tree}
use Rattle.calls.specs.Calls.{call_of, takes_receiver}
use Rattle.matching.specs.RecordFields.{match_field, match_fields}
use Rattle.matching.specs.Matching.{match_node, match_by_kind, match_sequences, match_opt, match_path, match_segments, match_record_field_list, match_ufcs, match_method_call, match_receiver, match_arguments}

-- ---- the fields of a record list, from what matches one field and what matches by order
module _ (match match' : Elems → Elems → Attempt) (f : (q e : Elems) → Below (match q e) (match' q e)) (inOrder inOrder' : Attempt) (g : Below
    inOrder inOrder') (x : Matcher) (ps cs : Elems) where
  below_field : (q : Elems) {next next' : Attempt} → Below next next' → Below (match_field match inOrder x ps cs q next) (match_field match' inOrder' x
      ps cs q next')
  below_field q h = below_cond (has_placeholder_name x q) g (below_cond (some (pattern_name q)) (below_then (below_refl _) (below_then (f q _) h)) h)

  below_fields : (qs : Elems) → Below (match_fields match inOrder x ps cs qs) (match_fields match' inOrder' x ps cs qs)
  unfolding match_fields
  below_fields none = below_refl _
  below_fields (token i k s e r) = below_field (token i k s e r) (below_fields r)
  below_fields (node i k s e ds r) = below_field (node i k s e ds r) (below_fields r)

-- ---- one more call
mutual
  unfolding match_node

  pub step-node : (n : ℕ) (x : Matcher) (p c : Elems) → Below (match_node n x p c) (match_node (suc n) x p c)
  step-node zero x p c = below-failed _
  step-node (suc n) x p c =
      below_slot (slot_of x p) (λ slot. below_refl _)
      (below_cond (is_a_call (call_of x p) && node_in 65 65 c) (step-method-call n x p c)
      (below_cond (is_a_call (call_of x p) && node_in 64 64 c) (step-ufcs n x p c)
      (below_cond (eqb (kind_of p) (kind_of c)) (step-by-kind n x p c) (below_refl _))))

  step-by-kind : (n : ℕ) (x : Matcher) (p c : Elems) → Below (match_by_kind n x p c) (match_by_kind (suc n) x p c)
  step-by-kind zero x p c = below-failed _
  step-by-kind (suc n) x p c =
      below_cond (eqb (kind_of c) 8) (step-record n x p c)
      (below_cond (eqb (kind_of c) 1) (step-tree n x p c)
      (below_cond (eqb (kind_of c) 2) (step-path n x p c) (step-sequences n x _ _)))

  step-sequences : (n : ℕ) (x : Matcher) (ps cs : Elems) → Below (match_sequences n x ps cs) (match_sequences (suc n) x ps cs)
  step-sequences zero x ps cs = below-failed _
  step-sequences (suc n) x ps cs =
      below_cond (some cs)
      (below_cond (is_trivia cs) (below_then (below_refl _) (step-sequences n x _ _))
      (below_cond (is_a_token cs) (below_then (below_refl _) (step-sequences n x _ _))
      (below_then (below_refl _) (below_then (step-node n x _ _) (step-sequences n x _ _)))))
      (below_refl _)

  pub step-opt : (n : ℕ) (x : Matcher) (p c : Elems) → Below (match_opt n x p c) (match_opt (suc n) x p c)
  step-opt zero x p c = below-failed _
  step-opt (suc n) x p c = below_cond (some p) (below_cond (some c) (step-node n x p c) (below_refl _)) (below_refl _)

  step-path : (n : ℕ) (x : Matcher) (p c : Elems) → Below (match_path n x p c) (match_path (suc n) x p c)
  step-path zero x p c = below-failed _
  step-path (suc n) x p c =
      below_cond (is_resolved (x.path_at (number_of p))) (below_then (step-segments n x _ _) (below_refl _)) (step-sequences n x _ _)

  step-segments : (n : ℕ) (x : Matcher) (p c : Elems) → Below (match_segments n x p c) (match_segments (suc n) x p c)
  step-segments zero x p c = below-failed _
  step-segments (suc n) x p c = below_cond (some p && some c) (below_then (step-opt n x _ _) (step-opt n x _ _)) (below_refl _)

  step-record : (n : ℕ) (x : Matcher) (p c : Elems) → Below (match_record_field_list n x p c) (match_record_field_list (suc n) x p c)
  step-record zero x p c = below-failed _
  step-record (suc n) x p c = below_fields _ _ (λ q e. step-opt n x q e) _ _ (step-sequences n x _ _) x _ _ (children p)

  step-ufcs : (n : ℕ) (x : Matcher) (p c : Elems) → Below (match_ufcs n x p c) (match_ufcs (suc n) x p c)
  step-ufcs zero x p c = below-failed _
  step-ufcs (suc n) x p c = below_then (below_refl _) (step-sequences n x _ _)

  step-method-call : (n : ℕ) (x : Matcher) (p c : Elems) → Below (match_method_call n x p c) (match_method_call (suc n) x p c)
  step-method-call zero x p c = below-failed _
  step-method-call (suc n) x p c =
      below_then (below_refl _)
      (below_then (below_cond (takes_receiver x p c) (step-receiver n x p c) (below_refl _)) (below_then (below_refl _) (step_arguments n x _ _)))

  step-receiver : (n : ℕ) (x : Matcher) (p c : Elems) → Below (match_receiver n x p c) (match_receiver (suc n) x p c)
  step-receiver zero x p c = below-failed _
  step-receiver (suc n) x p c = below_then (below_refl _) (below_then (step-opt n x _ _) (below_refl _))

  step_arguments : (n : ℕ) (x : Matcher) (ps cs : Elems) → Below (match_arguments n x ps cs) (match_arguments (suc n) x ps cs)
  step_arguments zero x ps cs = below-failed _
  step_arguments (suc n) x ps cs =
      below_cond (some (find_expression ps) || some (find_expression cs)) (below_then (step-opt n x _ _) (step_arguments n x _ _)) (below_refl _)

-- ---- any larger bound
pub more_node : (m n : ℕ) → m ≤ n → (x : Matcher) (p c : Elems) (es : List Event) → match_node m x p c ≡ matched es → match_node n x p c ≡ matched es
more_node m n h x p c = below_more (λ k. match_node k x p c) (λ k. step-node k x p c) m n h

pub more_sequences : (m n : ℕ) → m ≤ n → (x : Matcher) (ps cs : Elems) (es : List Event) → match_sequences m x ps cs ≡ matched es → match_sequences n x
    ps cs ≡ matched es
more_sequences m n h x ps cs = below_more (λ k. match_sequences k x ps cs) (λ k. step-sequences k x ps cs) m n h

-- ---- so two bounds within which an attempt matches give the same events
pub one-outcome : (f : ℕ → Attempt) → ((m n : ℕ) → m ≤ n → Below (f m) (f n)) → (m n : ℕ) (es fs : List Event) → f m ≡ matched es → f n ≡ matched fs
    → es ≡ fs
one-outcome f more m n es fs e g = by (leb m n) refl
  where
    by : (b : Bool) → leb m n ≡ b → es ≡ fs
    by true h = ap events_of (sym (more m n (leb-true m n h) es e) ∙ g)
    by false h = ap events_of (sym e ∙ more n m (omega (arith, leb-false m n h)) fs g)
