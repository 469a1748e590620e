-- What each branch comes to of the functions that match two nodes, nodes of one kind, two that may be absent, and the segments of paths.
-- Assumes nothing.
use mathlib.Core.Path.{◌≡◌, refl, sym, ap, ◌∙◌}
use mathlib.Core.Bool.{Bool, true, false, not, ◌&&◌, ◌||◌}
use mathlib.Core.List.{List}
use Prim.Native.Nat.{ℕ, ◌-◌, ◌≤◌}
use native.Mathlib.Omega.{arith}
use lib.ListN.{length}
use borrow.Author.Tests.{eq-eqb, ne_eqb}
use Rattle.std.proofs.Common.{Option, Some, None}
use Rattle.std.specs.Prelude.{is_some}
use Rattle.syntax.specs.Accessors.{children, number_of, some, node_in, first_child}
use Rattle.syntax.specs.Siblings.{kind_of}
use Rattle.syntax.specs.Views.{elems_of}
use Rattle.syntax.specs.declared.parts.Part.{Part}
use Rattle.words.proofs.TestLaws.{and_both}
use Rattle.syntax.proofs.AccessorLaws.{number_is}
use Rattle.syntax.proofs.SiblingLaws.{long_some}
use Rattle.captures.specs.declared.SelfKind.TheVariants.{Owned}
use Rattle.captures.specs.declared.State.{State}
use Rattle.captures.specs.Attempts.{Bound}
use Rattle.captures.specs.Effects.{binding, recorded_one}
use Rattle.matcher.specs.Matcher.{Matcher, slot_of, is_a_call}
use Rattle.token_trees.specs.TokenTrees.{TokenTreeGives}
use Rattle.calls.specs.Calls.{call_of}
use Rattle.matching.specs.Matching.{match_node, match_by_kind, match_sequences, match_opt, match_path, match_segments, match_record_field_list, match_ufcs, match_method_call, NodeGives, ByKindGives, SequencesGive, OptGives, PathGives, SegmentsGive, RecordGives, UfcsGives, MethodCallGives}
use Rattle.matching.proofs.StepLaws as step
use Rattle.matching.proofs.GiveLaws.{from_step, fails_at, done_at, event_at, same_at, first_fails, both_match}

-- ---- nodes

module _ (x : Matcher) (p c : Part) (s : State) (out : List ℕ) (h : 3 ≤ length p.words.now) where
  number : number_of (elems_of p) ≡ p.number
  number = number_is p.number p.words.now h

  -- a placeholder's constraints allow the code's node, or not
  module _ (slot : ℕ) (e : x.slot_at p.number ≡ Some slot) where
    taken : slot_of x (elems_of p) ≡ Some slot
    taken = ap x.slot_at number ∙ e

    pub node_bound : (t : State) (literal : Bool) → literal ≡ node_in 66 66 (elems_of c) → x.allows slot literal ≡ true → ((room : ℕ) → t ≡ recorded_one room (Bound slot (binding (elems_of c) (elems_of c) 0 Owned)) s)
        → NodeGives x p c s out (Some t) out
    node_bound t literal l a b = rw (b (length out)) (event_at 2 match_node x p c s out (Bound slot (binding (elems_of c) (elems_of c) 0 Owned)) (λ m. step.node_takes x (elems_of p) (elems_of c) m slot taken ∙ rw (← l, a)))

    pub node_barred : (literal : Bool) → literal ≡ node_in 66 66 (elems_of c) → x.allows slot literal ≡ false → NodeGives x p c s out None out
    node_barred literal l a = fails_at 2 match_node x p c s out out (λ m. step.node_takes x (elems_of p) (elems_of c) m slot taken ∙ rw (← l, a)) refl

  -- a call, two of one kind, and two others
  module _ (e : x.slot_at p.number ≡ None) where
    free : slot_of x (elems_of p) ≡ None
    free = ap x.slot_at number ∙ e

    call : (kind : ℕ) {b : Bool} → (is_some (x.call_at p.number) && node_in kind kind (elems_of c)) ≡ b → (is_a_call (call_of x (elems_of p)) && node_in kind kind (elems_of c)) ≡ b
    call kind k = ap (λ (n : ℕ). is_some (x.call_at n) && node_in kind kind (elems_of c)) number ∙ k

    pub node_method : (r : Option State) (out' : List ℕ) → (is_some (x.call_at p.number) && node_in 65 65 (elems_of c)) ≡ true → MethodCallGives x p c s out r out' → NodeGives x p c s out r out'
    node_method r out' m g = same_at 2 match_node x p c s out 1 match_method_call p c (omega arith) r out' (λ n. step.node_method x (elems_of p) (elems_of c) n free (call 65 m)) g

    module _ (m : (is_some (x.call_at p.number) && node_in 65 65 (elems_of c)) ≡ false) where
      pub node_ufcs : (r : Option State) (out' : List ℕ) → (is_some (x.call_at p.number) && node_in 64 64 (elems_of c)) ≡ true → UfcsGives x p c s out r out' → NodeGives x p c s out r out'
      node_ufcs r out' u g = same_at 2 match_node x p c s out 0 match_ufcs p c (omega arith) r out' (λ n. step.node_ufcs x (elems_of p) (elems_of c) n free (call 65 m) (call 64 u)) g

      module _ (u : (is_some (x.call_at p.number) && node_in 64 64 (elems_of c)) ≡ false) where
        pub node_kind : (r : Option State) (out' : List ℕ) → kind_of (elems_of p) ≡ kind_of (elems_of c) → ByKindGives x p c s out r out' → NodeGives x p c s out r out'
        node_kind r out' k g = same_at 2 match_node x p c s out 1 match_by_kind p c (omega arith) r out' (λ n. step.node_kind x (elems_of p) (elems_of c) n free (call 65 m) (call 64 u) (eq-eqb _ _ k)) g

        pub node_other : (kind_of (elems_of p) ≡ kind_of (elems_of c) → ⊥) → NodeGives x p c s out None out
        node_other k = fails_at 2 match_node x p c s out out (λ n. step.node_other x (elems_of p) (elems_of c) n free (call 65 m) (call 64 u) (ne_eqb _ _ k)) refl

-- ---- two of one kind

module _ (x : Matcher) (p c : Part) (s : State) (out : List ℕ) (r : Option State) (out' : List ℕ) where
  pub kind_record : kind_of (elems_of c) ≡ 8 → RecordGives x p c s out r out' → ByKindGives x p c s out r out'
  kind_record k g = same_at 1 match_by_kind x p c s out 0 match_record_field_list p c (omega arith) r out' (λ n. step.kind_record x (elems_of p) (elems_of c) n (eq-eqb _ 8 k)) g

  pub kind_tree : kind_of (elems_of c) ≡ 1 → TokenTreeGives x p c s out r out' → ByKindGives x p c s out r out'
  kind_tree k g = from_step 1 match_by_kind x p c s out r out'
      (λ m b. rw (step.kind-tree x (elems_of p) (elems_of c) m (rw k) (eq-eqb _ 1 k)) (g.gives m (omega (arith, b))))

  pub kind_path : kind_of (elems_of c) ≡ 2 → PathGives x p c s out r out' → ByKindGives x p c s out r out'
  kind_path k g = same_at 1 match_by_kind x p c s out 0 match_path p c (omega arith) r out' (λ n. step.kind-path x (elems_of p) (elems_of c) n (rw k) (rw k) (eq-eqb _ 2 k)) g

  pub kind_rest : (ps cs : Part) → (kind_of (elems_of c) ≡ 8 → ⊥) → (kind_of (elems_of c) ≡ 1 → ⊥) → (kind_of (elems_of c) ≡ 2 → ⊥)
      → elems_of ps ≡ children (elems_of p) → elems_of cs ≡ children (elems_of c) → length ps.words.now ≤ length p.words.now - 3 → length cs.words.now ≤ length c.words.now - 3
      → 3 ≤ length p.words.now → 3 ≤ length c.words.now → SequencesGive x ps cs s out r out' → ByKindGives x p c s out r out'
  kind_rest ps cs a b d e f h k l m g = same_at 1 match_by_kind x p c s out 4 match_sequences ps cs (omega (arith, h, k, l, m)) r out'
      (λ n. step.kind-rest x (elems_of p) (elems_of c) n (ne_eqb _ 8 a) (ne_eqb _ 1 b) (ne_eqb _ 2 d) ∙ rw (e, f)) g

-- ---- two that may be absent

not_false : (b : Bool) → not b ≡ false → b ≡ true
not_false true e = refl
not_false false e = sym e

not_true : (b : Bool) → not b ≡ true → b ≡ false
not_true true e = sym e
not_true false e = refl

module _ (x : Matcher) (p c : Part) (s : State) (out : List ℕ) where
  pub opt_both : (r : Option State) (out' : List ℕ) → not (some (elems_of p)) ≡ false → not (some (elems_of c)) ≡ false → NodeGives x p c s out r out' → OptGives x p c s out r out'
  opt_both r out' h k g = same_at 3 match_opt x p c s out 2 match_node p c (omega arith) r out' (λ n. step.opt_both x (elems_of p) (elems_of c) n (not_false (some (elems_of p)) h) (not_false (some (elems_of c)) k)) g

  pub opt_none : not (some (elems_of p)) ≡ true → not (some (elems_of c)) ≡ true → OptGives x p c s out (Some s) out
  opt_none h k = done_at 3 match_opt x p c s out (λ n. step.opt_none x (elems_of p) (elems_of c) n (not_true (some (elems_of p)) h) (not_true (some (elems_of c)) k))

  pub opt_pattern : not (some (elems_of p)) ≡ false → not (some (elems_of c)) ≡ true → OptGives x p c s out None out
  opt_pattern h k = fails_at 3 match_opt x p c s out out (λ n. step.opt_pattern x (elems_of p) (elems_of c) n (not_false (some (elems_of p)) h) (not_true (some (elems_of c)) k)) refl

  pub opt_code : not (some (elems_of p)) ≡ true → not (some (elems_of c)) ≡ false → OptGives x p c s out None out
  opt_code h k = fails_at 3 match_opt x p c s out out (λ n. step.opt_code x (elems_of p) (elems_of c) n (not_true (some (elems_of p)) h) (not_false (some (elems_of c)) k)) refl

-- ---- the segments of two paths

module _ (x : Matcher) (p c : Part) (s : State) (out : List ℕ) where
  pub segments_none : (not (some (elems_of p)) || not (some (elems_of c))) ≡ true → SegmentsGive x p c s out (Some s) out
  segments_none h = done_at 0 match_segments x p c s out (λ n. step.segments-none x (elems_of p) (elems_of c) n (one_absent (some (elems_of p)) (some (elems_of c)) h))
    where
      one_absent : (a b : Bool) → (not a || not b) ≡ true → (a && b) ≡ false
      one_absent true b e = by b e
        where
          by : (b : Bool) → not b ≡ true → b ≡ false
          by true e = sym e
          by false e = refl
      one_absent false b e = refl

  module _ (h : (not (some (elems_of p)) || not (some (elems_of c))) ≡ false) (q d : Part) (e : elems_of q ≡ first_child 5 (elems_of p)) (f : elems_of d ≡ first_child 5 (elems_of c))
      (k : length q.words.now ≤ length p.words.now - 3) (l : length d.words.now ≤ length c.words.now - 3) where
    present : (some (elems_of p) && some (elems_of c)) ≡ true
    present = by (some (elems_of p)) (some (elems_of c)) h
      where
        by : (a b : Bool) → (not a || not b) ≡ false → (a && b) ≡ true
        by true true e = refl
        by true false e = sym e
        by false b e = sym e

    long : 3 ≤ length p.words.now
    long = omega (arith, long_some p.number p.words.now (and_both (some (elems_of p)) (some (elems_of c)) present).0)

    pub segments_fail : (out' : List ℕ) → OptGives x q d s out None out' → SegmentsGive x p c s out None out'
    segments_fail out' g = first_fails 0 match_segments x p c s out 3 match_opt q d (omega (arith, long, k, l)) (λ n. match_opt n x (first_child 6 (elems_of p)) (first_child 6 (elems_of c))) (λ n. step.segments-both x (elems_of p) (elems_of c) n present ∙ rw (← e, ← f)) out' g

    pub segments_both : (y z : Part) (t : State) (out' : List ℕ) (r : Option State) (end : List ℕ) → OptGives x q d s out (Some t) out' → elems_of y ≡ first_child 6 (elems_of p) → elems_of z ≡ first_child 6 (elems_of c)
        → length y.words.now ≤ length p.words.now - 3 → length z.words.now ≤ length c.words.now - 3 → OptGives x y z t out' r end → SegmentsGive x p c s out r end
    segments_both y z t out' r end g i j m o w = both_match 0 match_segments x p c s out 3 match_opt q d (omega (arith, long, k, l)) (λ n. match_opt n x (first_child 6 (elems_of p)) (first_child 6 (elems_of c))) (λ n. step.segments-both x (elems_of p) (elems_of c) n present ∙ rw (← e, ← f)) t out' r end g
        (λ n b. rw (← i, ← j) (w.gives n (omega (arith, long, m, o, b))))
