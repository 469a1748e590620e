-- What each branch comes to of the functions that match paths and calls.
-- Assumes nothing.
use mathlib.Core.Path.{◌≡◌, refl, sym, ap, ◌∙◌}
use mathlib.Core.Bool.{Bool, true, false, cond, not, ◌&&◌, ◌||◌, false≢true}
use mathlib.Core.List.{List, []}
use Prim.Native.Nat.{ℕ, suc, ◌-◌, ◌≤◌}
use native.Mathlib.Omega.{arith}
use lib.ListN.{length}
use Rattle.std.proofs.Common.{Option, Some, None}
use Rattle.std.specs.Prelude.{is_some}
use Rattle.syntax.specs.Trees.{Elems}
use Rattle.syntax.specs.Accessors.{children, rest, number_of, some, first_child, find_expression}
use Rattle.syntax.specs.Views.{elems_of}
use Rattle.syntax.specs.declared.parts.Part.{Part}
use Rattle.syntax.proofs.AccessorLaws.{number_is}
use Rattle.captures.specs.declared.State.{State}
use Rattle.captures.specs.Attempts.{Attempt, failed, matched, and_then, given}
use Rattle.captures.specs.Effects.{Gives}
use Rattle.captures.proofs.AttemptLaws.{given_true, given_false, then_nothing, gives_done, gives_failed}
use Rattle.matcher.specs.Matcher.{Matcher}
use Rattle.calls.specs.Calls.{arguments_of, argument_of, receiver_of, receiver_derefs, first_fits, same_resolution, same_function, takes_receiver, receiver_fits, prefix, prefixed, arguments_left}
use Rattle.calls.proofs.CallLaws.{receiver_fits_is, prefixed_is}
use Rattle.matching.specs.Matching.{match_node, match_opt, match_sequences, match_path, match_segments, match_ufcs, match_method_call, match_receiver, match_arguments, PathGives, SegmentsGive, SequencesGive, UfcsGives, OptGives, MethodCallGives, ReceiverGives, ArgumentsGive}
use Rattle.matching.proofs.StepLaws.{path_resolved, path-plain, ufcs_fits as ufcs_step, ufcs_other as ufcs_fails}
use Rattle.matching.proofs.GiveLaws.{fails_at, same_at, first_fails, both_match}

-- ---- paths

module _ (x : Matcher) (p c : Part) (s : State) (out : List ℕ) (h : 3 ≤ length p.words.now) (k : 3 ≤ length c.words.now) where
  number : number_of (elems_of p) ≡ p.number
  number = number_is p.number p.words.now h

  pub path_plain : (ps cs : Part) (r : Option State) (out' : List ℕ) → is_some (x.path_at p.number) ≡ false → elems_of ps ≡ children (elems_of p) → elems_of cs ≡ children (elems_of c)
      → length ps.words.now ≤ length p.words.now - 3 → length cs.words.now ≤ length c.words.now - 3 → SequencesGive x ps cs s out r out' → PathGives x p c s out r out'
  path_plain ps cs r out' t e f l m g = same_at 0 match_path x p c s out 4 match_sequences ps cs (omega (arith, h, k, l, m)) r out'
      (λ n. path-plain x (elems_of p) (elems_of c) n (ap (λ (j : ℕ). is_some (x.path_at j)) number ∙ t) ∙ rw (e, f)) g

  module _ (t : is_some (x.path_at p.number) ≡ true) (y z : Part) (e : elems_of y ≡ first_child 3 (elems_of p)) (f : elems_of z ≡ first_child 3 (elems_of c))
      (l : length y.words.now ≤ length p.words.now - 3) (m : length z.words.now ≤ length c.words.now - 3) where
    step : (n : ℕ) → match_path (suc n) x (elems_of p) (elems_of c) ≡ and_then (match_segments n x (elems_of y) (elems_of z)) (given (same_resolution x (elems_of p) (elems_of c)))
    step n = path_resolved x (elems_of p) (elems_of c) n (ap (λ (j : ℕ). is_some (x.path_at j)) number ∙ t) ∙ rw (e, f)

    pub path_fails : (out' : List ℕ) → SegmentsGive x y z s out None out' → PathGives x p c s out None out'
    path_fails out' g = first_fails 0 match_path x p c s out 0 match_segments y z (omega (arith, h, k, l, m)) (λ n. given (same_resolution x (elems_of p) (elems_of c))) step out' g

    test : (b : Bool) → same_resolution x (elems_of p) (elems_of c) ≡ b → (u : State) (out' : List ℕ) (r : Option State) → Gives (given b) u out' r out' → SegmentsGive x y z s out (Some u) out' → PathGives x p c s out r out'
    test b v u out' r g w = both_match 0 match_path x p c s out 0 match_segments y z (omega (arith, h, k, l, m)) (λ n. given (same_resolution x (elems_of p) (elems_of c))) step u out' r out' w (λ n i. rw v g)

    pub path_same : (u : State) (out' : List ℕ) → SegmentsGive x y z s out (Some u) out' → same_resolution x (elems_of p) (elems_of c) ≡ true → PathGives x p c s out (Some u) out'
    path_same u out' g v = test true v u out' (Some u) (gives_done u out') g

    pub path_other : (u : State) (out' : List ℕ) → SegmentsGive x y z s out (Some u) out' → same_resolution x (elems_of p) (elems_of c) ≡ false → PathGives x p c s out None out'
    path_other u out' g v = test false v u out' None (gives_failed u out' out' refl) g

-- ---- a call with a call

module _ (x : Matcher) (p c : Part) (s : State) (out : List ℕ) where
  pub ufcs_fits : (ps cs : Part) (r : Option State) (out' : List ℕ) → first_fits x (elems_of p) (elems_of c) ≡ true → elems_of ps ≡ children (elems_of p) → elems_of cs ≡ children (elems_of c)
      → length ps.words.now ≤ length p.words.now - 3 → length cs.words.now ≤ length c.words.now - 3 → 3 ≤ length p.words.now → 3 ≤ length c.words.now → SequencesGive x ps cs s out r out' → UfcsGives x p c s out r out'
  ufcs_fits ps cs r out' t e f l m h k g = same_at 0 match_ufcs x p c s out 4 match_sequences ps cs (omega (arith, h, k, l, m)) r out' (λ n. ufcs_step x (elems_of p) (elems_of c) n t ∙ rw (e, f)) g

  pub ufcs_other : first_fits x (elems_of p) (elems_of c) ≡ false → UfcsGives x p c s out None out
  ufcs_other t = fails_at 0 match_ufcs x p c s out out (λ n. ufcs_fails x (elems_of p) (elems_of c) n t) refl

-- ---- one step of each
then_failed : (a : Attempt) → and_then a failed ≡ failed
unfolding and_then
then_failed failed = refl
then_failed (matched es) = refl

module _ (x : Matcher) (p c : Elems) (n : ℕ) where
  method-receives : same_function x p c ≡ true → some (first_child 7 p) ≡ true → some (first_child 7 c) ≡ true → takes_receiver x p c ≡ true
      → match_method_call (suc n) x p c ≡ and_then (match_receiver n x p c) (match_arguments n x (rest (argument_of p)) (arguments_of c))
  unfolding match_node
  method-receives f a b t = rw (f, a, b, t, given_true (match_arguments n x (rest (argument_of p)) (arguments_of c)))
      (given_true (and_then (match_receiver n x p c) (match_arguments n x (rest (argument_of p)) (arguments_of c))))

  method_leaves : same_function x p c ≡ true → some (first_child 7 p) ≡ true → some (first_child 7 c) ≡ true → takes_receiver x p c ≡ false
      → match_method_call (suc n) x p c ≡ match_arguments n x (arguments_of p) (arguments_of c)
  unfolding match_node
  method_leaves f a b t = rw (f, a, b, t, given_true (match_arguments n x (arguments_of p) (arguments_of c)), then_nothing (match_arguments n x (arguments_of p) (arguments_of c)))
      (given_true (match_arguments n x (arguments_of p) (arguments_of c)))

  method-other : same_function x p c ≡ false → match_method_call (suc n) x p c ≡ failed
  unfolding match_node
  method-other f = rw (f) (given_false _)

  method_listless : some (first_child 7 p) ≡ false → match_method_call (suc n) x p c ≡ failed
  unfolding match_node
  method_listless a = by (same_function x p c) refl
    where
      by : (b : Bool) → same_function x p c ≡ b → match_method_call (suc n) x p c ≡ failed
      by true e = rw (e, a) (given_false _)
      by false e = rw (e) (given_false _)

  method_code_listless : some (first_child 7 c) ≡ false → match_method_call (suc n) x p c ≡ failed
  unfolding match_node
  method_code_listless b =
      rw (b, given_false (match_arguments n x (arguments_left x p c) (arguments_of c)), then_failed (cond (takes_receiver x p c) (match_receiver n x p c) (matched [])))
      (then_failed (given (same_function x p c && some (first_child 7 p))))

  receiver_fits_lem : receiver_fits x p c ≡ true → match_receiver (suc n) x p c ≡ and_then (match_opt n x (argument_of p) (receiver_of c)) (prefixed x p c)
  unfolding match_node
  receiver_fits_lem h = rw (h) (given_true (and_then (match_opt n x (argument_of p) (receiver_of c)) (prefixed x p c)))

  receiver_other : receiver_fits x p c ≡ false → match_receiver (suc n) x p c ≡ failed
  unfolding match_node
  receiver_other h = rw (h) (given_false (and_then (match_opt n x (argument_of p) (receiver_of c)) (prefixed x p c)))

-- ---- a call with a method call

module _ (x : Matcher) (p c y z : Part) (s : State) (out : List ℕ) (e : elems_of y ≡ first_child 7 (elems_of p)) (f : elems_of z ≡ first_child 7 (elems_of c)) where
  pub method_lists : (not (some (elems_of y)) || not (some (elems_of z))) ≡ true → MethodCallGives x p c s out None out
  method_lists h = fails_at 1 match_method_call x p c s out out (λ n. by n (some (elems_of y)) (some (elems_of z)) refl refl) refl
    where
      by : (n : ℕ) (a b : Bool) → some (elems_of y) ≡ a → some (elems_of z) ≡ b → match_method_call (suc n) x (elems_of p) (elems_of c) ≡ failed
      by n false b u v = method_listless x (elems_of p) (elems_of c) n (rw (← e) u)
      by n true false u v = method_code_listless x (elems_of p) (elems_of c) n (rw (← f) v)
      by n true true u v = absurd (false≢true (rw (u, v) at h))

  module _ (h : (not (some (elems_of y)) || not (some (elems_of z))) ≡ false) where
    there : (a b : Bool) → (not a || not b) ≡ false → (a ≡ true) × (b ≡ true)
    there true true i = (refl, refl)
    there true false i = absurd (false≢true (sym i))
    there false b i = absurd (false≢true (sym i))

    both : (some (first_child 7 (elems_of p)) ≡ true) × (some (first_child 7 (elems_of c)) ≡ true)
    both = rw (← e, ← f) (there (some (elems_of y)) (some (elems_of z)) h)

    pub method_other : same_function x (elems_of p) (elems_of c) ≡ false → MethodCallGives x p c s out None out
    method_other t = fails_at 1 match_method_call x p c s out out (λ n. method-other x (elems_of p) (elems_of c) n t) refl

    module _ (same : same_function x (elems_of p) (elems_of c) ≡ true) (v w : Part) (i : elems_of v ≡ children (elems_of y)) (j : elems_of w ≡ children (elems_of z))
        (less-y : length y.words.now ≤ length p.words.now - 3) (less-z : length z.words.now ≤ length c.words.now - 3) (less-v : length v.words.now ≤ length y.words.now - 3) (less-w : length w.words.now ≤ length z.words.now - 3)
        (long : 3 ≤ length p.words.now) where
      pub method_plain : (r : Option State) (out' : List ℕ) → takes_receiver x (elems_of p) (elems_of c) ≡ false → ArgumentsGive x v w s out r out' → MethodCallGives x p c s out r out'
      method_plain r out' t g = same_at 1 match_method_call x p c s out 4 match_arguments v w (omega (arith, long, less-y, less-z, less-v, less-w)) r out'
          (λ n. method_leaves x (elems_of p) (elems_of c) n same both.0 both.1 t ∙ rw (i, e, j, f)) g

      module _ (t : takes_receiver x (elems_of p) (elems_of c) ≡ true) where
        method_step : (n : ℕ) → match_method_call (suc n) x (elems_of p) (elems_of c) ≡ and_then (match_receiver n x (elems_of p) (elems_of c)) (match_arguments n x (rest (find_expression (elems_of v))) (elems_of w))
        method_step n = method-receives x (elems_of p) (elems_of c) n same both.0 both.1 t ∙ rw (i, e, j, f)

        pub method_fails : (out' : List ℕ) → ReceiverGives x p c s out None out' → MethodCallGives x p c s out None out'
        method_fails out' g = first_fails 1 match_method_call x p c s out 0 match_receiver p c (omega arith) (λ n. match_arguments n x (rest (find_expression (elems_of v))) (elems_of w)) method_step out' g

        pub method_receiver : (u : State) (out' : List ℕ) (q d : Part) (r : Option State) (end : List ℕ) → ReceiverGives x p c s out (Some u) out' → elems_of d ≡ find_expression (elems_of v) → elems_of q ≡ rest (elems_of d)
            → length d.words.now ≤ length v.words.now → length q.words.now ≤ length d.words.now - 3 → ArgumentsGive x q w u out' r end → MethodCallGives x p c s out r end
        method_receiver u out' q d r end g a b l m k = both_match 1 match_method_call x p c s out 0 match_receiver p c (omega arith) (λ n. match_arguments n x (rest (find_expression (elems_of v))) (elems_of w)) method_step u out' r end g
            (λ n o. rw (← a, ← b) (k.gives n (omega (arith, long, less-y, less-z, less-v, less-w, l, m, o))))

-- ---- the receiver

module _ (x : Matcher) (p c : Part) (s : State) (out : List ℕ) where
  pub receiver_none : receiver_derefs x (elems_of p) (elems_of c) ≡ None → ReceiverGives x p c s out None out
  receiver_none h = fails_at 0 match_receiver x p c s out out (λ n. receiver_other x (elems_of p) (elems_of c) n (sym (receiver_fits_is x (elems_of p) (elems_of c)) ∙ ap is_some h)) refl

  module _ (stars : ℕ) (h : receiver_derefs x (elems_of p) (elems_of c) ≡ Some stars) (a q z : Part) (d : elems_of a ≡ arguments_of (elems_of p)) (e : elems_of q ≡ find_expression (elems_of a)) (f : elems_of z ≡ receiver_of (elems_of c))
      (l : length a.words.now ≤ length p.words.now - 3) (m : length q.words.now ≤ length a.words.now) (o : length z.words.now ≤ length c.words.now) (long : 3 ≤ length p.words.now) where
    at_q : elems_of q ≡ argument_of (elems_of p)
    at_q = e ∙ ap find_expression d

    receiver_step : (n : ℕ) → match_receiver (suc n) x (elems_of p) (elems_of c) ≡ and_then (match_opt n x (elems_of q) (elems_of z)) (prefixed x (elems_of p) (elems_of c))
    receiver_step n = receiver_fits_lem x (elems_of p) (elems_of c) n (sym (receiver_fits_is x (elems_of p) (elems_of c)) ∙ ap is_some h) ∙ rw (at_q, f)

    pub receiver_fails : (out' : List ℕ) → OptGives x q z s out None out' → ReceiverGives x p c s out None out'
    receiver_fails out' g = first_fails 0 match_receiver x p c s out 3 match_opt q z (omega (arith, long, l, m, o)) (λ n. prefixed x (elems_of p) (elems_of c)) receiver_step out' g

    pub receiver_matches : (t u : State) (out' : List ℕ) → OptGives x q z s out (Some t) out' → ((new : List ℕ) → Gives (prefix x stars (elems_of q) (elems_of z) (number_of (elems_of c))) t new (Some u) new)
        → ReceiverGives x p c s out (Some u) out'
    receiver_matches t u out' g w = both_match 0 match_receiver x p c s out 3 match_opt q z (omega (arith, long, l, m, o)) (λ n. prefixed x (elems_of p) (elems_of c)) receiver_step t out' (Some u) out' g
        (λ n i. rw (← prefixed_is x (elems_of p) (elems_of c) stars h, ← at_q, ← f) (w out'))
