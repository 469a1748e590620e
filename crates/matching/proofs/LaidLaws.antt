-- What is right for the loop over siblings by order where comments are laid: a pair that was matched by name is not matched again; its
-- comments are laid again from where they stand.
-- Assumes nothing.
use mathlib.Core.Path.{◌≡◌, refl, sym, ap, ◌∙◌, subst}
use mathlib.Core.Bool.{Bool, true, false, cond, not, ◌&&◌, true≢false, false≢true}
use mathlib.Core.List.{List, []}
use Prim.Native.Nat.{ℕ, suc, ◌+◌, ◌-◌, ◌≤◌, ◌<◌}
use native.Mathlib.Omega.{arith}
use lib.Dec.{leb}
use lib.ListN.{length, take, drop}
use borrow.Author.Tests.{leb-true}
use Rattle.std.proofs.Common.{Option, Some, None}
use Rattle.std.specs.Prelude.{is_some}
use Rattle.words.specs.Buffer.{laid}
use Rattle.words.proofs.TestLaws.{and_both}
use Rattle.syntax.specs.Trees.{Elems}
use Rattle.syntax.specs.Accessors.{rest, some}
use Rattle.syntax.specs.Siblings.{is_a_node, is_a_token, skip_trivia}
use Rattle.syntax.specs.Views.{elems_of}
use Rattle.syntax.specs.declared.parts.Part.{Part}
use Rattle.syntax.proofs.SiblingLaws.{some_node, long_some}
use Rattle.captures.specs.declared.State.{State}
use Rattle.captures.specs.declared.Turn.{Turn}
use Rattle.captures.specs.Attempts.{Event, Attempt, matched, comments}
use Rattle.captures.specs.Effects.{moved_to, recorded, laid_by, Gives}
use Rattle.captures.specs.Turns.{GoesOn}
use Rattle.captures.proofs.AttemptLaws.{noted_after, laid-length, recorded_moved, recorded-noted, noted-fits, laid-fits, gives_then}
use Rattle.captures.proofs.AgainLaws.{laid_silent}
use Rattle.matcher.specs.Matcher.{Matcher, has_placeholder_name}
use Rattle.record_fields.specs.Fields.{pattern_name}
use Rattle.matcher.specs.declared.Siblings.{Siblings}
use Rattle.record_fields.specs.Order.{partner, asks, AsksFor}
use Rattle.matching.specs.StartingOver.{meets}
use Rattle.matching.specs.Matching.{enough, match_node, match_sequences, match_opt, SequencesGive, NotedGives, Went, Stands}
use Rattle.matching.proofs.StepLaws.{sequence_node, opt_both}
use Rattle.matching.proofs.GiveLaws.{from_step}
use Rattle.matching.proofs.FuelLaws.{more_node, one-outcome}
use Rattle.matching.proofs.AlongLaws.{no_trivia}
use Rattle.matching.proofs.OverLaws.{Tail}
use Rattle.matching.proofs.TurnLaws.{Acted, acted}
use Rattle.matching.proofs.PairLaws.{each_of_four, Paired, paired}
use Rattle.matching.proofs.StandLaws.{parts, named_matches, first-stands, first_fits_lem, stood_turn}

-- a field that was found: whether one was asked for, and which
abbrev Found : Matcher → Siblings → Bool → Elems → Elems → Option Part → Type 0
Found x l on q c None = asks on q c ≡ false
Found x l on q c (Some f) = (asks on q c ≡ true) × (elems_of f ≡ partner x (elems_of l.c) q) × (length f.words.now ≤ length l.c.words.now)

found_is : (x : Matcher) (l : Siblings) (on : Bool) (q c : Elems) (found : Option Part) → Found x l on q c found → is_some found ≡ asks on q c
found_is x l on q c None a = sym a
found_is x l on q c (Some f) a = sym a.0

module _ (x : Matcher) (l : Siblings) (before on : Bool) (p q c : Part) (s : State) (out : List ℕ) (from : ℕ) (stands : Stands before x l p from s out) (e : elems_of q ≡ skip_trivia (elems_of p))
    (goes : on ≡ (before && not (has_placeholder_name x (elems_of q)))) (asked : Option Part) (ask : AsksFor (on && leb s.noted (length out)) x l (elems_of q) (elems_of c) asked)
    (found : Option Part) (found-is : found ≡ cond (meets asked (elems_of c)) (Some c) asked) (tail : Tail (elems_of l.c) (elems_of c))
    (in-p : length q.words.now ≤ length l.p.words.now) (in-c : length c.words.now ≤ length l.c.words.now) where
  pair_at : meets asked (elems_of c) ≡ true → Paired x l before on (elems_of q) (elems_of c)
  pair_at h = paired x l before on (elems_of q) (elems_of c) goes (on && leb s.noted (length out)) asked (λ a. (and_both on (leb s.noted (length out)) a).0) ask tail h

  known : Found x l (on && leb s.noted (length out)) (elems_of q) (elems_of c) found
  known = subst (λ (g : Option Part). Found x l (on && leb s.noted (length out)) (elems_of q) (elems_of c) g) (sym found-is) (by (meets asked (elems_of c)) refl)
    where
      there : (g : Option Part) → AsksFor (on && leb s.noted (length out)) x l (elems_of q) (elems_of c) g → meets g (elems_of c) ≡ true → asks (on && leb s.noted (length out)) (elems_of q) (elems_of c) ≡ true
      there None a z = absurd (false≢true z)
      there (Some f) a z = a.0

      other : (g : Option Part) → AsksFor (on && leb s.noted (length out)) x l (elems_of q) (elems_of c) g → Found x l (on && leb s.noted (length out)) (elems_of q) (elems_of c) g
      other None a = a
      other (Some f) a = (a.0, a.1, omega (arith, a.2))

      by : (b : Bool) → meets asked (elems_of c) ≡ b → Found x l (on && leb s.noted (length out)) (elems_of q) (elems_of c) (cond b (Some c) asked)
      by true z = (there asked ask z, sym (pair_at z).partner_is, in-c)
      by false z = other asked ask

  goes_by : on ≡ (before && not (has_placeholder_name x (skip_trivia (elems_of p))))
  goes_by = goes ∙ ap (λ (y : Elems). before && not (has_placeholder_name x y)) e

  asked_by : is_some found ≡ ((on && leb s.noted (length out)) && is_a_node (skip_trivia (elems_of p)) && not (is_a_token (elems_of c)) && some (pattern_name (skip_trivia (elems_of p))))
  asked_by = found_is x l (on && leb s.noted (length out)) (elems_of q) (elems_of c) found known ∙ ap (λ (y : Elems). (on && leb s.noted (length out)) && is_a_node y && not (is_a_token (elems_of c)) && some (pattern_name y)) e

  abbrev most : ℕ
  most = suc (enough 4 l.p l.c)

  -- ---- what asking by name says
  module _ (h : is_some found ≡ true) where
    four : ((on && leb s.noted (length out)) ≡ true) × (is_a_node (skip_trivia (elems_of p)) ≡ true) × (is_a_token (elems_of c) ≡ false) × (some (pattern_name (skip_trivia (elems_of p))) ≡ true)
    four = each_of_four (on && leb s.noted (length out)) (is_a_node (skip_trivia (elems_of p))) (is_a_token (elems_of c)) (some (pattern_name (skip_trivia (elems_of p)))) (sym asked_by ∙ h)

    is_on : on ≡ true
    is_on = (and_both on (leb s.noted (length out)) four.0).0

    fits_so_far : s.noted ≤ length out
    fits_so_far = leb-true s.noted (length out) (and_both on (leb s.noted (length out)) four.0).1

    is_before : before ≡ true
    is_before = (and_both before (not (has_placeholder_name x (skip_trivia (elems_of p)))) (sym goes_by ∙ is_on)).0

    is_plain : has_placeholder_name x (skip_trivia (elems_of p)) ≡ false
    is_plain = not_true (has_placeholder_name x (skip_trivia (elems_of p))) (and_both before (not (has_placeholder_name x (skip_trivia (elems_of p)))) (sym goes_by ∙ is_on)).1
      where
        not_true : (b : Bool) → not b ≡ true → b ≡ false
        not_true true z = sym z
        not_true false z = refl

    -- the pair matches by name
    abbrev first_of : (n : ℕ) → enough 4 l.p l.c < n → List Event
    first_of n k = (parts (λ y z. match_opt n x y z) x (elems_of l.p) (elems_of l.c) (elems_of p) before from s out (stands.stands n k) is_before is_plain four.1).first

    pair_matches : (n : ℕ) (k : enough 4 l.p l.c < n) → match_opt n x (skip_trivia (elems_of p)) (partner x (elems_of l.c) (skip_trivia (elems_of p))) ≡ matched (first_of n k)
    pair_matches n k = named_matches (λ y z. match_opt n x y z) x (elems_of l.p) (elems_of l.c) (elems_of p) before from s out (stands.stands n k) is_before is_plain four.1 four.3

  -- ---- measuring did not fail, and changed nothing of the buffer
  module _ (r : Option State) (out₁ : List ℕ) (noted : NotedGives x q found (moved_to from false s) out r out₁) where
    noted_by : is_some found ≡ true → (n : ℕ) → enough 4 l.p l.c < n → Gives (match_opt n x (skip_trivia (elems_of p)) (partner x (elems_of l.c) (skip_trivia (elems_of p)))) (moved_to from false s) out r out₁
    noted_by h n k = by found known noted h
      where
        by : (g : Option Part) → Found x l (on && leb s.noted (length out)) (elems_of q) (elems_of c) g → NotedGives x q g (moved_to from false s) out r out₁ → is_some g ≡ true
            → Gives (match_opt n x (skip_trivia (elems_of p)) (partner x (elems_of l.c) (skip_trivia (elems_of p)))) (moved_to from false s) out r out₁
        by None a w z = absurd (false≢true z)
        by (Some f) a w z = rw (← e, ← a.1) (w.gives n (omega (arith, in-p, a.2, k)))

    noted_none : is_some found ≡ false → Gives (matched []) (moved_to from false s) out r out₁
    noted_none h = by found noted h
      where
        by : (g : Option Part) → NotedGives x q g (moved_to from false s) out r out₁ → is_some g ≡ false → Gives (matched []) (moved_to from false s) out r out₁
        by None w z = w
        by (Some f) w z = absurd (true≢false z)

    noted_matched : (h : is_some found ≡ true) → Gives (matched (first_of h most (omega arith))) (moved_to from false s) out r out₁
    noted_matched h = subst (λ (a : Attempt). Gives a (moved_to from false s) out r out₁) (pair_matches h most (omega arith)) (noted_by h most (omega arith))

    by_case : (G : Type 0) → (is_some found ≡ true → G) → (is_some found ≡ false → G) → G
    by_case G g k = by (is_some found) refl
      where
        by : (b : Bool) → is_some found ≡ b → G
        by true z = g z
        by false z = k z

    noted_buffer : out₁ ≡ out
    noted_buffer = by_case (out₁ ≡ out) (λ h. (noted_matched h).buffer ∙ laid_silent (first_of h most (omega arith)) (moved_to from false s) out refl) (λ h. (noted_none h).buffer ∙ laid_silent [] (moved_to from false s) out refl)

    noted_there : is_some r ≡ true
    noted_there = by_case (is_some r ≡ true) (λ h. ap is_some (noted_matched h).answer) (λ h. ap is_some (noted_none h).answer)

  pub never_fails : (A : Type 0) (out₁ : List ℕ) → NotedGives x q found (moved_to from false s) out None out₁ → A
  never_fails A out₁ noted = absurd (false≢true (noted_there None out₁ noted))

  module _ (m : State) (out₁ : List ℕ) (noted : NotedGives x q found (moved_to from false s) out (Some m) out₁) where
    same_buffer : out₁ ≡ out
    same_buffer = noted_buffer (Some m) out₁ noted

    end_measured : (n : ℕ) → enough 4 l.p l.c < n → (es : List Event) → is_some found ≡ true → match_opt n x (skip_trivia (elems_of p)) (partner x (elems_of l.c) (skip_trivia (elems_of p))) ≡ matched es
        → m.noted ≡ noted_after (length out) es from
    end_measured n k es h z =
        let g : Gives (matched es) (moved_to from false s) out (Some m) out₁ = subst (λ (a : Attempt). Gives a (moved_to from false s) out (Some m) out₁) z (noted_by (Some m) out₁ noted h n k) in
        let a : m ≡ recorded (length out) es (moved_to from false s) = let b = g.answer in cc in
        ap (λ (v : State). v.noted) (a ∙ recorded-noted (length out) es (moved_to from false s))

    end_plain : is_some found ≡ false → m.noted ≡ from
    unfolding recorded
    end_plain h =
        let b : Some m ≡ Some (moved_to from false s) = (noted_none (Some m) out₁ noted h).answer in
        let a : m ≡ moved_to from false s = cc in ap (λ (v : State). v.noted) a

    -- what was measured stands before the place
    pub end_before : is_some found ≡ true → m.noted ≤ s.noted
    end_before h =
        let fit = first_fits_lem (λ y z. match_opt most x y z) x (elems_of l.p) (elems_of l.c) (elems_of p) before from s out (stands.stands most (omega arith)) (is_before h) (is_plain h) (four h).1 (fits_so_far h) in
        omega (arith, fit, end_measured most (omega arith) (first_of h most (omega arith)) h (pair_matches h most (omega arith)) ∙ noted-fits (length out) (first_of h most (omega arith)) from (omega (arith, fit, fits_so_far h)))

    pub place_before : meets asked (elems_of c) ≡ true → m.noted ≤ s.noted
    place_before h = end_before (ap is_some (found-is ∙ ap (λ (b : Bool). cond b (Some c) asked) h))

    -- ---- a turn, from the buffer as measuring left it
    module _ (u : Turn) (out' : List ℕ) where
      pub order_turn : GoesOn (SequencesGive x) (SequencesGive x) p c s out₁ u out' → GoesOn (SequencesGive x) (SequencesGive x) p c s out u out'
      order_turn turn = subst (λ (o : List ℕ). GoesOn (SequencesGive x) (SequencesGive x) p c s o u out') same_buffer turn

      pub turn_lays : s.lays ≡ true → Went p c s out₁ u out' → u.state.lays ≡ true
      turn_lays h went = ap (λ (v : State). v.lays) (went.state ∙ recorded-noted (length out₁) went.events s) ∙ h

      pub stands_turn : Went p c s out₁ u out' → Stands on x l u.p m.noted u.state out'
      stands_turn went₁ =
          let went : Went p c s out u out' = subst (λ (o : List ℕ). Went p c s o u out') same_buffer went₁ in record {
            stands = λ n k. stood_turn (λ y z. match_opt n x y z) x (elems_of l.p) (elems_of l.c) (elems_of p) before from s out (stands.stands n k) (elems_of c) (elems_of u.p) on (is_some found) m.noted
                u.state out' went.events goes_by went.tokens went.nodes asked_by (end_measured n k) end_plain went.state went.buffer;
          }

    -- ---- a pair whose comments fit once more
    module _ (h : meets asked (elems_of c) ≡ true) (lays : s.lays ≡ true) (fits₁ : (from ≤ m.noted) × (s.noted + (m.noted - from) ≤ length out₁))
        (u : Turn) (out₂ : List ℕ) (state-is : u.state ≡ moved_to (s.noted + (m.noted - from)) true m) (out-is : out₂ ≡ laid out₁ s.noted (take (m.noted - from) (drop from out₁)))
        (rest-p : elems_of u.p ≡ rest (elems_of q)) (rest-c : elems_of u.c ≡ rest (elems_of c)) where
      pair : Paired x l before on (elems_of q) (elems_of c)
      pair = pair_at h

      here : found ≡ Some c
      here = found-is ∙ ap (λ (b : Bool). cond b (Some c) asked) h

      is_named : is_some found ≡ true
      is_named = ap is_some here

      fits : (from ≤ m.noted) × (s.noted + (m.noted - from) ≤ length out)
      fits = (fits₁.0, omega (arith, fits₁.1, ap length same_buffer))

      partner_here : partner x (elems_of l.c) (skip_trivia (elems_of p)) ≡ elems_of c
      partner_here = ap (partner x (elems_of l.c)) (sym e) ∙ pair.partner_is

      some_q : some (skip_trivia (elems_of p)) ≡ true
      some_q = ap some (sym e) ∙ some_node (elems_of q) pair.node

      first_es : List Event
      first_es = first_of is_named most (omega arith)

      most_node : match_node (enough 4 l.p l.c) x (skip_trivia (elems_of p)) (elems_of c) ≡ matched first_es
      unfolding first_es
      most_node = sym (opt_both x (skip_trivia (elems_of p)) (elems_of c) (enough 4 l.p l.c) some_q pair.there) ∙ ap (match_opt most x (skip_trivia (elems_of p))) (sym partner_here) ∙ pair_matches is_named most (omega arith)

      node_by : (n : ℕ) → enough 2 q c < n → Acted (match_node n x (skip_trivia (elems_of p)) (elems_of c)) (moved_to from false s) out m out₁
      node_by n k =
          let g : NotedGives x q (Some c) (moved_to from false s) out (Some m) out₁ = subst (λ (f : Option Part). NotedGives x q f (moved_to from false s) out (Some m) out₁) here noted in
          acted (match_node n x (skip_trivia (elems_of p)) (elems_of c)) (moved_to from false s) out m out₁
          (subst (λ (a : Attempt). Gives a (moved_to from false s) out (Some m) out₁) (ap (λ (y : Elems). match_opt (suc n) x y (elems_of c)) e ∙ opt_both x (skip_trivia (elems_of p)) (elems_of c) n some_q pair.there)
          (g.gives (suc n) (omega (arith, k))))

      node_matches : (n : ℕ) → enough 2 q c < n → match_node n x (skip_trivia (elems_of p)) (elems_of c) ≡ matched first_es
      node_matches n k = (node_by n k).matches ∙ ap matched (one-outcome (λ b. match_node b x (skip_trivia (elems_of p)) (elems_of c)) (λ b b' o. more_node b b' o x (skip_trivia (elems_of p)) (elems_of c))
          n (enough 4 l.p l.c) (node_by n k).events first_es (node_by n k).matches most_node)

      stand_first : take (length (comments first_es)) (drop from out) ≡ comments first_es
      unfolding first_es
      stand_first = first-stands (λ y z. match_opt most x y z) x (elems_of l.p) (elems_of l.c) (elems_of p) before from s out (stands.stands most (omega arith))
          (is_before is_named) (is_plain is_named) (four is_named).1 (fits_so_far is_named)

      fit_first : from + length (comments first_es) ≤ s.noted
      unfolding first_es
      fit_first = first_fits_lem (λ y z. match_opt most x y z) x (elems_of l.p) (elems_of l.c) (elems_of p) before from s out (stands.stands most (omega arith))
          (is_before is_named) (is_plain is_named) (four is_named).1 (fits_so_far is_named)

      end_first : m.noted ≡ from + length (comments first_es)
      unfolding first_es
      end_first = end_measured most (omega arith) first_es is_named (pair_matches is_named most (omega arith)) ∙ noted-fits (length out) first_es from (omega (arith, fit_first, fits_so_far is_named))

      length_first : m.noted - from ≡ length (comments first_es)
      length_first = omega (arith, end_first)

      measured_state : m ≡ recorded (length out) first_es (moved_to from false s)
      unfolding first_es
      measured_state = let b = (noted_matched (Some m) out₁ noted is_named).answer in cc

      state_is : u.state ≡ recorded (length out) first_es s
      state_is =
          state-is ∙ ap (moved_to (s.noted + (m.noted - from)) true) (measured_state ∙ recorded_moved (length out) first_es from false s)
          ∙ ap (λ (k : ℕ). moved_to k true (recorded (length out) first_es s)) (ap (λ (k : ℕ). s.noted + k) length_first ∙ sym (noted-fits (length out) first_es s.noted (omega (arith, fits.1, length_first))))
          ∙ ap (λ (b : Bool). moved_to (noted_after (length out) first_es s.noted) b (recorded (length out) first_es s)) (sym lays) ∙ sym (recorded-noted (length out) first_es s)

      buffer_is : out₂ ≡ laid_by first_es s out
      buffer_is =
          out-is ∙ ap (λ (o : List ℕ). laid o s.noted (take (m.noted - from) (drop from o))) same_buffer
          ∙ ap (λ (k : ℕ). laid out s.noted (take k (drop from out))) length_first ∙ ap (laid out s.noted) stand_first
          ∙ sym (laid-fits first_es s out lays (omega (arith, fits.1, length_first)))

      laid_node : (n : ℕ) → enough 2 q c < n → Gives (match_node n x (skip_trivia (elems_of p)) (elems_of c)) s out (Some u.state) out₂
      laid_node n k = rw (node_matches n k) (record { answer = ap Some state_is; buffer = buffer_is })

      pub pair_length : length out₂ ≡ length out
      pair_length = ap length buffer_is ∙ laid-length first_es s out

      pub stands_pair : Stands on x l u.p m.noted u.state out₂
      stands_pair = record {
        stands = λ n k. stood_turn (λ y z. match_opt n x y z) x (elems_of l.p) (elems_of l.c) (elems_of p) before from s out (stands.stands n k) (elems_of c) (elems_of u.p) on (is_some found) m.noted u.state
            out₂ first_es goes_by (λ v. absurd (true≢false (sym v ∙ pair.token))) (λ v. (rw (← e) pair.node, rest-p ∙ ap rest e)) asked_by (end_measured n k) end_plain state_is buffer_is;
      }

      pub laid_goes : length q.words.now ≤ length p.words.now → length u.p.words.now ≤ length q.words.now - 3 → length u.c.words.now ≤ length c.words.now - 3
          → GoesOn (SequencesGive x) (SequencesGive x) p c s out u out₂
      laid_goes short less-p less-c = record {
        right = λ a end r. from_step 4 match_sequences x p c s out a end (λ b o. rw (sequence_node x (elems_of p) (elems_of c) b pair.there (no_trivia (elems_of c) pair.token) pair.token (rw (← e) pair.node))
            (gives_then (match_node b x (skip_trivia (elems_of p)) (elems_of c)) (match_sequences b x (rest (skip_trivia (elems_of p))) (rest (elems_of c))) s out u.state out₂ a end (laid_node b (omega (arith, o, short)))
            (rw (← e, ← rest-p, ← rest-c) (r.gives b (omega (arith, o, short, less-p, less-c, long_some c.number c.words.now pair.there))))));
      }
