-- What is right for the loop over siblings by order where no comment is laid: its end, a turn, and a pair that was left out.
-- Assumes nothing.
use mathlib.Core.Path.{◌≡◌, refl, sym, ap, ◌∙◌, subst}
use mathlib.Core.Bool.{Bool, true, false, not, ◌&&◌, true≢false}
use mathlib.Core.List.{List, [], ◌++◌}
use Prim.Native.Nat.{ℕ, suc, ◌-◌, ◌≤◌, ◌<◌}
use native.Mathlib.Omega.{arith}
use lib.ListN.{length}
use Rattle.std.proofs.Common.{Option, Some, None}
use Rattle.syntax.specs.Trees.{Elems, none, token, node}
use Rattle.syntax.specs.Accessors.{rest, some}
use Rattle.syntax.specs.Siblings.{is_a_node, skip_trivia}
use Rattle.syntax.specs.Views.{elems_of}
use Rattle.syntax.specs.declared.parts.Part.{Part}
use Rattle.syntax.proofs.SiblingLaws.{some_node, long_some}
use Rattle.captures.specs.declared.State.{State}
use Rattle.captures.specs.declared.Turn.{Turn}
use Rattle.captures.specs.Attempts.{Event, Attempt, matched, and_then, notes}
use Rattle.captures.specs.Effects.{recorded, Gives}
use Rattle.captures.specs.Turns.{GoesOn}
use Rattle.captures.proofs.AttemptLaws.{then_nothing, gives_done, gives_failed, fails_then}
use Rattle.captures.proofs.AgainLaws.{laid_silent, silent_stays}
use Rattle.matcher.specs.Matcher.{Matcher, has_placeholder_name}
use Rattle.matcher.specs.declared.Siblings.{Siblings}
use Rattle.record_fields.specs.Order.{partner, AsksFor}
use Rattle.matching.specs.StartingOver.{again, is_silent, meets}
use Rattle.matching.specs.Matching.{enough, match_node, match_sequences, match_opt, SequencesGive, NodeGives, MeasuredGives, owed, Went}
use Rattle.matching.proofs.StepLaws.{sequence_end, sequence_node, opt_both}
use Rattle.matching.proofs.GiveLaws.{by_suc}
use Rattle.matching.proofs.FuelLaws.{more_node, more_sequences}
use Rattle.matching.proofs.AlongLaws.{no_trivia}
use Rattle.matching.proofs.TurnLaws.{Acted, acted}
use Rattle.matching.proofs.MeasureLaws.{none_after, twice, after_turn, owed_turn, owed_pair, to_node}
use Rattle.matching.proofs.PairLaws.{Paired, apart}

-- where nothing is left of the pattern nothing is owed
again_none : (f : Elems → Elems → Attempt) (x : Matcher) (cs y d : Elems) → some y ≡ false → again f x cs y d ≡ []
unfolding again
again_none f x cs none d h = refl
again_none f x cs (token i k s e r) d h = absurd (true≢false h)
again_none f x cs (node i k s e ds r) d h = absurd (true≢false h)

module _ (x : Matcher) (l : Siblings) (before : Bool) (p q c : Part) (s : State) (out : List ℕ) (e : elems_of q ≡ skip_trivia (elems_of p)) where
  abbrev whole_at : ℕ → ℕ → Attempt
  whole_at n m = and_then (match_sequences n x (elems_of p) (elems_of c)) (matched (owed before m x (elems_of l.c) (elems_of p) (elems_of c)))

  -- ---- the end
  module _ (h : some (elems_of c) ≡ false) where
    nothing_owed : some (elems_of q) ≡ false → (m : ℕ) (b : Bool) → owed b m x (elems_of l.c) (elems_of p) (elems_of c) ≡ []
    nothing_owed k m true =
        to_node x (elems_of l.c) (elems_of p) (elems_of c) (elems_of p) (elems_of c) true true m
        ∙ again_none (λ y z. match_opt m x y z) x (elems_of l.c) (skip_trivia (elems_of p)) (elems_of c) (ap some (sym e) ∙ k)
    nothing_owed k m false = refl

    pub measured_done : some (elems_of q) ≡ false → MeasuredGives before x l p c s out (Some s) out
    measured_done k = record {
      gives = λ n m i j. by_suc (λ b. Gives (whole_at b m) s out (Some s) out)
          (λ b o. rw (sequence_end x (elems_of p) (elems_of c) b h, ← e, k, nothing_owed k m before, then_nothing (matched [])) (gives_done s out)) n i;
    }

    pub measured_left : some (elems_of q) ≡ true → MeasuredGives before x l p c s out None out
    measured_left k = record {
      gives = λ n m i j. by_suc (λ b. Gives (whole_at b m) s out None out)
          (λ b o. none_after (match_sequences (suc b) x (elems_of p) (elems_of c)) (matched (owed before m x (elems_of l.c) (elems_of p) (elems_of c))) s out out
          (rw (sequence_end x (elems_of p) (elems_of c) b h, ← e, k) (gives_failed s out out refl))) n i;
    }

  -- ---- a turn
  pub measured_stops : (out' : List ℕ) → SequencesGive x p c s out None out' → MeasuredGives before x l p c s out None out'
  measured_stops out' g = record {
    gives = λ n m i j. none_after (match_sequences n x (elems_of p) (elems_of c)) (matched (owed before m x (elems_of l.c) (elems_of p) (elems_of c))) s out out' (g.gives n i);
  }

  module _ (on : Bool) (goes : on ≡ (before && not (has_placeholder_name x (elems_of q)))) where
    goes_by : on ≡ (before && not (has_placeholder_name x (skip_trivia (elems_of p))))
    goes_by = goes ∙ ap (λ (y : Elems). before && not (has_placeholder_name x y)) e

    module _ (found : Option Part) (asks : AsksFor on x l (elems_of q) (elems_of c) found) (h : meets found (elems_of c) ≡ false) (u : Turn) (out' : List ℕ) (went : Went p c s out u out') where
      same_owed : (m : ℕ) → owed on m x (elems_of l.c) (elems_of u.p) (elems_of u.c) ≡ owed before m x (elems_of l.c) (elems_of p) (elems_of c)
      same_owed m = owed_turn x (elems_of l.c) (elems_of p) (elems_of c) (elems_of u.p) (elems_of u.c) before on m goes_by went.code went.tokens went.nodes
          (λ o k n. rw (← e) (apart x l before on (elems_of q) (elems_of c) goes found asks h o k (rw e n)))

      pub measured_turn : GoesOn (SequencesGive x) (SequencesGive x) p c s out u out' → GoesOn (MeasuredGives on x l) (MeasuredGives before x l) p c s out u out'
      measured_turn turn = record {
        right = λ a end g. record {
          gives = λ n m i j. after_turn (λ b. match_sequences b x (elems_of u.p) (elems_of u.c)) (λ b. match_sequences b x (elems_of p) (elems_of c)) (enough 4 u.p u.c) (enough 4 p c)
              (λ b b' o. more_sequences b b' o x (elems_of u.p) (elems_of u.c)) s u.state out out' (λ r new w. (turn.right r new (record { gives = w })).gives)
              (owed before m x (elems_of l.c) (elems_of p) (elems_of c)) a end (λ b o. rw (← same_owed m) (g.gives b m o j)) n i;
        };
      }

    -- ---- a pair
    module _ (pair : Paired x l before on (elems_of q) (elems_of c)) where
      step : (n : ℕ) → match_sequences (suc n) x (elems_of p) (elems_of c) ≡ and_then (match_node n x (elems_of q) (elems_of c)) (match_sequences n x (rest (elems_of q)) (rest (elems_of c)))
      step n = sequence_node x (elems_of p) (elems_of c) n pair.there (no_trivia (elems_of c) pair.token) pair.token (ap is_a_node (sym e) ∙ pair.node) ∙ rw (← e)

      pub measured_fails : (out' : List ℕ) → length q.words.now ≤ length p.words.now → NodeGives x q c s out None out' → MeasuredGives before x l p c s out None out'
      measured_fails out' short g = record {
        gives = λ n m i j. by_suc (λ b. Gives (whole_at b m) s out None out')
            (λ b o. none_after (match_sequences (suc b) x (elems_of p) (elems_of c)) (matched (owed before m x (elems_of l.c) (elems_of p) (elems_of c))) s out out'
            (rw (step b) (fails_then (match_node b x (elems_of q) (elems_of c)) (match_sequences b x (rest (elems_of q)) (rest (elems_of c))) s out out' (g.gives b (omega (arith, short, o)))))) n i;
      }

      module _ (r : State) (out' : List ℕ) (g : NodeGives x q c s out (Some r) out') (silent : is_silent s out ≡ true) where
        first : Acted (match_node (suc (enough 2 q c)) x (elems_of q) (elems_of c)) s out r out'
        first = acted (match_node (suc (enough 2 q c)) x (elems_of q) (elems_of c)) s out r out' (g.gives (suc (enough 2 q c)) (omega arith))

        pair_buffer : out' ≡ out
        pair_buffer = first.buffer ∙ laid_silent first.events s out silent

        same_events : (b : ℕ) → enough 2 q c < b → match_node b x (elems_of q) (elems_of c) ≡ matched first.events
        same_events b o = more_node (suc (enough 2 q c)) b (omega (arith, o)) x (elems_of q) (elems_of c) first.events first.matches

        -- counted once more
        module _ (u : Turn) (counts : (es : List Event) → r ≡ recorded (length out') es s → u.state ≡ recorded (length out') (notes es) r) where
          counted : u.state ≡ recorded (length out) (notes first.events) r
          counted = counts first.events (first.state ∙ ap (λ (o : List ℕ). recorded (length o) first.events s) (sym pair_buffer)) ∙ ap (λ (o : List ℕ). recorded (length o) (notes first.events) r) pair_buffer

          pub pair_silent : is_silent u.state out' ≡ true
          pair_silent =
              subst (λ (o : List ℕ). is_silent u.state o ≡ true) (sym pair_buffer) (subst (λ (v : State). is_silent v out ≡ true) (sym counted)
              (silent_stays (notes first.events) r out (subst (λ (v : State). is_silent v out ≡ true) (sym first.state) (silent_stays first.events s out silent))))

          module _ (in-p : length q.words.now ≤ length l.p.words.now) (in-c : length c.words.now ≤ length l.c.words.now) (short : length q.words.now ≤ length p.words.now)
              (f : elems_of u.p ≡ rest (elems_of q)) (d : elems_of u.c ≡ rest (elems_of c)) (less-p : length u.p.words.now ≤ length q.words.now - 3) (less-c : length u.c.words.now ≤ length c.words.now - 3) where
            by_name_events : (m : ℕ) → enough 4 l.p l.c < m → match_opt m x (elems_of q) (partner x (elems_of l.c) (elems_of q)) ≡ matched first.events
            by_name_events m j = by_suc (λ b. match_opt b x (elems_of q) (partner x (elems_of l.c) (elems_of q)) ≡ matched first.events)
                (λ b o. rw pair.partner_is (opt_both x (elems_of q) (elems_of c) b (some_node (elems_of q) pair.node) pair.there ∙ same_events b (omega (arith, o, in-p, in-c)))) m j

            owes : (m : ℕ) → enough 4 l.p l.c < m → owed before m x (elems_of l.c) (elems_of p) (elems_of c) ≡ notes first.events ++ again (λ y z. match_opt m x y z) x (elems_of l.c) (elems_of u.p) (elems_of u.c)
            owes m j = ap (λ (v : Bool). owed v m x (elems_of l.c) (elems_of p) (elems_of c)) pair.before_is
                ∙ owed_pair x (elems_of l.c) (elems_of p) (elems_of c) (elems_of p) (elems_of c) before on m first.events pair.token (rw (← e) pair.node) (rw (← e) pair.plain) (rw (← e) pair.beside) (rw (← e) (by_name_events m j))
                ∙ rw (← e, ← f, ← d)

            pub measured_pair : GoesOn (MeasuredGives on x l) (MeasuredGives before x l) p c s out u out'
            measured_pair = record {
              right = λ a end k. record {
                gives = λ n m i j. by_suc (λ b. Gives (whole_at b m) s out a end)
                    (λ b o.
                    let v = again (λ y z. match_opt m x y z) x (elems_of l.c) (elems_of u.p) (elems_of u.c) in
                    let w : enough 4 u.p u.c < b = omega (arith, o, short, less-p, less-c, long_some c.number c.words.now pair.there) in
                    let left : Gives (and_then (match_sequences b x (elems_of u.p) (elems_of u.c)) (matched v)) u.state out a end =
                    subst (λ (t : List ℕ). Gives (and_then (match_sequences b x (elems_of u.p) (elems_of u.c)) (matched v)) u.state t a end) pair_buffer
                    (subst (λ (t : Bool). Gives (and_then (match_sequences b x (elems_of u.p) (elems_of u.c)) (matched (owed t m x (elems_of l.c) (elems_of u.p) (elems_of u.c)))) u.state out' a end) pair.on_is (k.gives b m w j)) in
                    rw (step b, same_events b (omega (arith, o, short)), owes m j, ← f, ← d)
                    ((twice first.events v s r u.state out silent first.state counted (match_sequences b x (elems_of u.p) (elems_of u.c))).gives a end left)) n i;
              };
            }

-- a turn leaves the buffer as it is too
pub turn_silent : (p c : Part) (s : State) (out : List ℕ) (u : Turn) (out' : List ℕ) → Went p c s out u out' → is_silent s out ≡ true → is_silent u.state out' ≡ true
turn_silent p c s out u out' went silent =
    subst (λ (o : List ℕ). is_silent u.state o ≡ true) (sym (went.buffer ∙ laid_silent went.events s out silent))
    (subst (λ (v : State). is_silent v out ≡ true) (sym went.state) (silent_stays went.events s out silent))
