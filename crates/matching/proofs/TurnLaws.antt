-- What a turn over siblings comes to: what is right for what it leaves is right for the whole, what it passed, and the events that it acted as.
-- Assumes nothing.
use mathlib.Core.Path.{◌≡◌, refl, sym, ap, ◌∙◌}
use mathlib.Core.Bool.{true, false, true≢false}
use mathlib.Core.List.{List, []}
use Prim.Native.Nat.{ℕ, suc, ◌-◌, ◌≤◌}
use native.Mathlib.Omega.{arith}
use lib.ListN.{length}
use borrow.Author.Tests.{le-leb}
use Rattle.std.proofs.Common.{Some, None}
use Rattle.syntax.specs.Trees.{Elems}
use Rattle.syntax.specs.Accessors.{rest, some}
use Rattle.syntax.specs.Siblings.{is_a_node, is_a_token, is_trivia, skip_trivia}
use Rattle.syntax.specs.Views.{elems_of}
use Rattle.syntax.specs.declared.parts.Part.{Part}
use Rattle.syntax.proofs.AccessorLaws.{some_is}
use Rattle.syntax.proofs.SiblingLaws.{trivia_is_token}
use Rattle.captures.specs.declared.State.{State}
use Rattle.captures.specs.Attempts.{Event, Attempt, failed, matched, and_then}
use Rattle.captures.specs.Effects.{recorded, laid_by, Gives, Leads}
use Rattle.captures.specs.Turns.{GoesOn}
use Rattle.captures.proofs.AttemptLaws.{gives_done, then_right}
use Rattle.matcher.specs.Matcher.{Matcher}
use Rattle.matcher.specs.Tokens.{note, TokenIs}
use Rattle.record_fields.specs.Order.{next}
use Rattle.matching.specs.Matching.{enough, match_node, match_sequences, NodeGives, SequencesGive, Went}
use Rattle.matching.proofs.StepLaws.{sequence_trivia, sequence_token, sequence_other-token, sequence_node, sequence_other}
use Rattle.matching.proofs.GiveLaws.{same_gives, from_step, fails_at, first_fails, both_match}
use Rattle.matching.proofs.AlongLaws.{next_trivia, next-after}

-- ---- an answer that is a match was made by events

pub record Acted (a : Attempt) (s : State) (out : List ℕ) (t : State) (out' : List ℕ) : Type 0 where
  pub events : List Event
  pub matches : a ≡ matched events
  pub state : t ≡ recorded (length out) events s
  pub buffer : out' ≡ laid_by events s out

pub acted : (a : Attempt) (s : State) (out : List ℕ) (t : State) (out' : List ℕ) → Gives a s out (Some t) out' → Acted a s out t out'
acted failed s out t out' g = absurd (let h = g.answer in let z : ◌≡◌ {A = ℕ} 0 1 = cc in omega arith)
acted (matched es) s out t out' g = record { events = es; matches = refl; state = let h = g.answer in cc; buffer = g.buffer }

-- ---- the turns of a sequence

module _ (x : Matcher) (p q c : Part) (s : State) (out : List ℕ) (e : elems_of q ≡ skip_trivia (elems_of p)) (w : length q.words.now ≤ length p.words.now) (h : 3 ≤ length c.words.now) where
  there : some (elems_of c) ≡ true
  there = rw (some_is c.number c.words.now) (le-leb 3 (length c.words.now) h)

  module _ (d : Part) (f : elems_of d ≡ rest (elems_of c)) (k : length d.words.now ≤ length c.words.now - 3) where
    pub turn_trivia : (t : State) (out' : List ℕ) → is_trivia (elems_of c) ≡ true → ((left : Attempt) → Leads left (and_then (note x.text (elems_of c)) left) s out t out')
        → GoesOn (SequencesGive x) (SequencesGive x) p c s out (record { p = q; c = d; state = t }) out'
    turn_trivia t out' v leads = record {
      right = (λ a end g. from_step 4 match_sequences x p c s out a end
          (λ m b. rw (sequence_trivia x (elems_of p) (elems_of c) m there v, ← e, ← f) ((leads (match_sequences m x (elems_of q) (elems_of d))).gives a end (g.gives m (omega (arith, h, k, w, b))))));
    }

    module _ (v : is_trivia (elems_of c) ≡ false) where
      pub turn_token : (y : Part) → is_a_token (elems_of c) ≡ true → TokenIs x q c (Some y) → GoesOn (SequencesGive x) (SequencesGive x) p c s out (record { p = y; c = d; state = s }) out
      turn_token y u i = record {
        right = (λ a end g. from_step 4 match_sequences x p c s out a end
            (λ m b. rw (sequence_token x (elems_of p) (elems_of c) m there v u (rw (← e) i.0), ← e, ← i.1, ← f) (g.gives m (omega (arith, h, k, w, i.2, b)))));
      }

      pub turn_node : (y : Part) (t : State) (out' : List ℕ) → is_a_token (elems_of c) ≡ false → is_a_node (elems_of q) ≡ true → NodeGives x q c s out (Some t) out'
          → elems_of y ≡ rest (elems_of q) → length y.words.now ≤ length q.words.now - 3 → GoesOn (SequencesGive x) (SequencesGive x) p c s out (record { p = y; c = d; state = t }) out'
      turn_node y t out' u n g i l = record {
        right = (λ a end j. both_match 4 match_sequences x p c s out 2 match_node q c (omega (arith, w)) (λ m. match_sequences m x (elems_of y) (elems_of d))
            (λ m. sequence_node x (elems_of p) (elems_of c) m there v u (rw (← e) n) ∙ rw (← e, ← i, ← f)) t out' a end g (λ m b. j.gives m (omega (arith, h, k, w, l, b))));
      }

  module _ (v : is_trivia (elems_of c) ≡ false) where
    pub turn_token_stops : is_a_token (elems_of c) ≡ true → TokenIs x q c None → SequencesGive x p c s out None out
    turn_token_stops u i = (fails_at 4 match_sequences x p c s out out (λ m. sequence_other-token x (elems_of p) (elems_of c) m there v u (rw (← e) i)) refl)

    module _ (u : is_a_token (elems_of c) ≡ false) where
      pub turn_node_stops : (out' : List ℕ) → is_a_node (elems_of q) ≡ true → NodeGives x q c s out None out' → SequencesGive x p c s out None out'
      turn_node_stops out' n g = (first_fails 4 match_sequences x p c s out 2 match_node q c (omega (arith, w)) (λ m. match_sequences m x (rest (elems_of q)) (rest (elems_of c))) (λ m. sequence_node x (elems_of p) (elems_of c) m there v u (rw (← e) n) ∙ rw (← e)) out' g)

      pub turn_other_stops : is_a_node (elems_of q) ≡ false → SequencesGive x p c s out None out
      turn_other_stops n = (fails_at 4 match_sequences x p c s out out (λ m. sequence_other x (elems_of p) (elems_of c) m there v u (rw (← e) n)) refl)

-- ---- what they passed, and their events

module _ (x : Matcher) (p q c d : Part) (s : State) (out : List ℕ) (e : elems_of q ≡ skip_trivia (elems_of p)) (f : elems_of d ≡ rest (elems_of c)) where
  pub went_trivia : (t : State) (out' : List ℕ) → is_trivia (elems_of c) ≡ true → ((left : Attempt) → Leads left (and_then (note x.text (elems_of c)) left) s out t out')
      → Went p c s out (record { p = q; c = d; state = t }) out'
  went_trivia t out' v leads =
      let w = acted (note x.text (elems_of c)) s out t out' (same_gives (sym (then_right (note x.text (elems_of c)))) ((leads (matched [])).gives (Some t) out' (gives_done t out'))) in
      record {
        code = f;
        tokens = λ _. ap next e ∙ next_trivia (elems_of p);
        nodes = λ h. absurd (true≢false (sym (trivia_is_token (elems_of c) v) ∙ h));
        events = w.events;
        state = w.state;
        buffer = w.buffer;
      }

  pub went_token : (y : Part) → is_a_token (elems_of c) ≡ true → TokenIs x q c (Some y) → Went p c s out (record { p = y; c = d; state = s }) out
  unfolding recorded laid_by
  went_token y v i = record {
    code = f;
    tokens = λ _. ap next i.1 ∙ next-after x.sheet x.code x.text (elems_of q) (elems_of c) i.0 ∙ ap next e ∙ next_trivia (elems_of p);
    nodes = λ h. absurd (true≢false (sym v ∙ h));
    events = [];
    state = refl;
    buffer = refl;
  }

  pub went_node : (y : Part) (t : State) (out' : List ℕ) → is_a_token (elems_of c) ≡ false → is_a_node (elems_of q) ≡ true → NodeGives x q c s out (Some t) out' → elems_of y ≡ rest (elems_of q)
      → Went p c s out (record { p = y; c = d; state = t }) out'
  went_node y t out' v n g i =
      let b = acted (match_node (suc (enough 2 q c)) x (elems_of q) (elems_of c)) s out t out' (g.gives (suc (enough 2 q c)) (omega arith)) in
      record {
        code = f;
        tokens = λ h. absurd (true≢false (sym h ∙ v));
        nodes = λ _. (rw (← e) n, i ∙ ap (λ (j : Elems). rest j) e);
        events = b.events;
        state = b.state;
        buffer = b.buffer;
      }
