-- What is right for record lists: one sibling by its name, all of them in turn, and then by order where the list starts over.
-- Assumes nothing.
use mathlib.Core.Path.{◌≡◌, refl, sym, ap, ◌∙◌, subst}
use mathlib.Core.Bool.{Bool, true, false, cond, not, ◌&&◌, ◌||◌, true≢false, false≢true}
use mathlib.Core.List.{List, [], ◌++◌, append_assoc}
use Prim.Native.Nat.{ℕ, suc, ◌+◌, ◌-◌, ◌≤◌, ◌<◌}
use native.Mathlib.Omega.{arith}
use lib.Dec.{ltb}
use lib.ListN.{length, take, drop}
use lib.Seq.{take_at, drop_at, length-take-le}
use borrow.Author.Tests.{ltb-false, not-true, not-false}
use Rattle.std.proofs.Common.{Option, Some, None}
use Rattle.words.specs.Buffer.{laid}
use Rattle.syntax.specs.Trees.{Elems, none, token, node}
use Rattle.syntax.specs.Accessors.{children, rest, some}
use Rattle.syntax.specs.Views.{elems_of}
use Rattle.syntax.specs.declared.parts.Part.{Part}
use Rattle.captures.specs.declared.State.{State}
use Rattle.captures.specs.declared.Turn.{Turn}
use Rattle.captures.specs.Attempts.{Attempt, matched, and_then, given, comments}
use Rattle.captures.specs.Effects.{Gives}
use Rattle.captures.specs.Turns.{GoesOn}
use Rattle.captures.proofs.AttemptLaws.{given_true, given_false, gives_done, gives_failed, gives_then, fails_then, gives_length, noted_after, recorded-noted, noted_exact, laid-fits}
use Rattle.captures.proofs.AgainLaws.{laid_silent, silent_stays}
use Rattle.matcher.specs.Matcher.{Matcher, has_placeholder_name}
use Rattle.record_fields.specs.Fields.{pattern_name, is_free, are_asked, FieldIs}
use Rattle.matcher.specs.declared.Siblings.{Siblings}
use Rattle.record_fields.specs.declared.Field.TheVariants.{Unnamed, Taken, Last}
use Rattle.record_fields.specs.Order.{starts_over, next, past, partner, is_same, is_beside}
use Rattle.matching.specs.RecordFields.{match_fields}
use Rattle.matching.specs.StartingOver.{field_by_name, by_name, again, is_silent}
use Rattle.matching.specs.Matching.{enough, match_node, match_sequences, match_opt, match_record_field_list, SequencesGive, OptGives, RecordGives, FieldGives, ByNameGives, MeasuredGives, Stands}
use Rattle.matching.proofs.GiveLaws.{same_gives, then_test, then_fails, from_step}
use Rattle.matching.proofs.FuelLaws.{more_node}
use Rattle.matching.proofs.AlongLaws.{by_any}
use Rattle.matching.proofs.OverLaws.{fields_over, fields_plain, start-over-words}
use Rattle.matching.proofs.TurnLaws.{Acted, acted}

-- ---- one sibling

named_free : (leaves : Bool) (f : Elems → Elems → Attempt) (x : Matcher) (ps cs q d : Elems) → some (pattern_name q) ≡ true → is_free x ps q ≡ true
    → field_by_name leaves f x ps cs q d ≡ cond (leaves && is_same (partner x cs q) (next d)) (matched []) (f q (partner x cs q))
named_free leaves f x ps cs q d e g =
    let y : Attempt = cond (leaves && is_beside x cs q d) (matched []) (f q (partner x cs q)) in
    ap (λ (b : Bool). cond b (and_then (given (is_free x ps q)) y) (matched [])) e ∙ ap (λ (b : Bool). and_then (given b) y) g ∙ given_true y
    ∙ ap (λ (b : Bool). cond (leaves && (b && is_same (partner x cs q) (next d))) (matched []) (f q (partner x cs q))) e

module _ (leaves : Bool) (x : Matcher) (l : Siblings) (q d : Part) (s : State) (out : List ℕ) where
  pub field_unnamed : FieldIs x l (elems_of q) Unnamed → FieldGives leaves x l q d s out (Some s) out
  field_unnamed h = record { gives = λ n k. rw h (gives_done s out) }

  pub field_taken : FieldIs x l (elems_of q) Taken → FieldGives leaves x l q d s out None out
  field_taken h = record {
    gives = λ n k. same_gives (rw (h.0, h.1) (given_false _)) (gives_failed s out out refl);
  }

  module _ (c m : Part) (h : FieldIs x l (elems_of q) (Last c)) (e : elems_of m ≡ next (elems_of d)) where
    pub field_left : (leaves && is_same (elems_of c) (elems_of m)) ≡ true → FieldGives leaves x l q d s out (Some s) out
    field_left t = record {
      gives = λ n k. same_gives (named_free leaves (λ y z. match_opt n x y z) x (elems_of l.p) (elems_of l.c) (elems_of q) (elems_of d) h.0 h.1
          ∙ rw (← h.2, ← e, t)) (gives_done s out);
    }

    pub field_last : (leaves && is_same (elems_of c) (elems_of m)) ≡ false → (r : Option State) (out' : List ℕ) → OptGives x q c s out r out' → length q.words.now ≤ length l.p.words.now → FieldGives leaves x l q d s out r out'
    field_last t r out' g short = record {
      gives = λ n k. same_gives (named_free leaves (λ y z. match_opt n x y z) x (elems_of l.p) (elems_of l.c) (elems_of q) (elems_of d) h.0 h.1
          ∙ rw (← h.2, ← e, t)) (g.gives n (omega (arith, short, h.3, k)));
    }

-- ---- all siblings

by_ends : (leaves : Bool) (f : Elems → Elems → Attempt) (x : Matcher) (ps cs q d : Elems) → (some q && not (has_placeholder_name x q)) ≡ false → by_name
    leaves f x ps cs q d ≡ matched []
unfolding by_name
by_ends leaves f x ps cs none d h = refl
by_ends leaves f x ps cs (token i k s e r) d h = absurd (true≢false h)
by_ends leaves f x ps cs (node i k s e ds r) d h = ap (λ (b : Bool). cond b (matched []) (and_then (field_by_name leaves f x ps cs (node i k s e ds r)
    d) (by_name leaves f x ps cs r (past (node i k s e ds r) d)))) (not-false (has_placeholder_name x (node i k s e ds r)) h)

by_more : (leaves : Bool) (f : Elems → Elems → Attempt) (x : Matcher) (ps cs q d : Elems) → (some q && not (has_placeholder_name x q)) ≡ true
    → by_name leaves f x ps cs q d ≡ and_then (field_by_name leaves f x ps cs q d) (by_name leaves f x ps cs (rest q) (past q d))
unfolding by_name
by_more leaves f x ps cs none d h = absurd (false≢true h)
by_more leaves f x ps cs (token i k s e r) d h = refl
by_more leaves f x ps cs (node i k s e ds r) d h = ap (λ (b : Bool). cond b (matched []) (and_then (field_by_name leaves f x ps cs (node i k s e ds r)
    d) (by_name leaves f x ps cs r (past (node i k s e ds r) d)))) (not-true (has_placeholder_name x (node i k s e ds r)) h)

module _ (leaves : Bool) (x : Matcher) (l : Siblings) (q d : Part) (s : State) (out : List ℕ) where
  pub by_name_ends : some (elems_of q) ≡ false → ByNameGives leaves x l q d s out (Some s) out
  by_name_ends h = record { gives = λ n k. same_gives (by_ends leaves (λ y z. match_opt n x y z) x (elems_of l.p) (elems_of l.c) (elems_of q) (elems_of d) (rw h)) (gives_done s out) }

  pub by_name_stops : some (elems_of q) ≡ true → has_placeholder_name x (elems_of q) ≡ true → ByNameGives leaves x l q d s out (Some s) out
  by_name_stops t h = record { gives = λ n k. same_gives (by_ends leaves (λ y z. match_opt n x y z) x (elems_of l.p) (elems_of l.c) (elems_of q) (elems_of d) (both (some (elems_of q)) (has_placeholder_name x (elems_of q)) t h)) (gives_done s out) }
    where
      both : (a b : Bool) → a ≡ true → b ≡ true → (a && not b) ≡ false
      both a b e f = rw (e, f)

  module _ (t : some (elems_of q) ≡ true) (h : has_placeholder_name x (elems_of q) ≡ false) where
    goes : (a b : Bool) → a ≡ true → b ≡ false → (a && not b) ≡ true
    goes a b e f = rw (e, f)

    step : (n : ℕ) → by_name leaves (λ y z. match_opt n x y z) x (elems_of l.p) (elems_of l.c) (elems_of q) (elems_of d)
        ≡ and_then (field_by_name leaves (λ y z. match_opt n x y z) x (elems_of l.p) (elems_of l.c) (elems_of q) (elems_of d)) (by_name leaves (λ y z. match_opt n x y z) x (elems_of l.p) (elems_of l.c) (rest (elems_of q)) (past (elems_of q) (elems_of d)))
    step n = by_more leaves (λ y z. match_opt n x y z) x (elems_of l.p) (elems_of l.c) (elems_of q) (elems_of d) (goes (some (elems_of q)) (has_placeholder_name x (elems_of q)) t h)

    pub by_name_fails : (out' : List ℕ) → FieldGives leaves x l q d s out None out' → ByNameGives leaves x l q d s out None out'
    by_name_fails out' g = record {
      gives = λ n k. same_gives (step n) (fails_then (field_by_name leaves (λ y z. match_opt n x y z) x (elems_of l.p) (elems_of l.c) (elems_of q) (elems_of d))
          (by_name leaves (λ y z. match_opt n x y z) x (elems_of l.p) (elems_of l.c) (rest (elems_of q)) (past (elems_of q) (elems_of d))) s out out' (g.gives n k));
    }

    pub by_name_goes : (u : Turn) (out' : List ℕ) → FieldGives leaves x l q d s out (Some u.state) out' → elems_of u.p ≡ rest (elems_of q) → elems_of u.c ≡ past (elems_of q) (elems_of d)
        → GoesOn (ByNameGives leaves x l) (ByNameGives leaves x l) q d s out u out'
    by_name_goes u out' g e f = record {
      right = λ a end r. record {
        gives = λ n k. same_gives (step n) (gives_then (field_by_name leaves (λ y z. match_opt n x y z) x (elems_of l.p) (elems_of l.c) (elems_of q) (elems_of d))
            (by_name leaves (λ y z. match_opt n x y z) x (elems_of l.p) (elems_of l.c) (rest (elems_of q)) (past (elems_of q) (elems_of d))) s out u.state out' a end (g.gives n k) (rw (← e, ← f) (r.gives n k)));
      };
    }

-- ---- the whole list

-- the bytes that were laid at a place
laid_part : (d : List ℕ) (at : ℕ) (bs : List ℕ) → at ≤ length d → take (length bs) (drop at (laid d at bs)) ≡ bs
laid_part d at bs h =
    ap (λ (l : List ℕ). take (length bs) (drop at l)) (append_assoc (take at d) bs (drop (at + length bs) d))
    ∙ ap (take (length bs)) (drop_at (take at d) (bs ++ drop (at + length bs) d) at (length-take-le at d h)) ∙ take_at bs (drop (at + length bs) d) (length bs) refl

opened : (x : Matcher) (p c : Elems) (m : ℕ) → match_record_field_list (suc m) x p c ≡ match_fields (λ q e. match_opt m x q e) (match_sequences m x (children p) (children c)) x (children p) (children c) (children p)
unfolding match_node
opened x p c m = refl

module _ (x : Matcher) (p c : Part) (s : State) (out : List ℕ) (l : Siblings) (below-p : elems_of l.p ≡ children (elems_of p)) (below-c : elems_of l.c ≡ children (elems_of c))
    (short-p : length l.p.words.now ≤ length p.words.now - 3) (short-c : length l.c.words.now ≤ length c.words.now - 3) (long-p : 3 ≤ length p.words.now) (long-c : 3 ≤ length c.words.now) where
  abbrev Ps : Elems
  Ps = elems_of l.p

  abbrev Cs : Elems
  Cs = elems_of l.c

  from_fields : (r : Option State) (end : List ℕ) → ((n : ℕ) → enough 4 l.p l.c < n → Gives (match_fields (λ q e. match_opt n x q e) (match_sequences n x Ps Cs) x Ps Cs Ps) s out r end) → RecordGives x p c s out r end
  from_fields r end g = from_step 0 match_record_field_list x p c s out r end (λ m h. rw (opened x (elems_of p) (elems_of c) m, ← below-p, ← below-c) (g m (omega (arith, h, short-p, short-c, long-p, long-c))))

  module _ (over silent : Bool) (over-is : over ≡ starts_over x Ps) (silent-is : silent ≡ is_silent s out) where
    -- by name alone
    module _ (plain : over ≡ false) where
      plain_is : (n : ℕ) → match_fields (λ q e. match_opt n x q e) (match_sequences n x Ps Cs) x Ps Cs Ps
          ≡ and_then (by_name (over && silent) (λ q e. match_opt n x q e) x Ps Cs Ps Cs) (given (are_asked x Ps Cs))
      plain_is n = fields_plain (λ q e. match_opt n x q e) (match_sequences n x Ps Cs) x Ps Cs Ps Cs (sym over-is ∙ plain)
          ∙ ap (λ (b : Bool). and_then (by_name b (λ q e. match_opt n x q e) x Ps Cs Ps Cs) (given (are_asked x Ps Cs))) (sym (ap (λ (b : Bool). b && silent) plain))

      module _ (t : State) (out₁ : List ℕ) (by : ByNameGives (over && silent) x l l.p l.c s out (Some t) out₁) where
        pub record_asked : are_asked x Ps Cs ≡ true → RecordGives x p c s out (Some t) out₁
        record_asked e = from_fields (Some t) out₁ (λ n k. same_gives (plain_is n) (then_test (by_name (over && silent) (λ q e. match_opt n x q e) x Ps Cs Ps Cs) (are_asked x Ps Cs) s out t out₁ (by.gives n k) e))

        pub record_unasked : are_asked x Ps Cs ≡ false → RecordGives x p c s out None out₁
        record_unasked e = from_fields None out₁ (λ n k. same_gives (plain_is n) (then_fails (by_name (over && silent) (λ q e. match_opt n x q e) x Ps Cs Ps Cs) (are_asked x Ps Cs) s out t out₁ (by.gives n k) e))

    -- and then by order
    module _ (starts : over ≡ true) where
      over_holds : starts_over x Ps ≡ true
      over_holds = sym over-is ∙ starts

      leaves_is : (over && silent) ≡ silent
      leaves_is = ap (λ (b : Bool). b && silent) starts

      over_fields : silent ≡ false → (n : ℕ) → match_fields (λ q e. match_opt n x q e) (match_sequences n x Ps Cs) x Ps Cs Ps ≡ and_then (by_name (over && silent) (λ q e. match_opt n x q e) x Ps Cs Ps Cs) (match_sequences n x Ps Cs)
      over_fields h n = fields_over (λ q e. match_opt n x q e) (match_sequences n x Ps Cs) x Ps Cs Ps Cs over_holds
          ∙ ap (λ (b : Bool). and_then (by_name b (λ q e. match_opt n x q e) x Ps Cs Ps Cs) (match_sequences n x Ps Cs)) (sym (leaves_is ∙ h))

      over_silent : silent ≡ true → (n : ℕ) (r : Option State) (end : List ℕ)
          → Gives (and_then (by_name (over && silent) (λ q e. match_opt n x q e) x Ps Cs Ps Cs) (and_then (match_sequences n x Ps Cs) (matched (again (λ q e. match_opt n x q e) x Cs Ps Cs)))) s out r end
          → Gives (match_fields (λ q e. match_opt n x q e) (match_sequences n x Ps Cs) x Ps Cs Ps) s out r end
      over_silent h n r end g = start-over-words more_node n x Ps l.c.number l.c.words.now s out r end (sym silent-is ∙ h) over_holds
          (subst (λ (b : Bool). Gives (and_then (by_name b (λ q e. match_opt n x q e) x Ps Cs Ps Cs) (and_then (match_sequences n x Ps Cs) (matched (again (λ q e. match_opt n x q e) x Cs Ps Cs)))) s out r end) (leaves_is ∙ h) g)

      module _ (t : State) (out₁ : List ℕ) (by : ByNameGives (over && silent) x l l.p l.c s out (Some t) out₁) where
        by_acted : (n : ℕ) → enough 4 l.p l.c < n → Acted (by_name (over && silent) (λ q e. match_opt n x q e) x Ps Cs Ps Cs) s out t out₁
        by_acted n k = acted (by_name (over && silent) (λ q e. match_opt n x q e) x Ps Cs Ps Cs) s out t out₁ (by.gives n k)

        first : Acted (by_name (over && silent) (λ q e. match_opt (suc (enough 4 l.p l.c)) x q e) x Ps Cs Ps Cs) s out t out₁
        first = by_acted (suc (enough 4 l.p l.c)) (omega arith)

        pub still_silent : silent ≡ true → is_silent t out₁ ≡ true
        still_silent h =
            let e : is_silent s out ≡ true = sym silent-is ∙ h in
            subst (λ (o : List ℕ). is_silent t o ≡ true) (sym (first.buffer ∙ laid_silent first.events s out e))
            (subst (λ (v : State). is_silent v out ≡ true) (sym first.state) (silent_stays first.events s out e))

        pub record_measured : silent ≡ true → (r : Option State) (end : List ℕ) → MeasuredGives true x l l.p l.c t out₁ r end → RecordGives x p c s out r end
        record_measured h r end g = from_fields r end (λ n k. over_silent h n r end
            (gives_then (by_name (over && silent) (λ q e. match_opt n x q e) x Ps Cs Ps Cs) (and_then (match_sequences n x Ps Cs) (matched (again (λ q e. match_opt n x q e) x Cs Ps Cs))) s out t out₁ r end (by.gives n k) (g.gives n n k k)))

        -- where comments are laid
        module _ (h : silent ≡ false) where
          loud : (s.lays ≡ true) × (s.noted ≤ length out)
          loud = apart s.lays (ltb (length out) s.noted) refl refl (sym silent-is ∙ h)
            where
              apart : (a b : Bool) → s.lays ≡ a → ltb (length out) s.noted ≡ b → (not s.lays || ltb (length out) s.noted) ≡ false → (s.lays ≡ true) × (s.noted ≤ length out)
              apart true true u v e = absurd (true≢false (sym (rw (u, v)) ∙ e))
              apart true false u v e = (u, ltb-false (length out) s.noted v)
              apart false b u v e = absurd (true≢false (sym (rw (u)) ∙ e))

          pub still_lays : t.lays ≡ true
          still_lays = ap (λ (v : State). v.lays) (first.state ∙ recorded-noted (length out) first.events s) ∙ loud.0

          pub record_laid : (r : Option State) (end : List ℕ) → SequencesGive x l.p l.c t out₁ r end → RecordGives x p c s out r end
          record_laid r end g = from_fields r end (λ n k. same_gives (over_fields h n) (gives_then (by_name (over && silent) (λ q e. match_opt n x q e) x Ps Cs Ps Cs) (match_sequences n x Ps Cs) s out t out₁ r end (by.gives n k) (g.gives n k)))

          pub stands_first : Stands true x l l.p s.noted t out₁
          stands_first = record {
            stands = λ n k.
                let b = by_acted n k in
                let place : t.noted ≡ noted_after (length out) b.events s.noted = ap (λ (v : State). v.noted) (b.state ∙ recorded-noted (length out) b.events s) in
                let lengths : length out₁ ≡ length out = gives_length (by.gives n k) in
                record {
                  events = b.events;
                  matches = sym (by_any (λ q e. match_opt n x q e) x Ps Cs Ps Cs) ∙ ap (λ (v : Bool). by_name v (λ q e. match_opt n x q e) x Ps Cs Ps Cs) (sym (leaves_is ∙ h)) ∙ b.matches;
                  bytes = λ j.
                      let m = noted_exact (length out) b.events s.noted (omega (arith, j, place, lengths)) in (
                        omega (arith, place, m.0),
                        ap (λ (o : List ℕ). take (length (comments b.events)) (drop s.noted o)) (b.buffer ∙ laid-fits b.events s out loud.0 m.1) ∙ laid_part out s.noted (comments b.events) (omega (arith, m.1)),
                      );
                };
          }

    pub record_fails : (out₁ : List ℕ) → ByNameGives (over && silent) x l l.p l.c s out None out₁ → RecordGives x p c s out None out₁
    record_fails out₁ by = from_fields None out₁ (λ n k. cases n k over silent refl refl)
      where
        cases : (n : ℕ) → enough 4 l.p l.c < n → (a b : Bool) → over ≡ a → silent ≡ b → Gives (match_fields (λ q e. match_opt n x q e) (match_sequences n x Ps Cs) x Ps Cs Ps) s out None out₁
        cases n k false b u v = same_gives (plain_is u n) (fails_then (by_name (over && silent) (λ q e. match_opt n x q e) x Ps Cs Ps Cs) (given (are_asked x Ps Cs)) s out out₁ (by.gives n k))
        cases n k true true u v = over_silent u v n None out₁ (fails_then (by_name (over && silent) (λ q e. match_opt n x q e) x Ps Cs Ps Cs) (and_then (match_sequences n x Ps Cs) (matched (again (λ q e. match_opt n x q e) x Cs Ps Cs))) s out out₁ (by.gives n k))
        cases n k true false u v = same_gives (over_fields u v n) (fails_then (by_name (over && silent) (λ q e. match_opt n x q e) x Ps Cs Ps Cs) (match_sequences n x Ps Cs) s out out₁ (by.gives n k))
