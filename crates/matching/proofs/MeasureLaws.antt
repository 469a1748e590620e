-- By order, where no comment is laid: the comments of pairs left out before are counted once more, where they are met or at the end alike.
-- Assumes nothing.
use mathlib.Core.Path.{◌≡◌, refl, sym, ap, ◌∙◌, subst}
use mathlib.Core.Bool.{Bool, true, false, not, ◌&&◌}
use mathlib.Core.List.{List, ◌++◌}
use Prim.Native.Nat.{ℕ, suc, ◌≤◌, ◌<◌}
use native.Mathlib.Omega.{arith}
use lib.ListN.{length}
use Rattle.std.proofs.Common.{Option, Some, None}
use Rattle.syntax.specs.Trees.{Elems}
use Rattle.syntax.specs.Accessors.{rest}
use Rattle.syntax.specs.Siblings.{is_a_node, is_a_token, skip_trivia}
use Rattle.captures.specs.Attempts.{Event, Attempt, failed, matched, and_then, notes}
use Rattle.captures.specs.Effects.{recorded, laid_by, Gives, Leads}
use Rattle.captures.specs.declared.State.{State}
use Rattle.captures.proofs.AttemptLaws.{laid-append, laid-length, recorded-append, fails_then}
use Rattle.captures.proofs.AgainLaws.{notes-later, laid_silent, silent_stays}
use Rattle.matcher.specs.Matcher.{Matcher, has_placeholder_name}
use Rattle.token_trees.proofs.FuelLaws.{Below}
use Rattle.record_fields.specs.Order.{next, partner, is_beside}
use Rattle.matching.specs.StartingOver.{again, is_silent}
use Rattle.matching.specs.Matching.{match_opt, owed}
use Rattle.matching.proofs.AlongLaws.{next_past, next_here, next_trivia, again-next, again_cursor, again_stops, again_node}
use Rattle.matching.proofs.TurnLaws.{Acted, acted}

-- ---- attempts and what is behind them

-- no match of the first is no match
pub none_after : (a z : Attempt) (s : State) (out out' : List ℕ) → Gives a s out None out' → Gives (and_then a z) s out None out'
none_after a z s out out' g = fails_then a z s out out' g

-- a pair whose comments count twice: at once, or behind all
module _ (es zs : List Event) (s t u : State) (out : List ℕ) (silent : is_silent s out ≡ true) (f : t ≡ recorded (length out) es s) (g : u ≡ recorded
    (length out) (notes es) t) where
  together : (os : List Event) → recorded (length out) (os ++ zs) u ≡ recorded (length out) ((es ++ os) ++ (notes es ++ zs)) s
  together os =
      let room = length out in
      recorded-append room os zs u ∙ ap (λ (v : State). recorded room zs (recorded room os v)) g
      ∙ ap (recorded room zs) (sym (recorded-append room (notes es) os t) ∙ notes-later room es os t ∙ recorded-append room os (notes es) t)
      ∙ ap (λ (v : State). recorded room zs (recorded room (notes es) (recorded room os v))) f
      ∙ ap (λ (v : State). recorded room zs (recorded room (notes es) v)) (sym (recorded-append room es os s))
      ∙ sym (recorded-append room (notes es) zs (recorded room (es ++ os) s)) ∙ sym (recorded-append room (es ++ os) (notes es ++ zs) s)

  stays : is_silent u out ≡ true
  stays = subst (λ (v : State). is_silent v out ≡ true) (sym (g ∙ ap (recorded (length out) (notes es)) f))
      (silent_stays (notes es) (recorded (length out) es s) out (silent_stays es s out silent))

  pub twice : (b : Attempt) → Leads (and_then b (matched zs)) (and_then (and_then (matched es) b) (matched (notes es ++ zs))) s out u out
  unfolding and_then
  twice failed = record { gives = λ r end h. record { answer = h.answer; buffer = h.buffer } }
  twice (matched os) = record {
    gives = λ r end h. record {
      answer = h.answer ∙ ap (λ (v : State). Some v) (together os);
      buffer = h.buffer ∙ laid_silent (os ++ zs) u out stays ∙ sym (laid_silent ((es ++ os) ++ (notes es ++ zs)) s out silent);
    };
  }

-- a step of a loop, for each bound, with comments behind it
module _ (left whole : ℕ → Attempt) (low high : ℕ) (more : (m n : ℕ) → m ≤ n → Below (left m) (left n)) (s t : State) (out out' : List ℕ)
    (goes : (a : Option State) (end : List ℕ) → ((n : ℕ) → low < n → Gives (left n) t out' a end) → (n : ℕ) → high < n → Gives (whole n) s out a end) (zs :
    List Event) where
  fails_all : (end : List ℕ) → ((n : ℕ) → low < n → Gives (and_then (left n) (matched zs)) t out' None end) → (n : ℕ) → high < n → Gives (and_then
      (whole n) (matched zs)) s out None end
  unfolding and_then
  fails_all end g n h = none_after (whole n) (matched zs) s out end (goes None end (λ m k. by (left m) (g m k)) n h)
    where
      by : (a : Attempt) → Gives (and_then a (matched zs)) t out' None end → Gives a t out' None end
      by failed q = q
      by (matched es) q = absurd (let h = q.answer in let z : ◌≡◌ {A = ℕ} 0 1 = cc in omega arith)

  module _ (os : List Event) (same : (n : ℕ) → low < n → left n ≡ matched os) (n : ℕ) (h : high < n) where
    there : Acted (whole n) s out (recorded (length out') os t) (laid_by os t out')
    there = acted (whole n) s out (recorded (length out') os t) (laid_by os t out')
        (goes (Some (recorded (length out') os t)) (laid_by os t out') (λ m k. rw (same m k) (record {
          answer = refl;
          buffer =
              refl;
        })) n h)

    lengths : length out' ≡ length out
    lengths = sym (laid-length os t out') ∙ ap length there.buffer ∙ laid-length there.events s out

    ends : (a : Option State) (end : List ℕ) → Gives (matched (os ++ zs)) t out' a end → Gives (and_then (whole n) (matched zs)) s out a end
    unfolding and_then
    ends a end g = rw there.matches (record {
      answer = g.answer ∙ ap (λ (v : State). Some v) (recorded-append (length out') os zs t ∙ ap (recorded (length out')
          zs) there.state
          ∙ ap (λ (k : ℕ). recorded k zs (recorded (length out) there.events s)) lengths ∙ sym (recorded-append (length out) there.events zs
          s));
      buffer = g.buffer ∙ laid-append os zs t out' ∙ ap (λ (v : State). laid_by zs v (laid_by os t out')) there.state ∙ ap (laid_by zs (recorded
          (length out) there.events s)) there.buffer
          ∙ sym (laid-append there.events zs s out);
    })

  pub after_turn : (a : Option State) (end : List ℕ) → ((n : ℕ) → low < n → Gives (and_then (left n) (matched zs)) t out' a end) → (n : ℕ) → high < n →
      Gives (and_then (whole n) (matched zs)) s out a end
  unfolding and_then
  after_turn a end g n h = by (left (suc low)) refl
    where
      by : (l : Attempt) → left (suc low) ≡ l → Gives (and_then (whole n) (matched zs)) s out a end
      by failed e =
          let f : Gives failed t out' a end = subst (λ (l : Attempt). Gives (and_then l (matched zs)) t out' a end) e (g (suc low) (omega arith)) in
          subst (λ (r : Option State). Gives (and_then (whole n) (matched zs)) s out r end) (sym f.answer)
          (fails_all end (λ m k. subst (λ (r : Option State). Gives (and_then (left m) (matched zs)) t out' r end) f.answer (g m k)) n h)
      by (matched os) e =
          ends os (λ m k. more (suc low) m (omega (arith, k)) os e) n h a end
          (subst (λ (l : Attempt). Gives (and_then l (matched zs)) t out' a end) e (g (suc low) (omega arith)))

-- ---- comments that are owed, along a turn

module _ (x : Matcher) (cs p c p' c' : Elems) (before on : Bool) (m : ℕ) where
  abbrev f : Elems → Elems → Attempt
  f q e = match_opt m x q e

  pub to_node : again f x cs p c ≡ again f x cs (skip_trivia p) c
  to_node = sym (again-next f x cs p c) ∙ ap (λ (q : Elems). again f x cs q c) (sym (next_trivia p)) ∙ again-next f x cs (skip_trivia p) c

  pub owed_turn : on ≡ (before && not (has_placeholder_name x (skip_trivia p))) → c' ≡ rest c → (is_a_token c ≡ true → next p' ≡ next p)
      → (is_a_token c ≡ false → (is_a_node (skip_trivia p) ≡ true) × (p' ≡ rest (skip_trivia p))) → (on ≡ true → is_a_token c ≡ false → is_a_node (skip_trivia p) ≡
      true → is_beside x cs (skip_trivia p) c ≡ false)
      → owed on m x cs p' c' ≡ owed before m x cs p c
  owed_turn e rests tokens nodes apart = by before (has_placeholder_name x (skip_trivia p)) (is_a_token c) refl refl refl
    where
      plain : on ≡ true → has_placeholder_name x (skip_trivia p) ≡ false → (b : Bool) → is_a_token c ≡ b → again f x cs p' c' ≡ again f x cs p c
      plain o h true k =
          sym (again-next f x cs p' c') ∙ ap (λ (q : Elems). again f x cs q c') (tokens k) ∙ again-next f x cs p c'
          ∙ again_cursor f x cs p c' c (ap next rests ∙ next_past c k)
      plain o h false k =
          let n = nodes k in
          sym (to_node ∙ again_node f x cs (skip_trivia p) c n.0 h ∙ rw (apart o k n.0) (rw (next_here c k, ← n.1, ← rests)))

      by : (b h k : Bool) → before ≡ b → has_placeholder_name x (skip_trivia p) ≡ h → is_a_token c ≡ k → owed on m x cs p' c' ≡ owed before m x cs p c
      by false h k u v w = rw (e, u)
      by true true k u v w = rw (e, u, v) (sym (to_node ∙ again_stops f x cs (skip_trivia p) c v))
      by true false k u v w = let o : on ≡ true = e ∙ rw (u, v) in rw (u, o) (plain o v k w)

  -- and along a pair that was left out
  pub owed_pair : (es : List Event) → is_a_token c ≡ false → is_a_node (skip_trivia p) ≡ true → has_placeholder_name x (skip_trivia p) ≡ false → is_beside x cs
      (skip_trivia p) c ≡ true
      → match_opt m x (skip_trivia p) (partner x cs (skip_trivia p)) ≡ matched es
      → again f x cs p c ≡ notes es ++ again f x cs (rest (skip_trivia p)) (rest c)
  owed_pair es k n h b e = to_node ∙ again_node f x cs (skip_trivia p) c n h ∙ rw (b, e, next_here c k)
