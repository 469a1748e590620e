-- Comments that stand in the buffer stay there while others are laid behind them, and those of what is left by name stand behind those
-- that were passed.
-- Assumes nothing.
use mathlib.Core.Path.{◌≡◌, refl, sym, ap, ◌∙◌, subst}
use mathlib.Core.Bool.{Bool, true, false, cond, not, ◌&&◌, and-false}
use mathlib.Core.List.{List, [], ◌∷◌, ◌++◌}
use Prim.Native.Nat.{ℕ, ◌+◌, ◌≤◌}
use native.Mathlib.Nat.{add-zero}
use native.Mathlib.Omega.{arith}
use lib.Dec.{leb}
use lib.ListN.{length, take, drop, length-append}
use lib.Seq.{take_at, drop_at, take-take, take-add, drop-drop, take-append-le, length-take-le}
use borrow.Author.Tests.{leb-true, le-leb}
use Rattle.words.specs.Buffer.{laid}
use Rattle.words.proofs.TestLaws.{and_of}
use Rattle.syntax.specs.Trees.{Elems, none}
use Rattle.syntax.specs.Accessors.{rest, some}
use Rattle.syntax.specs.Siblings.{is_a_node, is_a_token, skip_trivia}
use Rattle.captures.specs.declared.State.{State}
use Rattle.captures.specs.Attempts.{Event, Bound, Noted, Attempt, matched, and_then, given, comments}
use Rattle.captures.specs.Effects.{place_behind, recorded_one, recorded, laid_one, laid_by}
use Rattle.captures.proofs.AttemptLaws.{laid-one-length, laid-length, comments-append, noted_after, recorded-noted, noted_exact, noted-fits}
use Rattle.captures.proofs.PartLaws.{events_of, Parted, parted, given_holds}
use Rattle.matcher.specs.Matcher.{Matcher, has_placeholder_name}
use Rattle.record_fields.specs.Fields.{pattern_name, is_free}
use Rattle.record_fields.specs.Order.{next, partner}
use Rattle.matching.specs.StartingOver.{field_by_name, by_name}
use Rattle.matching.specs.Matching.{Stood}
use Rattle.matching.proofs.AlongLaws.{next_trivia, by_next, by_node}

-- ---- four tests

pub all-four : (a b k d : Bool) → a ≡ true → b ≡ true → k ≡ false → d ≡ true → (a && b && not k && d) ≡ true
all-four a b k d e f g h = rw (e, f, g, h)

-- ---- bytes before the place

laid-before : (k : ℕ) (d : List ℕ) (at : ℕ) (bs : List ℕ) (b l : Bool) → leb (at + length bs) (length d) ≡ b → k ≤ at
    → take k (cond l (cond b (laid d at bs) d) d) ≡ take k d
laid-before k d at bs true true e h =
    let m = leb-true (at + length bs) (length d) e in let n = length-take-le at d (omega (arith, m)) in
    take-append-le k (take at d ++ bs) (drop (at + length bs) d) (omega (arith, h, n, length-append (take at d) bs))
    ∙ take-append-le k (take at d) bs (omega (arith, h, n)) ∙ take-take k at d h
laid-before k d at bs false true e h = refl
laid-before k d at bs b false e h = refl

place_rises : (room at n k : ℕ) → k ≤ at → k ≤ room → k ≤ place_behind room at n
place_rises room at n k h l = by (leb (at + n) room)
  where
    by : (b : Bool) → k ≤ cond b (at + n) (room + 1)
    by true = omega arith
    by false = omega arith

pub laid-behind : (k : ℕ) (es : List Event) (s : State) (out : List ℕ) → k ≤ s.noted → k ≤ length out → take k (laid_by es s out) ≡ take k out
unfolding laid_by
laid-behind k [] s out h l = refl
laid-behind k (Bound slot b ∷ es) s out h l = laid-behind k es (recorded_one (length out) (Bound slot b) s) out h l
laid-behind k (Noted t ∷ es) s out h l =
    laid-behind k es (recorded_one (length out) (Noted t) s) (laid_one (Noted t) s out) (place_rises (length out) s.noted (length t) k h l) (omega
    (arith, l, laid-one-length (Noted t) s out))
    ∙ laid-before k out s.noted t (leb (s.noted + length t) (length out)) s.lays refl h

-- ---- parts of bytes

take-drop : (a n : ℕ) (l : List ℕ) → a ≤ length l → take n (drop a l) ≡ drop a (take (a + n) l)
take-drop a n l h = sym (ap (drop a) (take-add a n l) ∙ drop_at (take a l) (take n (drop a l)) a (length-take-le a l h))

pub kept : (a n k : ℕ) (l l' : List ℕ) → a + n ≤ k → a ≤ length l → a ≤ length l' → take k l ≡ take k l' → take n (drop a l) ≡ take n (drop a l')
kept a n k l l' h m o e =
    take-drop a n l m ∙ ap (drop a) (sym (take-take (a + n) k l h) ∙ ap (take (a + n)) e ∙ take-take (a + n) k l' h) ∙ sym (take-drop a n l' o)

module _ (xs ys : List ℕ) (from : ℕ) (out : List ℕ) (e : take (length xs + length ys) (drop from out) ≡ xs ++ ys) where
  pub part-first : take (length xs) (drop from out) ≡ xs
  part-first = sym (take-take (length xs) (length xs + length ys) (drop from out) (omega arith)) ∙ ap (take (length xs)) e ∙ take_at xs ys (length
      xs) refl

  pub part-second : take (length ys) (drop (from + length xs) out) ≡ ys
  part-second =
      ap (take (length ys)) (sym (drop-drop (length xs) from out))
      ∙ sym (drop_at (take (length xs) (drop from out)) (take (length ys) (drop (length xs) (drop from out))) (length xs) (ap length part-first))
      ∙ ap (drop (length xs)) (sym (take-add (length xs) (length ys) (drop from out)) ∙ e) ∙ drop_at xs ys (length xs) refl

-- ---- the tests of a sibling that asks by its name

first_false : (a l b k d : Bool) → a ≡ false → ((a && l) && b && not k && d) ≡ false
first_false a l b k d e = rw (e)

last_false : (a b k d : Bool) → d ≡ false → (a && b && not k && d) ≡ false
last_false a b k d e = rw (e) (and-false (a && b && not k))

token_false : (a b k d : Bool) → k ≡ true → (a && b && not k && d) ≡ false
token_false a b k d e = rw (e, and-false (a && b))

-- ---- what stands, taken apart at the pattern's next sibling

module _ (f : Elems → Elems → Attempt) (x : Matcher) (ps cs p : Elems) (before : Bool) (from : ℕ) (s : State) (out : List ℕ)
    (stood : Stood (cond before (by_name false f x ps cs p none) (matched [])) from s out) where
  module _ (open_before : before ≡ true) (plainly : has_placeholder_name x (skip_trivia p) ≡ false) (n : is_a_node (skip_trivia p) ≡ true) where
    to_node : by_name false f x ps cs p none ≡ by_name false f x ps cs (skip_trivia p) none
    to_node = sym (by_next f x ps cs p) ∙ ap (λ (q : Elems). by_name false f x ps cs q none) (sym (next_trivia p)) ∙ by_next f x ps cs (skip_trivia p)

    pub parts : Parted (field_by_name false f x ps cs (skip_trivia p) none) (by_name false f x ps cs (rest (skip_trivia p)) none) stood.events
    parts = parted _ _ stood.events (sym (to_node ∙ by_node f x ps cs (skip_trivia p) n plainly) ∙ subst (λ (b : Bool). cond b (by_name false f x ps
        cs p none) (matched []) ≡ matched stood.events) open_before stood.matches)

    -- the pair by name, where it has a name
    pub named_matches : some (pattern_name (skip_trivia p)) ≡ true → f (skip_trivia p) (partner x cs (skip_trivia p)) ≡ matched parts.first
    named_matches e =
        let g : and_then (given (is_free x ps (skip_trivia p))) (f (skip_trivia p) (partner x cs (skip_trivia p))) ≡ matched parts.first = rw
        (e) at parts.first_is in
        let q = parted _ _ parts.first g in let v = given_holds (is_free x ps (skip_trivia p)) q.first q.first_is in
        q.second_is ∙ ap matched (sym (q.whole ∙ ap (λ (l : List Event). l ++ q.second) v.1))

    unnamed_nothing : some (pattern_name (skip_trivia p)) ≡ false → parts.first ≡ []
    unnamed_nothing e = sym (ap events_of (rw (e) at parts.first_is))

    bytes_parted : comments stood.events ≡ comments parts.first ++ comments parts.second
    bytes_parted = ap comments parts.whole ∙ comments-append parts.first parts.second

    length_parted : length (comments stood.events) ≡ length (comments parts.first) + length (comments parts.second)
    length_parted = ap length bytes_parted ∙ length-append (comments parts.first) (comments parts.second)

    module _ (h : s.noted ≤ length out) where
      both_stand : take (length (comments parts.first) + length (comments parts.second)) (drop from out) ≡ comments parts.first ++ comments
          parts.second
      both_stand = ap (λ (k : ℕ). take k (drop from out)) (sym length_parted) ∙ (stood.bytes h).1 ∙ bytes_parted

      pub first-stands : take (length (comments parts.first)) (drop from out) ≡ comments parts.first
      first-stands = part-first (comments parts.first) (comments parts.second) from out both_stand

      pub first_fits_lem : from + length (comments parts.first) ≤ s.noted
      first_fits_lem = omega (arith, (stood.bytes h).0, length_parted)

  -- ---- along a turn

  module _ (c p' : Elems) (on named : Bool) (end : ℕ) (t : State) (out' : List ℕ) (acts : List Event)
      (goes : on ≡ (before && not (has_placeholder_name x (skip_trivia p))))
      (tokens : is_a_token c ≡ true → next p' ≡ next p) (nodes : is_a_token c ≡ false → (is_a_node (skip_trivia p) ≡ true) × (p' ≡ rest (skip_trivia p)))
      (asked : named ≡ ((on && leb s.noted (length out)) && is_a_node (skip_trivia p) && not (is_a_token c) && some (pattern_name (skip_trivia p))))
      (measured : (es : List Event) → named ≡ true → f (skip_trivia p) (partner x cs (skip_trivia p)) ≡ matched es → end ≡ noted_after (length out) es
      from)
      (plain : named ≡ false → end ≡ from)
      (state : t ≡ recorded (length out) acts s) (buffer : out' ≡ laid_by acts s out) where
    -- the place rose, and what stands before it is as it was
    rises : t.noted ≤ length out' → (s.noted ≤ length out) × (s.noted ≤ t.noted)
    rises h =
        let e : t.noted ≡ noted_after (length out) acts s.noted = ap (λ (v : State). v.noted) (state ∙ recorded-noted (length out) acts s) in
        let l : length out' ≡ length out = ap length buffer ∙ laid-length acts s out in
        let k = noted_exact (length out) acts s.noted (omega (arith, h, e, l)) in
        (omega (arith, k.1), omega (arith, e, k.0))

    same-part : (a n : ℕ) → a + n ≤ s.noted → s.noted ≤ length out → take n (drop a out') ≡ take n (drop a out)
    same-part a n h l =
        kept a n s.noted out' out h (omega (arith, h, l, ap length buffer ∙ laid-length acts s out)) (omega (arith, h, l))
        (ap (take s.noted) buffer ∙ laid-behind s.noted acts s out (omega arith) l)

    -- nothing is left
    none_left : named ≡ false → Stood (matched []) end t out'
    unfolding comments
    none_left e = record {
      events = [];
      matches = refl;
      bytes = λ h. let k = rises h in (omega (arith, plain e, k.1, (stood.bytes k.0).0), refl);
    }

    -- all is left that was
    all_left : named ≡ false → (a : Attempt) → a ≡ cond before (by_name false f x ps cs p none) (matched []) → Stood a end t out'
    all_left e a same = record {
      events = stood.events;
      matches = same ∙ stood.matches;
      bytes = λ h.
          let k = rises h in let b = stood.bytes k.0 in
          (omega (arith, plain e, k.1, b.0), rw (plain e) (same-part from (length (comments stood.events)) b.0 k.0 ∙ b.1));
    }

    -- all but the next sibling's
    module _ (u : before ≡ true) (v : has_placeholder_name x (skip_trivia p) ≡ false) (n : is_a_node (skip_trivia p) ≡ true) (o : on ≡ true) (k : is_a_token c
        ≡ false) where
      end_is : s.noted ≤ length out → end ≡ from + length (comments (parts u v n).first)
      unfolding comments
      end_is h = by (some (pattern_name (skip_trivia p))) refl
        where
          by : (b : Bool) → some (pattern_name (skip_trivia p)) ≡ b → end ≡ from + length (comments (parts u v n).first)
          by true e =
              let is : named ≡ true = asked ∙ all-four (on && leb s.noted (length out)) (is_a_node (skip_trivia p)) (is_a_token c) (some
              (pattern_name (skip_trivia p))) (and_of o (le-leb s.noted (length out) h)) n k e in
              measured (parts u v n).first is (named_matches u v n e) ∙ noted-fits (length out) (parts u v n).first from (omega (
                arith,
                first_fits_lem
                    u v n h,
                h,
              ))
          by false e =
              let is : named ≡ false = asked ∙ last_false (on && leb s.noted (length out)) (is_a_node (skip_trivia p)) (is_a_token c) (some (pattern_name
              (skip_trivia p))) e in
              plain is ∙ sym (ap (λ (l : List Event). from + length (comments l)) (unnamed_nothing u v n e) ∙ add-zero from)

      node_left : Stood (by_name false f x ps cs (rest (skip_trivia p)) none) end t out'
      node_left = record {
        events = (parts u v n).second;
        matches = (parts u v n).second_is;
        bytes = λ h.
            let r = rises h in let e = end_is r.0 in (
              omega (arith, e, r.1, (stood.bytes r.0).0, length_parted u v n),
              rw (e) (same-part (from + length (comments (parts u v n).first)) (length (comments (parts u v n).second)) (omega (
                arith,
                (stood.bytes
                    r.0).0,
                length_parted u v n,
              )) r.0
                  ∙ part-second (comments (parts u v n).first) (comments (parts u v n).second) from out (both_stand u v n r.0)),
            );
      }

    pub stood_turn : Stood (cond on (by_name false f x ps cs p' none) (matched [])) end t out'
    stood_turn = by before (has_placeholder_name x (skip_trivia p)) refl refl
      where
        off : on ≡ false → Stood (cond on (by_name false f x ps cs p' none) (matched [])) end t out'
        off o = subst (λ (b : Bool). Stood (cond b (by_name false f x ps cs p' none) (matched [])) end t out') (sym o)
            (none_left (asked ∙ first_false on (leb s.noted (length out)) (is_a_node (skip_trivia p)) (is_a_token c) (some (pattern_name (skip_trivia p)))
            o))

        on-left : on ≡ true → before ≡ true → has_placeholder_name x (skip_trivia p) ≡ false → (k : Bool) → is_a_token c ≡ k → Stood (by_name false f x ps
            cs p' none) end t out'
        on-left o u v true w =
            all_left (asked ∙ token_false (on && leb s.noted (length out)) (is_a_node (skip_trivia p)) (is_a_token c) (some (pattern_name (skip_trivia p)))
            w) (by_name false f x ps cs p' none)
            (sym (by_next f x ps cs p') ∙ ap (λ (q : Elems). by_name false f x ps cs q none) (tokens w) ∙ by_next f x ps cs p
            ∙ sym (ap (λ (b : Bool). cond b (by_name false f x ps cs p none) (matched [])) u))
        on-left o u v false w = let n = nodes w in subst (λ (q : Elems). Stood (by_name false f x ps cs q none) end t out') (sym n.1) (node_left u
            v n.0 o w)

        by : (b h : Bool) → before ≡ b → has_placeholder_name x (skip_trivia p) ≡ h → Stood (cond on (by_name false f x ps cs p' none) (matched [])) end
            t out'
        by false h u v = off (goes ∙ ap (λ (a : Bool). a && not (has_placeholder_name x (skip_trivia p))) u)
        by true true u v = off (goes ∙ ap (λ (a : Bool). a && not (has_placeholder_name x (skip_trivia p))) u ∙ ap not v)
        by true false u v =
            let o : on ≡ true = goes ∙ ap (λ (a : Bool). a && not (has_placeholder_name x (skip_trivia p))) u ∙ ap not v in
            subst (λ (b : Bool). Stood (cond b (by_name false f x ps cs p' none) (matched [])) end t out') (sym o) (on-left o u v (is_a_token c) refl)
