-- Record lists that start over: a pair of siblings that the ordered part matches too may be left out of the part by name, where no comment
-- is laid and the comments of those left out are counted at the end.
-- Assumes nothing.
use mathlib.Core.Path.{◌≡◌, refl, sym, ap, subst, ◌∙◌}
use mathlib.Core.Bool.{Bool, true, false, cond, not, ◌&&◌, ◌||◌, false≢true}
use mathlib.Core.List.{List, [], ◌++◌, append_assoc, append-nil}
use Prim.Native.Nat.{ℕ, zero, suc, ◌+◌, ◌*◌, ◌≤◌, ◌<◌}
use native.Mathlib.Nat.{le_of_suc-le-suc, not-suc-le-zero}
use native.Mathlib.Omega.{arith}
use lib.Dec.{eqb}
use lib.ListN.{length, drop}
use lib.Seq.{drop-drop}
use borrow.Author.Tests.{eqb-true}
use Rattle.std.proofs.Common.{Option, Some}
use Rattle.words.proofs.TestLaws.{and_both, or_neither, or_second, low_or}
use Rattle.syntax.specs.Parts.{span}
use Rattle.syntax.specs.Trees.{Elems, none, token, node, elems}
use Rattle.syntax.specs.Accessors.{rest, some, number_of, between, or_else}
use Rattle.syntax.proofs.TreeLaws.{elems_end}
use Rattle.syntax.proofs.AccessorLaws.{rest_are, number_is}
use Rattle.syntax.specs.Siblings.{kind_of, is_a_node, is_a_token, is_trivia, skip_tokens, skip_trivia}
use Rattle.syntax.proofs.SiblingLaws.{trivia_is_token, some_node, long_some, skip_here, skip_next}
use Rattle.captures.specs.Attempts.{Event, Attempt, failed, matched, and_then, given, notes, notes_of}
use Rattle.captures.specs.Effects.{recorded, Gives}
use Rattle.captures.specs.declared.State.{State}
use Rattle.captures.proofs.AttemptLaws.{then_assoc, then_nothing, recorded-append}
use Rattle.captures.proofs.PartLaws.{fails_not, parted}
use Rattle.captures.proofs.AgainLaws.{notes-later, binds, Covers, binds-append, left_out, laid_silent}
use Rattle.matcher.specs.Matcher.{Matcher, has_placeholder_name}
use Rattle.matcher.specs.Tokens.{skips, is_extra, past_separator, is_same_token, matches_token, after_token, note}
use Rattle.matcher.proofs.TokenLaws.{same_token_is}
use Rattle.record_fields.specs.Fields.{pattern_name, are_asked, is_free, is_field, last_field}
use Rattle.matching.specs.RecordFields.{match_fields}
use Rattle.matching.specs.Matching.{match_node, match_sequences, match_opt}
use Rattle.record_fields.specs.Order.{starts_over, next, past, partner, is_same}
use Rattle.matching.specs.StartingOver.{by_name, again, is_silent}
use Rattle.matching.proofs.GiveLaws.{same_gives}
use Rattle.matching.proofs.StepLaws.{opt_both, sequence_end, sequence_trivia, sequence_token, sequence_other-token, sequence_node, sequence_other}

-- ---- the fields by name and what comes behind them

over-step : (placeholder named free : Bool) (a o left b : Attempt) → (placeholder ≡ false → left ≡ and_then b o)
    → cond placeholder o (cond named (and_then (given free) (and_then a left)) left)
    ≡ and_then (cond placeholder (matched []) (and_then (cond named (and_then (given free) a) (matched [])) b)) o
over-step true named free a o left b h = sym (then_nothing o)
over-step false false free a o left b h = h refl ∙ sym (ap (λ (z : Attempt). and_then z o) (then_nothing b))
over-step false true free a o left b h =
    ap (λ (z : Attempt). and_then (given free) (and_then a z)) (h refl)
    ∙ sym (then_assoc (and_then (given free) a) b o ∙ then_assoc (given free) a (and_then b o))

module _ (f : Elems → Elems → Attempt) (o : Attempt) (x : Matcher) (ps cs : Elems) where
  -- one of the siblings has a placeholder as its name: there all siblings are matched by order
  pub fields_over : (q d : Elems) → starts_over x q ≡ true → match_fields f o x ps cs q ≡ and_then (by_name false f x ps cs q d) o
  unfolding match_fields starts_over by_name
  fields_over none d h = absurd (false≢true h)
  fields_over (token i k s e r) d h =
      over-step false false true failed o (match_fields f o x ps cs r) (by_name false f x ps cs r (past (token i k s e r) d))
      (λ _. fields_over r (past (token i k s e r) d) h)
  fields_over (node i k s e ds r) d h =
      let q = node i k s e ds r in
      over-step (has_placeholder_name x q) (some (pattern_name q)) (is_free x ps q) (f q (partner x cs q)) o (match_fields f o x ps cs r) (by_name
      false f x ps cs r (past q d))
      (λ p. fields_over r (past q d) (or_second (has_placeholder_name x q) (starts_over x r) p h))

  -- none has: each field of the code that has a name must be asked for
  abbrev asked : Attempt
  asked = given (are_asked x ps cs)

  pub fields_plain : (q d : Elems) → starts_over x q ≡ false
      → match_fields f o x ps cs q ≡ and_then (by_name false f x ps cs q d) (given (are_asked x ps cs))
  unfolding match_fields starts_over by_name
  fields_plain none d h = sym (then_nothing asked)
  fields_plain (token i k s e r) d h =
      over-step false false true failed asked (match_fields f o x ps cs r) (by_name false f x ps cs r (past (token i k s e r) d))
      (λ _. fields_plain r (past (token i k s e r) d) h)
  fields_plain (node i k s e ds r) d h =
      let q = node i k s e ds r in
      let p = or_neither (has_placeholder_name x q) (starts_over x r) h in
      rw p.0 (over-step false (some (pattern_name q)) (is_free x ps q) (f q (partner x cs q)) asked (match_fields f o x ps cs r) (by_name
      false f x ps cs r (past q d))
      (λ _. fields_plain r (past q d) p.1))

-- ---- what is left of siblings

-- the siblings, or what follows the first of what is left of them
pub data Tail (c : Elems) : Elems → Type 0 where
  whole : Tail c c
  further : (a : Elems) → Tail c a → Tail c (rest a)

-- no two of them have the same number
abbrev pub Unique : Elems → Type 0
Unique c = (a b : Elems) → Tail c a → Tail c b → some a ≡ true → some b ≡ true → number_of a ≡ number_of b → a ≡ b

module _ (cs : Elems) where
  skip_tail : (low high : ℕ) (d : Elems) → Tail cs d → Tail cs (skip_tokens low high d)
  unfolding skip_tokens
  skip_tail low high none t = t
  skip_tail low high (token i k s e r) t = by (between low high k) (skip_tail low high r (further (token i k s e r) t))
    where
      by : (b : Bool) → Tail cs (skip_tokens low high r) → Tail cs (cond b (skip_tokens low high r) (token i k s e r))
      by true u = u
      by false u = t
  skip_tail low high (node i k s e ds r) t = t

  past_tail : (q d : Elems) → Tail cs d → Tail cs (past q d)
  past_tail q d t = by (is_a_token q)
    where
      by : (b : Bool) → Tail cs (cond b d (rest (next d)))
      by true = t
      by false = further (next d) (skip_tail 1 1023 d t)

  or_tail : (a b : Elems) → (some a ≡ true → Tail cs a) → (some b ≡ true → Tail cs b) → some (or_else a b) ≡ true → Tail cs (or_else a b)
  unfolding or_else
  or_tail none b f g h = g h
  or_tail (token i k s e r) b f g h = f refl
  or_tail (node i k s e ds r) b f g h = f refl

  if_tail : (b : Bool) (c : Elems) → Tail cs c → some (cond b c none) ≡ true → Tail cs (cond b c none)
  if_tail true c t h = t
  if_tail false c t h = absurd (false≢true h)

  module _ (x : Matcher) (kind : ℕ) (name : List ℕ) where
    pub last_tail : (c : Elems) → Tail cs c → some (last_field x kind name c) ≡ true → Tail cs (last_field x kind name c)
    unfolding last_field
    last_tail none t h = t
    last_tail (token i k s e r) t h = last_tail r (further (token i k s e r) t) h
    last_tail (node i k s e ds r) t h =
        let c = node i k s e ds r in let b = is_field x kind name c in
        or_tail (last_field x kind name r) (cond b c none) (last_tail r (further c t)) (if_tail b c t) h

-- ---- the numbers of siblings that words are

-- passing some elements and then others
pass_more : (i n m : ℕ) (l : List ℕ) → elems (i + (n + m)) (drop ((n + m) * 3) l) ≡ elems (i + n + m) (drop (m * 3) (drop (n * 3) l))
pass_more i n m l =
    let q : i + (n + m) ≡ i + n + m = omega arith in
    let r : (n + m) * 3 ≡ n * 3 + m * 3 = omega arith in
    rw (q, r, drop-drop (m * 3) (n * 3) l)

pass_none : (i : ℕ) (l : List ℕ) → elems (i + 0) l ≡ elems i l
pass_none i l = let q : i + 0 ≡ i = omega arith in rw q

-- what is left of them begins behind some elements
record Place (i : ℕ) (l : List ℕ) (a : Elems) : Type 0 where
  elements : ℕ
  is : a ≡ elems (i + elements) (drop (elements * 3) l)

rest-place : (i : ℕ) (l : List ℕ) (a : Elems) → Place i l a → Place i l (rest a)
rest-place i l a p = low_or (length (drop (p.elements * 3) l)) 3 ending going
  where
    ending : length (drop (p.elements * 3) l) < 3 → Place i l (rest a)
    ending h = let e = elems_end (i + p.elements) (drop (p.elements * 3) l) h in record { elements = p.elements; is = ap rest (p.is ∙ e) ∙ sym e }

    going : 3 ≤ length (drop (p.elements * 3) l) → Place i l (rest a)
    going h = record {
      elements = p.elements + span (drop (p.elements * 3) l);
      is = ap rest p.is ∙ rest_are (i + p.elements) (drop (p.elements * 3) l) h ∙ sym (pass_more i p.elements (span (drop (p.elements * 3)
          l)) l);
    }

tail_place : (i : ℕ) (l : List ℕ) (c a : Elems) → c ≡ elems i l → Tail c a → Place i l a
tail_place i l c a e whole = record { elements = 0; is = e ∙ sym (pass_none i l) }
tail_place i l c a e (further b t) = rest-place i l b (tail_place i l c b e t)

place_number : (i : ℕ) (l : List ℕ) (a : Elems) (p : Place i l a) → some a ≡ true → number_of a ≡ i + p.elements
place_number i l a p h =
    ap number_of p.is ∙ number_is (i + p.elements) (drop (p.elements * 3) l) (long_some (i + p.elements) (drop (p.elements * 3) l) (ap some
    (sym p.is) ∙ h))

pub elems_unique : (i : ℕ) (l : List ℕ) → Unique (elems i l)
elems_unique i l a b t u h k e =
    let p = tail_place i l (elems i l) a refl t in let q = tail_place i l (elems i l) b refl u in
    let n : p.elements ≡ q.elements = omega (arith, place_number i l a p h, place_number i l b q k, e) in
    p.is ∙ ap (λ (j : ℕ). elems (i + j) (drop (j * 3) l)) n ∙ sym q.is

-- ---- siblings beside each other

-- each of the pattern's nodes with the next one of the code by order
unfoldable AllBeside : (Elems → Elems → Type 0) → Elems → Elems → Type 0
AllBeside P none d = Unit {0}
AllBeside P (token i k s e r) d = AllBeside P r (past (token i k s e r) d)
AllBeside P (node i k s e ds r) d = P (node i k s e ds r) (next d) × AllBeside P r (rest (next d))

module _ (P : Elems → Elems → Type 0) where
  beside_none : (q d : Elems) → some q ≡ false → AllBeside P q d
  unfolding AllBeside
  beside_none none d h = tt
  beside_none (token i k s e r) d h = absurd (false≢true (sym h))
  beside_none (node i k s e ds r) d h = absurd (false≢true (sym h))

  beside_token : (q d : Elems) → is_a_token q ≡ true → AllBeside P (rest q) d → AllBeside P q d
  unfolding AllBeside
  beside_token none d h a = absurd (false≢true h)
  beside_token (token i k s e r) d h a = rw (h) a
  beside_token (node i k s e ds r) d h a = absurd (false≢true h)

  beside_node : (q d : Elems) → is_a_node q ≡ true → P q (next d) → AllBeside P (rest q) (rest (next d)) → AllBeside P q d
  unfolding AllBeside
  beside_node none d h p a = absurd (false≢true h)
  beside_node (token i k s e r) d h p a = absurd (false≢true h)
  beside_node (node i k s e ds r) d h p a = (p, a)

  -- trivia of the pattern
  beside_trivia : (q d : Elems) → AllBeside P (skip_trivia q) d → AllBeside P q d
  unfolding skip_tokens
  beside_trivia none d a = a
  beside_trivia (token i k s e r) d a = by (beside_trivia r d) (between 2 3 k) refl a
    where
      by : (AllBeside P (skip_trivia r) d → AllBeside P r d) → (b : Bool) → between 2 3 k ≡ b
          → AllBeside P (cond b (skip_trivia r) (token i k s e r)) d → AllBeside P (token i k s e r) d
      by f true h u = beside_token (token i k s e r) d (trivia_is_token (token i k s e r) h) (f u)
      by f false h u = u
  beside_trivia (node i k s e ds r) d a = a

  -- tokens of the code: only the next one that is none counts
  beside_code : (q d d' : Elems) → next d ≡ next d' → AllBeside P q d → AllBeside P q d'
  unfolding AllBeside
  beside_code none d d' h a = tt
  beside_code (token i k s e r) d d' h a = by (beside_code r d d' h) (between 1 1023 k) a
    where
      by : (AllBeside P r d → AllBeside P r d') → (b : Bool) → AllBeside P r (cond b d (rest (next d))) → AllBeside P r (cond b d' (rest (next d')))
      by f true u = f u
      by f false u = subst (λ (c : Elems). AllBeside P r (rest c)) h u
  beside_code (node i k s e ds r) d d' h a =
      let q = node i k s e ds r in (subst (λ (c : Elems). P q c) h a.0, subst (λ (c : Elems). AllBeside P r (rest c)) h a.1)

  beside_rest : (q c : Elems) → is_a_token c ≡ true → AllBeside P q (rest c) → AllBeside P q c
  beside_rest q c h a = beside_code q (rest c) c (sym (skip_next 1 1023 c h)) a

  -- the pattern's tokens that one token of the code passes
  module _ (x : Matcher) (p c d : Elems) where
    beside_past : AllBeside P (past_separator x.sheet p c) d → AllBeside P p d
    beside_past = by (is_a_token p) (skips x.sheet (kind_of p) (kind_of c)) refl
      where
        by : (a b : Bool) → is_a_token p ≡ a → AllBeside P (cond (a && b) (skip_trivia (rest p)) p) d → AllBeside P p d
        by true true h u = beside_token p d h (beside_trivia (rest p) d u)
        by true false h u = u
        by false b h u = u

    beside_after : matches_token x.sheet x.code x.text p c ≡ true → AllBeside P (after_token x.sheet p c) d → AllBeside P p d
    beside_after m a = by (is_extra x.sheet p c) m a
      where
        by : (b : Bool) → (b || is_same_token x.code x.text (past_separator x.sheet p c) c) ≡ true
            → AllBeside P (cond b p (rest (past_separator x.sheet p c))) d → AllBeside P p d
        by true h u = u
        by false h u =
            beside_past (beside_token (past_separator x.sheet p c) d (same_token_is x.code x.text (past_separator x.sheet p c) c h) u)

-- ---- attempts in turn that match

covers-first : (es fs : List Event) → Covers (es ++ fs) es
covers-first es fs slot h = binds-append slot es fs ∙ rw (h)

covers-later : (es fs gs : List Event) → Covers fs gs → Covers (es ++ fs) gs
covers-later es fs gs f slot h = binds-append slot es fs ∙ rw (f slot h) (or-true (binds slot es))
  where
    or-true : (b : Bool) → (b || true) ≡ true
    or-true true = refl
    or-true false = refl

-- ---- by order, siblings that are no tokens are matched with those beside them

module _ (x : Matcher) (P : Elems → Elems → Type 0) where
  -- two nodes that match within the bound, recording what all events cover
  abbrev Into : ℕ → List Event → Type 0
  Into n os = (m : ℕ) (q e : Elems) (es : List Event) → m < n → some q ≡ true → some e ≡ true → match_node m x q e ≡ matched es → Covers os es → P q e

  abbrev Along : ℕ → Type 0
  Along n = (ps cs : Elems) (os : List Event) → match_sequences n x ps cs ≡ matched os → Into n os → AllBeside P ps cs

  into_later : (n : ℕ) (es fs os : List Event) → os ≡ es ++ fs → Into (suc n) os → Into n fs
  into_later n es fs os e f m q c gs l h k r v = f m q c gs (omega (arith, l)) h k r (subst (λ (us : List Event). Covers us gs) (sym e) (covers-later
      es fs gs v))

  module _ (n : ℕ) (left : Along n) (ps cs : Elems) (os : List Event) (h : match_sequences (suc n) x ps cs ≡ matched os) (f : Into (suc n) os) where
    along_end : some cs ≡ false → AllBeside P ps cs
    along_end e = beside_trivia P ps cs (by (some (skip_trivia ps)) refl (sym (sequence_end x ps cs n e) ∙ h))
      where
        by : (b : Bool) → some (skip_trivia ps) ≡ b → given (not b) ≡ matched os → AllBeside P (skip_trivia ps) cs
        by true u k = fails_not os k
        by false u k = beside_none P (skip_trivia ps) cs u

    module _ (e : some cs ≡ true) where
      along_trivia : is_trivia cs ≡ true → AllBeside P ps cs
      along_trivia t =
          let b = parted (note x.text cs) (match_sequences n x (skip_trivia ps) (rest cs)) os (sym (sequence_trivia x ps cs n e t) ∙ h) in
          beside_trivia P ps cs (beside_rest P (skip_trivia ps) cs (trivia_is_token cs t)
          (left (skip_trivia ps) (rest cs) b.second b.second_is (into_later n b.first b.second os b.whole f)))

      module _ (t : is_trivia cs ≡ false) where
        along_token : is_a_token cs ≡ true → (b : Bool) → matches_token x.sheet x.code x.text (skip_trivia ps) cs ≡ b → AllBeside P ps cs
        along_token k true m =
            let after = after_token x.sheet (skip_trivia ps) cs in
            beside_trivia P ps cs (beside_after P x (skip_trivia ps) cs cs m (beside_rest P after cs k
            (left after (rest cs) os (sym (sequence_token x ps cs n e t k m) ∙ h) (into_later n [] os os refl f))))
        along_token k false m = fails_not os (sym (sequence_other-token x ps cs n e t k m) ∙ h)

        along_node : is_a_token cs ≡ false → (b : Bool) → is_a_node (skip_trivia ps) ≡ b → AllBeside P ps cs
        along_node k true m =
            let p = skip_trivia ps in
            let b = parted (match_node n x p cs) (match_sequences n x (rest p) (rest cs)) os (sym (sequence_node x ps cs n e t k m) ∙ h) in
            let c : next cs ≡ cs = skip_here 1 1023 cs k in
            let v : Covers os b.first = subst (λ (us : List Event). Covers us b.first) (sym b.whole) (covers-first b.first b.second) in
            beside_trivia P ps cs (beside_node P p cs m
            (rw (c) (f n p cs b.first (omega arith) (some_node p m) e b.first_is v))
            (rw (c) (left (rest p) (rest cs) b.second b.second_is (into_later n b.first b.second os b.whole f))))
        along_node k false m = fails_not os (sym (sequence_other x ps cs n e t k m) ∙ h)

        along_plain : (b : Bool) → is_a_token cs ≡ b → AllBeside P ps cs
        along_plain true k = along_token k (matches_token x.sheet x.code x.text (skip_trivia ps) cs) refl
        along_plain false k = along_node k (is_a_node (skip_trivia ps)) refl

      along_some : (b : Bool) → is_trivia cs ≡ b → AllBeside P ps cs
      along_some true t = along_trivia t
      along_some false t = along_plain t (is_a_token cs) refl

    along_step : (b : Bool) → some cs ≡ b → AllBeside P ps cs
    along_step true e = along_some e (is_trivia cs) refl
    along_step false e = along_end e

  along : (n : ℕ) → Along n
  unfolding match_node
  along zero ps cs os h f = fails_not os h
  along (suc n) ps cs os h f = along_step n (along n) ps cs os h f (some cs) refl

-- ---- with some pairs left out, and with all

-- both fail; or both match, and with the ordered part behind both they leave the same, where notes are counted behind the first
abbrev Agree : List Event → Attempt → Attempt → List Event → Type 0
Agree os failed failed ns = Unit {0}
Agree os failed (matched fs) ns = ⊥
Agree os (matched gs) failed ns = ⊥
Agree os (matched gs) (matched fs) ns = (room : ℕ) (s : State) → recorded room (gs ++ (os ++ ns)) s ≡ recorded room (fs ++ os) s

module _ (os : List Event) where
  agree-done : Agree os (matched []) (matched []) []
  agree-done room s = ap (λ (es : List Event). recorded room es s) (append-nil os)

  -- what both do first
  agree_then : (a b d : Attempt) (ns : List Event) → Agree os b d ns → Agree os (and_then a b) (and_then a d) ns
  unfolding and_then
  agree_then failed b d ns h = tt
  agree_then (matched es) failed failed ns h = tt
  agree_then (matched es) failed (matched fs) ns h = h
  agree_then (matched es) (matched gs) failed ns h = h
  agree_then (matched es) (matched gs) (matched fs) ns h = λ room s.
      ap (λ (us : List Event). recorded room us s) (append_assoc es gs (os ++ ns)) ∙ recorded-append room es (gs ++ (os ++ ns)) s
      ∙ h room (recorded room es s) ∙ sym (ap (λ (us : List Event). recorded room us s) (append_assoc es fs os) ∙ recorded-append room es (fs ++ os)
      s)

  -- what only the second does, and is bound again
  agree_left : (es : List Event) (b d : Attempt) (ns : List Event) → Covers os es → Agree os b d ns → Agree os b (and_then (matched es) d) (notes es
      ++ ns)
  unfolding and_then
  agree_left es failed failed ns v h = tt
  agree_left es failed (matched fs) ns v h = h
  agree_left es (matched gs) failed ns v h = h
  agree_left es (matched gs) (matched fs) ns v h = λ room s.
      let to : List Event → State = λ us. recorded room us s in
      ap to (sym (append_assoc gs os (notes es ++ ns))) ∙ recorded-append room (gs ++ os) (notes es ++ ns) s
      ∙ notes-later room es ns (recorded room (gs ++ os) s) ∙ sym (recorded-append room (gs ++ os) (ns ++ notes es) s)
      ∙ ap to (sym (append_assoc (gs ++ os) ns (notes es)) ∙ ap (λ (us : List Event). us ++ notes es) (append_assoc gs os ns))
      ∙ recorded-append room (gs ++ (os ++ ns)) (notes es) s ∙ ap (recorded room (notes es)) (h room s)
      ∙ sym (recorded-append room (fs ++ os) (notes es) s) ∙ sym (left_out room es fs os s v) ∙ ap to (sym (append_assoc es fs os))

  -- nothing more from a placeholder as a name on
  agree_if : (placeholder : Bool) (b d : Attempt) (ns : List Event) → Agree os b d ns
      → Agree os (cond placeholder (matched []) b) (cond placeholder (matched []) d) (cond placeholder [] ns)
  agree_if true b d ns h = agree-done
  agree_if false b d ns h = h

  -- an attempt matches, and all that it binds is bound again
  record Covered (a : Attempt) : Type 0 where
    events : List Event
    matches : a ≡ matched events
    covers : Covers os events

  -- one of the pattern's siblings
  agree-field : (named free same : Bool) (a b d : Attempt) (ns : List Event) → ((named && same) ≡ true → Covered a) → Agree os b d ns
      → Agree os (and_then (cond named (and_then (given free) (cond (true && (named && same)) (matched []) a)) (matched [])) b)
      (and_then (cond named (and_then (given free) (cond (false && (named && same)) (matched []) a)) (matched [])) d) (cond (named && same) (notes_of a)
      [] ++ ns)
  unfolding and_then
  agree-field false free same a b d ns f h = agree_then (matched []) b d ns h
  agree-field true false same a b d ns f h = tt
  agree-field true true false a b d ns f h = agree_then (and_then (matched []) a) b d ns h
  agree-field true true true a b d ns f h =
      let v = f refl in
      rw (v.matches, then_nothing b) (agree_left v.events b d ns v.covers h)

module _ (f : Elems → Elems → Attempt) (x : Matcher) (ps cs : Elems) (os : List Event) (unique : Unique cs) where
  -- the code's field by name is the one that stands beside it
  is_next : (q d : Elems) → Tail cs d → is_same (partner x cs q) (next d) ≡ true → partner x cs q ≡ next d
  is_next q d t h =
      let p = and_both (some (partner x cs q) && some (next d)) (eqb (number_of (partner x cs q)) (number_of (next d))) h in
      let m = and_both (some (partner x cs q)) (some (next d)) p.0 in
      unique (partner x cs q) (next d) (last_tail cs x _ _ cs whole m.0) (skip_tail cs 1 1023 d t) m.0 m.1
      (eqb-true (number_of (partner x cs q)) (number_of (next d)) p.1)

  abbrev Beside : Elems → Elems → Type 0
  Beside q e = Covered os (f q e)

  agree_fields : (q d : Elems) → Tail cs d → AllBeside Beside q d → Agree os (by_name true f x ps cs q d) (by_name false f x ps cs q d) (again f x cs q
      d)
  unfolding AllBeside by_name again
  agree_fields none d t h = agree-done os
  agree_fields (token i k s e r) d t h =
      let q = token i k s e r in
      agree_then os (matched []) (by_name true f x ps cs r (past q d)) (by_name false f x ps cs r (past q d)) (again f x cs r (past q d)) (agree_fields
      r (past q d) (past_tail cs q d t) h)
  agree_fields (node i k s e ds r) d t h =
      let q = node i k s e ds r in
      let b = by_name true f x ps cs r (past q d) in let c = by_name false f x ps cs r (past q d) in let ns = again f x cs r (past q d) in
      agree_if os (has_placeholder_name x q) _ _ _
      (agree-field os (some (pattern_name q)) (is_free x ps q) (is_same (partner x cs q) (next d)) (f q (partner x cs q)) b c ns
      (λ g. rw (is_next q d t (and_both (some (pattern_name q)) (is_same (partner x cs q) (next d)) g).1) h.0)
      (agree_fields r (past q d) (past_tail cs q d t) h.1))

-- ---- what is right with pairs left out is right with all

gives_agreed : (b d o : Attempt) (ns : List Event) (s : State) (out : List ℕ) (r : Option State) (end : List ℕ) → is_silent s out ≡ true
    → ((os : List Event) → o ≡ matched os → Agree os b d ns) → Gives (and_then b (and_then o (matched ns))) s out r end → Gives (and_then d o) s out r
    end
unfolding and_then
gives_agreed failed failed failed ns s out r end h f g = g
gives_agreed failed (matched fs) failed ns s out r end h f g = g
gives_agreed (matched gs) failed failed ns s out r end h f g = g
gives_agreed (matched gs) (matched fs) failed ns s out r end h f g = g
gives_agreed failed failed (matched os) ns s out r end h f g = g
gives_agreed failed (matched fs) (matched os) ns s out r end h f g = absurd (f os refl)
gives_agreed (matched gs) failed (matched os) ns s out r end h f g = absurd (f os refl)
gives_agreed (matched gs) (matched fs) (matched os) ns s out r end h f g = record {
  answer = g.answer ∙ ap (λ (t : State). Some t) (f os refl (length out) s);
  buffer = g.buffer ∙ laid_silent (gs ++ (os ++ ns)) s out h ∙ sym (laid_silent (fs ++ os) s out h);
}

-- two that match within a lower bound
opt_below : ((m n : ℕ) → m ≤ n → (x : Matcher) (p c : Elems) (es : List Event) → match_node m x p c ≡ matched es → match_node n x p c ≡ matched es)
    → (n m : ℕ) (x : Matcher) (q e : Elems) (es : List Event) → m < n → some q ≡ true → some e ≡ true → match_node m x q e ≡ matched es → match_opt n x
    q e ≡ matched es
opt_below more zero m x q e es l h k r = absurd (not-suc-le-zero l)
opt_below more (suc n) m x q e es l h k r = opt_both x q e n h k ∙ more m n (le_of_suc-le-suc l) x q e es r

-- THE SAME WITH PAIRS LEFT OUT, where a higher bound changes nothing of a match
module _ (more : (m n : ℕ) → m ≤ n → (x : Matcher) (p c : Elems) (es : List Event) → match_node m x p c ≡ matched es → match_node n x p c ≡ matched es)
  where
    pub start-over : (n : ℕ) (x : Matcher) (ps cs : Elems) (s : State) (out : List ℕ) (r : Option State) (end : List ℕ) → is_silent s out ≡ true → starts_over
        x ps ≡ true → Unique cs
        → Gives (and_then (by_name true (λ q e. match_opt n x q e) x ps cs ps cs) (and_then (match_sequences n x ps cs) (matched (again (λ q e. match_opt n x
        q e) x cs ps cs)))) s out r end
        → Gives (match_fields (λ q e. match_opt n x q e) (match_sequences n x ps cs) x ps cs ps) s out r end
    start-over n x ps cs s out r end silent over unique g =
        same_gives (fields_over match (match_sequences n x ps cs) x ps cs ps cs over)
        (gives_agreed (by_name true match x ps cs ps cs) (by_name false match x ps cs ps cs) (match_sequences n x ps cs) (again match x cs ps cs) s out r
        end silent agreed g)
      where
        match : Elems → Elems → Attempt
        match q e = match_opt n x q e

        agreed : (os : List Event) → match_sequences n x ps cs ≡ matched os → Agree os (by_name true match x ps cs ps cs) (by_name false match x ps cs ps
            cs) (again match x cs ps cs)
        agreed os h = agree_fields match x ps cs os unique ps cs whole
            (along x (λ q e. Covered os (match q e)) n ps cs os h (λ m q e es l a b k v. record {
              events = es;
              matches = opt_below more n m x q e es l
                  a b k;
              covers = v;
            }))

    -- for siblings that words are
    pub start-over-words : (n : ℕ) (x : Matcher) (ps : Elems) (i : ℕ) (l : List ℕ) (s : State) (out : List ℕ) (r : Option State) (end : List ℕ) → is_silent s
        out ≡ true → starts_over x ps ≡ true
        → Gives (and_then (by_name true (λ q e. match_opt n x q e) x ps (elems i l) ps (elems i l))
        (and_then (match_sequences n x ps (elems i l)) (matched (again (λ q e. match_opt n x q e) x (elems i l) ps (elems i l))))) s out r end
        → Gives (match_fields (λ q e. match_opt n x q e) (match_sequences n x ps (elems i l)) x ps (elems i l) ps) s out r end
    start-over-words n x ps i l s out r end silent over g = start-over n x ps (elems i l) s out r end silent over (elems_unique i l) g
