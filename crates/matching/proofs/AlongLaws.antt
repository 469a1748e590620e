-- Going along the siblings of pattern and code by order: tokens are passed, and what is left by name, or owed of comments, stays as it is.
-- Assumes nothing.
use mathlib.Core.Path.{◌≡◌, refl, sym, ap, ◌∙◌}
use mathlib.Core.Bool.{Bool, true, false, cond, ◌&&◌, true≢false, false≢true}
use mathlib.Core.List.{List, [], ◌++◌}
use Prim.Native.Nat.{ℕ}
use Rattle.words.proofs.TestLaws.{never, and_both}
use Rattle.syntax.specs.Trees.{Elems, none, token, node}
use Rattle.syntax.specs.Accessors.{rest, some, between}
use Rattle.syntax.specs.Siblings.{is_a_node, is_a_token, is_trivia, skip_tokens, skip_trivia, kind_of}
use Rattle.syntax.proofs.SiblingLaws.{skip_here, skip_next, trivia_is_token}
use Rattle.captures.specs.Attempts.{Attempt, matched, and_then, notes_of}
use Rattle.captures.proofs.AttemptLaws.{then_nothing}
use Rattle.matcher.specs.Matcher.{Matcher, has_placeholder_name}
use Rattle.matcher.specs.declared.token_matching.Skip.{Skip}
use Rattle.matcher.specs.Tokens.{is_extra, past_separator, is_same_token, matches_token, after_token, skips}
use Rattle.matcher.proofs.TokenLaws.{same_token_is}
use Rattle.record_fields.specs.Fields.{pattern_name}
use Rattle.record_fields.specs.Order.{next, past, partner, is_same}
use Rattle.matching.specs.StartingOver.{field_by_name, by_name, notes_beside, again}

-- ---- the next one that is no token

pub next_past : (q : Elems) → is_a_token q ≡ true → next (rest q) ≡ next q
next_past q h = sym (skip_next 1 1023 q h)

pub next_here : (q : Elems) → is_a_token q ≡ false → next q ≡ q
next_here q h = skip_here 1 1023 q h

pub next_trivia : (q : Elems) → next (skip_trivia q) ≡ next q
unfolding skip_tokens
next_trivia none = refl
next_trivia (token i k s e r) = by (between 2 3 k) refl (next_trivia r)
  where
    by : (b : Bool) → between 2 3 k ≡ b → next (skip_trivia r) ≡ next r → next (cond b (skip_trivia r) (token i k s e r)) ≡ next (token i k s e r)
    by true h f = f ∙ next_past (token i k s e r) (trivia_is_token (token i k s e r) h)
    by false h f = refl
next_trivia (node i k s e ds r) = refl

past_separator_lem : (sheet : List Skip) (p c : Elems) (b : Bool) → (is_a_token p && skips sheet (kind_of p) (kind_of c)) ≡ b → next (past_separator sheet p c) ≡
    next p
past_separator_lem sheet p c true h = rw (h) (next_trivia (rest p) ∙ next_past p (and_both (is_a_token p) (skips sheet (kind_of p) (kind_of c)) h).0)
past_separator_lem sheet p c false h = rw (h)

pub next-after : (sheet : List Skip) (code text : List ℕ) (p c : Elems) → matches_token sheet code text p c ≡ true → next (after_token sheet p c) ≡ next p
next-after sheet code text p c h = by (is_extra sheet p c) refl
  where
    by : (b : Bool) → is_extra sheet p c ≡ b → next (after_token sheet p c) ≡ next p
    by true e = rw (e)
    by false e =
        let same : is_same_token code text (past_separator sheet p c) c ≡ true = rw (e) at h in
        rw (e) (next_past (past_separator sheet p c) (same_token_is code text (past_separator sheet p c) c same) ∙ past_separator_lem sheet p c (is_a_token p
        && skips sheet (kind_of p) (kind_of c)) refl)

pub no_trivia : (c : Elems) → is_a_token c ≡ false → is_trivia c ≡ false
no_trivia c h = never (is_trivia c) (λ e. true≢false (sym (trivia_is_token c e) ∙ h))

-- ---- comments that are owed

module _ (f : Elems → Elems → Attempt) (x : Matcher) (cs : Elems) where
  -- tokens of the pattern change nothing
  pub again-next : (q d : Elems) → again f x cs (next q) d ≡ again f x cs q d
  unfolding again skip_tokens
  again-next none d = refl
  again-next (token i k s e r) d = by (between 1 1023 k) refl (again-next r d)
    where
      by : (b : Bool) → between 1 1023 k ≡ b → again f x cs (next r) d ≡ again f x cs r d
          → again f x cs (cond b (next r) (token i k s e r)) d ≡ again f x cs r (cond (between 1 1023 k) d (rest (next d)))
      by true h g = rw (h) g
      by false h g = refl
  again-next (node i k s e ds r) d = refl

  -- nor do tokens of the code
  pub again_cursor : (q d d' : Elems) → next d ≡ next d' → again f x cs q d ≡ again f x cs q d'
  unfolding again
  again_cursor none d d' h = refl
  again_cursor (token i k s e r) d d' h = by (between 1 1023 k) (λ u v. again_cursor r u v)
    where
      by : (b : Bool) → ((u v : Elems) → next u ≡ next v → again f x cs r u ≡ again f x cs r v)
          → again f x cs r (cond b d (rest (next d))) ≡ again f x cs r (cond b d' (rest (next d')))
      by true g = g d d' h
      by false g = ap (λ (u : Elems). again f x cs r (rest u)) h
  again_cursor (node i k s e ds r) d d' h =
      let q = node i k s e ds r in
      ap (λ (u : Elems). cond (has_placeholder_name x q) [] (cond (some (pattern_name q) && is_same (partner x cs q) u) (notes_of (f q (partner x cs q)))
      [] ++ again f x cs r (rest u))) h

  -- a node of the pattern
  pub again_stops : (y d : Elems) → has_placeholder_name x y ≡ true → again f x cs y d ≡ []
  unfolding again
  again_stops none d h = refl
  again_stops (token i k s e r) d h = absurd (false≢true h)
  again_stops (node i k s e ds r) d h = rw (h)

  pub again_node : (y d : Elems) → is_a_node y ≡ true → has_placeholder_name x y ≡ false → again f x cs y d ≡ notes_beside f x cs y d ++ again f x cs (rest
      y) (rest (next d))
  unfolding again
  again_node none d n h = absurd (false≢true n)
  again_node (token i k s e r) d n h = absurd (false≢true n)
  again_node (node i k s e ds r) d n h = rw (h)

-- ---- what is left by name

module _ (f : Elems → Elems → Attempt) (x : Matcher) (ps cs : Elems) where
  -- where nothing is left out, the code's siblings by order do not matter
  pub by_any : (q d : Elems) → by_name false f x ps cs q d ≡ by_name false f x ps cs q none
  unfolding by_name
  by_any none d = refl
  by_any (token i k s e r) d = rw (by_any r (past (token i k s e r) d), by_any r (past (token i k s e r) none))
  by_any (node i k s e ds r) d = rw (by_any r (rest (next d)), by_any r (rest (next none)))

  pub by_next : (q : Elems) → by_name false f x ps cs (next q) none ≡ by_name false f x ps cs q none
  unfolding by_name skip_tokens
  by_next none = refl
  by_next (token i k s e r) = by (between 1 1023 k) refl (by_next r)
    where
      by : (b : Bool) → between 1 1023 k ≡ b → by_name false f x ps cs (next r) none ≡ by_name false f x ps cs r none
          → by_name false f x ps cs (cond b (next r) (token i k s e r)) none ≡ and_then (matched []) (by_name false f x ps cs r (cond (between 1 1023 k)
          none (rest none)))
      by true h g = rw (h) (g ∙ sym (then_nothing (by_name false f x ps cs r none)))
      by false h g = refl
  by_next (node i k s e ds r) = refl

  pub by_node : (y : Elems) → is_a_node y ≡ true → has_placeholder_name x y ≡ false
      → by_name false f x ps cs y none ≡ and_then (field_by_name false f x ps cs y none) (by_name false f x ps cs (rest y) none)
  unfolding by_name
  by_node none n h = absurd (false≢true n)
  by_node (token i k s e r) n h = absurd (false≢true n)
  by_node (node i k s e ds r) n h = rw (h, by_any r (rest (next none)))
