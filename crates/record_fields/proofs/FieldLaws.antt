-- Laws of record fields by name: each definition over siblings at its first one, at the rest, and where there is none.
-- Assumes nothing.
use mathlib.Core.Path.{◌≡◌, refl, sym, ap, ◌∙◌}
use mathlib.Core.Bool.{true, false, cond, ◌&&◌, ◌||◌, false≢true}
use mathlib.Core.List.{List}
use Prim.Native.Nat.{ℕ, ◌≤◌, ◌<◌}
use lib.Dec.{ltb}
use borrow.Author.Tests.{lt-ltb, le-ltb}
use Rattle.syntax.specs.Trees.{Elems, none, token, node}
use Rattle.syntax.specs.Accessors.{rest, number_of, text_of, some, node_in, or_else}
use Rattle.syntax.specs.Siblings.{kind_of}
use Rattle.syntax.specs.Views.{elems_of}
use Rattle.syntax.specs.declared.parts.Part.{Part}
use Rattle.syntax.proofs.AccessorLaws.{no_sibling}
use Rattle.matcher.specs.Matcher.{Matcher}
use Rattle.matcher.proofs.PlaceholderLaws.{number_of_part}
use Rattle.record_fields.specs.Fields.{pattern_name, has_name, is_named, is_taken, is_free, is_field, last_field, is_asked, are_asked}

-- a field, and an element that has a name, are elements, of their part's number
node_some : (low high : ℕ) (c : Elems) → node_in low high c ≡ true → some c ≡ true
node_some low high none h = absurd (false≢true h)
node_some low high (token i k s e r) h = refl
node_some low high (node i k s e cs r) h = refl

pub field_number : (c : Part) → node_in 9 9 (elems_of c) ≡ true → number_of (elems_of c) ≡ c.number
field_number c h = number_of_part c (node_some 9 9 (elems_of c) h)

name_some : (c : Elems) → some (pattern_name c) ≡ true → some c ≡ true
name_some none h = absurd (false≢true h)
name_some (token i k s e r) h = refl
name_some (node i k s e cs r) h = refl

name_number : (q : Part) → some (pattern_name (elems_of q)) ≡ true → number_of (elems_of q) ≡ q.number
name_number q h = number_of_part q (name_some (elems_of q) h)

-- ---- one of the pattern's siblings has a name

module _ (x : Matcher) (k : ℕ) (t : List ℕ) where
  named_first : (c : Elems) → is_named x k t c ≡ (has_name x k t c || is_named x k t (rest c))
  unfolding is_named
  named_first none = refl
  named_first (token i k' s e r) = refl
  named_first (node i k' s e cs r) = refl

  pub named_here : (c : Elems) → has_name x k t c ≡ true → is_named x k t c ≡ true
  named_here c h = rw (named_first c, h)

  pub named_rest : (c : Elems) → has_name x k t c ≡ false → is_named x k t c ≡ is_named x k t (rest c)
  named_rest c h = rw (named_first c, h)

  pub named_gone : (c : Elems) → some c ≡ false → is_named x k t c ≡ false
  unfolding is_named
  named_gone c h = rw (no_sibling c h)

  -- and one of those before the element of a number has
  taken_first : (n : ℕ) (c : Elems) → some c ≡ true → is_taken x n k t c ≡ (ltb (number_of c) n && (has_name x k t c || is_taken x n k t (rest c)))
  unfolding is_taken
  taken_first n none h = absurd (false≢true h)
  taken_first n (token i k' s e r) h = refl
  taken_first n (node i k' s e cs r) h = refl

  taken_at : (n : ℕ) (p : Part) → some (elems_of p) ≡ true
      → is_taken x n k t (elems_of p) ≡ (ltb p.number n && (has_name x k t (elems_of p) || is_taken x n k t (rest (elems_of p))))
  taken_at n p s =
      taken_first n (elems_of p) s
      ∙ ap (λ (i : ℕ). ltb i n && (has_name x k t (elems_of p) || is_taken x n k t (rest (elems_of p)))) (number_of_part p s)

  pub taken_here : (n : ℕ) (p : Part) → some (elems_of p) ≡ true → p.number < n → has_name x k t (elems_of p) ≡ true → is_taken x n k t (elems_of p) ≡ true
  taken_here n p s l h = taken_at n p s ∙ rw (lt-ltb p.number n l, h)

  pub taken_rest : (n : ℕ) (p : Part) → some (elems_of p) ≡ true → p.number < n → has_name x k t (elems_of p) ≡ false
      → is_taken x n k t (elems_of p) ≡ is_taken x n k t (rest (elems_of p))
  taken_rest n p s l h = taken_at n p s ∙ rw (lt-ltb p.number n l, h)

  pub taken_past : (n : ℕ) (p : Part) → some (elems_of p) ≡ true → n ≤ p.number → is_taken x n k t (elems_of p) ≡ false
  taken_past n p s l = taken_at n p s ∙ rw (le-ltb p.number n l)

  pub taken_gone : (n : ℕ) (c : Elems) → some c ≡ false → is_taken x n k t c ≡ false
  unfolding is_taken
  taken_gone n c h = rw (no_sibling c h)

-- so that its own name is free
module _ (x : Matcher) (ps : Elems) (q : Part) (k : ℕ) (t : List ℕ) (s : some (pattern_name (elems_of q)) ≡ true)
    (e : k ≡ kind_of (pattern_name (elems_of q))) (f : t ≡ text_of x.code (pattern_name (elems_of q))) where
  pub taken_not_free : is_taken x q.number k t ps ≡ true → is_free x ps (elems_of q) ≡ false
  taken_not_free h = rw (name_number q s, ← e, ← f, h)

  pub free_not_taken : is_taken x q.number k t ps ≡ false → is_free x ps (elems_of q) ≡ true
  free_not_taken h = rw (name_number q s, ← e, ← f, h)

-- ---- the last field of a name

or_end : (c : Elems) → or_else c none ≡ c
unfolding or_else
or_end none = refl
or_end (token i k s e r) = refl
or_end (node i k s e cs r) = refl

or_or : (a b c : Elems) → or_else (or_else a b) c ≡ or_else a (or_else b c)
unfolding or_else
or_or none b c = refl
or_or (token i k s e r) b c = refl
or_or (node i k s e cs r) b c = refl

or_some : (a b : Elems) → some a ≡ true → or_else a b ≡ a
unfolding or_else
or_some none b h = absurd (false≢true h)
or_some (token i k s e r) b h = refl
or_some (node i k s e cs r) b h = refl

or_none : (b : Elems) → or_else none b ≡ b
unfolding or_else
or_none b = refl

module _ (x : Matcher) (k : ℕ) (t : List ℕ) where
  last_first : (c : Elems) → last_field x k t c ≡ or_else (last_field x k t (rest c)) (cond (is_field x k t c) c none)
  unfolding last_field or_else
  last_first none = refl
  last_first (token i k' s e r) = sym (or_end (last_field x k t r))
  last_first (node i k' s e cs r) = refl

  -- with what was found before: from the start, where the first of what is left is such a field, where it is not, where nothing is left
  pub last_start : (c found : Elems) → found ≡ none → or_else (last_field x k t c) found ≡ last_field x k t c
  last_start c found e = rw e (or_end (last_field x k t c))

  pub last_here : (c found : Elems) → some c ≡ true → is_field x k t c ≡ true → or_else (last_field x k t c) found ≡ or_else (last_field x k t (rest c)) c
  last_here c found s h =
      ap (λ (y : Elems). or_else y found) (last_first c) ∙ or_or (last_field x k t (rest c)) (cond (is_field x k t c) c none) found
      ∙ rw (h, or_some c found s)

  pub last_rest : (c found : Elems) → is_field x k t c ≡ false → or_else (last_field x k t c) found ≡ or_else (last_field x k t (rest c)) found
  last_rest c found h =
      ap (λ (y : Elems). or_else y found) (last_first c) ∙ or_or (last_field x k t (rest c)) (cond (is_field x k t c) c none) found
      ∙ rw (h, or_none found)

  pub last_gone : (c found : Elems) → some c ≡ false → or_else (last_field x k t c) found ≡ found
  unfolding last_field or_else
  last_gone c found h = rw (no_sibling c h)

-- ---- every field that has a name is named

module _ (x : Matcher) (ps : Elems) where
  asked_first : (c : Elems) → are_asked x ps c ≡ (is_asked x ps c && are_asked x ps (rest c))
  unfolding are_asked
  asked_first none = refl
  asked_first (token i k s e r) = refl
  asked_first (node i k s e cs r) = refl

  pub asked_rest : (c : Elems) → is_asked x ps c ≡ true → are_asked x ps c ≡ are_asked x ps (rest c)
  asked_rest c h = rw (asked_first c, h)

  pub asked_not : (c : Elems) → is_asked x ps c ≡ false → are_asked x ps c ≡ false
  asked_not c h = rw (asked_first c, h)

  pub asked_gone : (c : Elems) → some c ≡ false → are_asked x ps c ≡ true
  unfolding are_asked
  asked_gone c h = rw (no_sibling c h)
