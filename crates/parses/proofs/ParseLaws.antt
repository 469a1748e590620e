-- Parses in a list of words, from the front.
-- Assumes nothing.
use Rattle.std.proofs.Common.{◌≡◌, refl, sym, ap, ◌∙◌, ℕ, zero, suc, ◌+◌, ◌*◌, ◌<◌, ◌≤◌, arith, true, false, ◌&&◌, List, [], ◌∷◌, length, drop, map, Some}
use Rattle.words.specs.Fields.{parse_count}
use Rattle.parses.specs.Ranges.{ranges_of}
use Rattle.parses.specs.Parses.{parse_words, range_words, parse_at, parts_from, parses_of, is_parse, is_parse_list, is_of, lookup}
use Rattle.words.proofs.TestLaws.{and_both}

-- words that are skipped are dropped
skipped : (k : ℕ) (l : List ℕ) → parts_from k l ≡ parts_from 0 (drop k l)
unfolding parts_from
skipped zero l = refl
skipped (suc k) [] = refl
skipped (suc k) (w ∷ l) = skipped k l

-- the first part, and those behind it
pub parts_cons : (l : List ℕ) → 0 < length l → parts_from 0 l ≡ l ∷ parts_from 0 (drop (parse_words l) l)
unfolding parts_from
parts_cons [] h = absurd (omega arith)
parts_cons (w ∷ l) h =
    let e : parse_words (w ∷ l) ≡ suc (2 + 2 * parse_count (w ∷ l)) = omega arith in
    rw e (ap (λ (ps : List (List ℕ)). (w ∷ l) ∷ ps) (skipped (2 + 2 * parse_count (w ∷ l)) l))

pub parts_none : (l : List ℕ) → length l ≤ 0 → parts_from 0 l ≡ []
unfolding parts_from
parts_none [] h = refl
parts_none (w ∷ l) h = absurd (omega arith)

module _ (l text : List ℕ) where
  pub parses_cons : 0 < length l → parses_of l text ≡ parse_at text l ∷ parses_of (drop (parse_words l) l) text
  parses_cons h = rw (parts_cons l h)

  pub parses_none : length l ≤ 0 → parses_of l text ≡ []
  parses_none h = rw (parts_none l h)

module _ (n : ℕ) (l : List ℕ) where
  list_step : 0 < length l → is_parse_list n l ≡ (is_parse n l && is_parse_list n (drop (parse_words l) l))
  list_step h = rw (parts_cons l h)

  -- what is behind a first parse is parses too
  pub list_behind : 0 < length l → is_parse_list n l ≡ true → is_parse_list n (drop (parse_words l) l) ≡ true
  list_behind h w = (and_both (is_parse n l) (is_parse_list n (drop (parse_words l) l)) (sym (list_step h) ∙ w)).1

-- the look-up goes from part to part
module _ (text : List ℕ) (kind : ℕ) (t : List ℕ) (c : List ℕ) (cs : List (List ℕ)) where
  pub lookup_here : is_of kind t (parse_at text c) ≡ true → lookup (map (parse_at text) (c ∷ cs)) kind t ≡ Some (ranges_of (range_words c))
  lookup_here h = rw h

  pub lookup_past : is_of kind t (parse_at text c) ≡ false → lookup (map (parse_at text) (c ∷ cs)) kind t ≡ lookup (map (parse_at text) cs) kind t
  lookup_past h = rw h
