-- Parses, document 01, "Words": "Parse: a kind 8 word (12 bits template root kind, 16 bits count of node ranges, 0 for does not parse), the
-- text's start and end (kinds 3 and 4) in the parse text, then each node range (kinds 3 and 4) .. inside the text's length."
-- Assumes nothing.
use Rattle.std.specs.Prelude.{ℕ, zero, suc, ◌+◌, ◌-◌, ◌*◌, Bool, false, not, ◌&&◌, ◌||◌, List, [], ◌∷◌, map, eqb, leb, length, take, drop, Option, option_map, is_some}
use Rattle.std.specs.List.{find, list_all}
use Rattle.words.specs.Fields.{kind_at, start_of, end_of, parse_kind, parse_count}
use Rattle.words.specs.Texts.{part, same_text}
use Rattle.errors.specs.Refusals.{Outcome}
use Rattle.errors.specs.declared.Refusal.TheVariants.{MalformedParses}
use Rattle.errors.specs.Refusals.{first_of}
use Rattle.parses.specs.Ranges.{NodeRange, ranges_of, is_range, are_ranges}

pub record Parse : Type 0 where
  pub kind : ℕ
  pub text : List ℕ
  pub ranges : List NodeRange

-- how many words the parse that a part begins with has, and those of its node ranges
abbrev pub parse_words : List ℕ → ℕ
parse_words c = 3 + 2 * parse_count c

abbrev pub range_words : List ℕ → List ℕ
range_words c = take (2 * parse_count c) (drop 3 c)

-- the parse that a part begins with, over a parse text
abbrev pub parse_at : List ℕ → List ℕ → Parse
parse_at text c = record { kind = parse_kind c; text = part text (start_of c) (end_of c); ranges = ranges_of (range_words c) }

-- the parts of a list of words that begin at each parse; the first words, as many as are skipped, belong to the parse before
unfoldable pub parts_from : ℕ → List ℕ → List (List ℕ)
parts_from skipped [] = []
parts_from zero (w ∷ l) = (w ∷ l) ∷ parts_from (2 + 2 * parse_count (w ∷ l)) l
parts_from (suc skipped) (w ∷ l) = parts_from skipped l

-- the parses of a list of words, over a parse text
abbrev pub parses_of : List ℕ → List ℕ → List Parse
parses_of l text = map (parse_at text) (parts_from 0 l)

-- every word is there; "a kind 8 word" with a node's kind; "the text's start and end .. in the parse text", one of n bytes;
-- and the node ranges "inside the text's length"
abbrev pub is_parse : ℕ → List ℕ → Bool
is_parse n c =
    leb (parse_words c) (length c) && eqb (kind_at c 0) 8 && not (eqb (parse_kind c) 0) && is_range n (drop 1 c)
    && are_ranges (end_of c - start_of c) (range_words c)

-- a list of words is well-formed parses over a parse text of n bytes
abbrev pub is_parse_list : ℕ → List ℕ → Bool
is_parse_list n l = list_all (is_parse n) (parts_from 0 l)

-- a parse of a kind and a text
abbrev pub is_of : ℕ → List ℕ → Parse → Bool
is_of kind t p = eqb p.kind kind && same_text p.text t

-- what is known of a rendering: "a first rendering .. has no parse", or the node ranges of its first parse
abbrev pub lookup : List Parse → ℕ → List ℕ → Option (List NodeRange)
lookup ps kind t = option_map (λ p. p.ranges) (find (is_of kind t) ps)

-- "kind and text repeated": a later parse has both
unfoldable pub is_repeated : List Parse → Bool
is_repeated [] = false
is_repeated (p ∷ ps) = is_some (lookup ps p.kind p.text) || is_repeated ps

-- "28 parses malformed or kind and text repeated"
abbrev pub parses_outcome : List ℕ → List ℕ → Outcome
parses_outcome l text =
    first_of (record { fails = not (is_parse_list (length text) l) || is_repeated (parses_of l text); refusal = MalformedParses } ∷ [])
