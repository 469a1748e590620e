-- Closed examples of parses, by computation.
-- Assumes nothing.
use mathlib.Core.Path.{◌≡◌, refl}
use mathlib.Core.List.{List, [], ◌∷◌, map}
use Prim.Native.Nat.{ℕ}
use Rattle.errors.specs.Refusals.{Outcome, ok, err}
use Rattle.errors.specs.declared.Refusal.TheVariants.{MalformedParses}
use Rattle.errors.specs.Refusals.{first_of}
use Rattle.words.specs.Texts.{part}
use Rattle.parses.specs.Ranges.{ranges_of, are_ranges}
use Rattle.parses.specs.Parses.{parts_from, is_repeated, parses_outcome}

record Example : Type 0 where
  words : List ℕ
  text : List ℕ
  outcome : Outcome

abbrev example : List ℕ → List ℕ → Outcome → Example
example words text outcome = record { words = words; text = text; outcome = outcome }

abbrev malformed : Outcome
malformed = err MalformedParses

abbrev examples : List Example
examples =
    example [] [] ok  -- none
    ∷ example (0x80400000 ∷ 0x30000000 ∷ 0x40000001 ∷ []) (120 ∷ []) ok  -- does not parse
    ∷ example (0x80400001 ∷ 0x30000000 ∷ 0x40000001 ∷ 0x30000000 ∷ 0x40000001 ∷ []) (120 ∷ []) ok  -- one range
    ∷ example (0x80400001 ∷ 0x30000000 ∷ 0x40000001 ∷ 0x30000000 ∷ 0x40000002 ∷ []) (120 ∷ 121 ∷ []) malformed  -- range past the text
    ∷ example (0x80400000 ∷ 0x30000000 ∷ 0x40000002 ∷ []) (120 ∷ []) malformed  -- text past the parse text
    ∷ example (0x80400000 ∷ 0x30000001 ∷ 0x40000000 ∷ []) (120 ∷ []) malformed  -- text start after end
    ∷ example (0x80400001 ∷ 0x30000000 ∷ 0x40000001 ∷ 0x30000001 ∷ 0x40000000 ∷ []) (120 ∷ []) malformed  -- range start after end
    ∷ example (0x80400001 ∷ 0x30000000 ∷ 0x40000001 ∷ []) (120 ∷ []) malformed  -- range missing
    ∷ example (0x80400001 ∷ 0x30000000 ∷ 0x40000001 ∷ 0x30000000 ∷ []) (120 ∷ []) malformed  -- half range
    ∷ example (0x80000000 ∷ 0x30000000 ∷ 0x40000001 ∷ []) (120 ∷ []) malformed  -- kind 0
    ∷ example (0x80070000 ∷ 0x30000000 ∷ 0x40000001 ∷ []) (120 ∷ []) ok  -- kind 7, never asked
    ∷ example (0x80400000 ∷ 0x30000000 ∷ 0x40000001 ∷ 0x80400001 ∷ 0x30000001 ∷ 0x40000002 ∷ 0x30000000 ∷ 0x40000001 ∷ []) (120 ∷ 120 ∷ []) malformed  -- repeated, other place
    ∷ example (0x80400000 ∷ 0x30000000 ∷ 0x40000001 ∷ 0x80410000 ∷ 0x30000000 ∷ 0x40000001 ∷ []) (120 ∷ []) ok  -- same text, other kind
    ∷ example (0x80400002 ∷ 0x30000000 ∷ 0x40000001 ∷ 0x30000000 ∷ 0x40000001 ∷ 0x30000000 ∷ 0x40000001 ∷ []) (120 ∷ []) ok  -- same range twice inside
    ∷ example (0x80400000 ∷ 0x30000000 ∷ 0x40000000 ∷ 0x80400000 ∷ 0x30000001 ∷ 0x40000001 ∷ []) (120 ∷ []) malformed  -- empty text twice
    ∷ example (0x90400000 ∷ 0x30000000 ∷ 0x40000001 ∷ []) (120 ∷ []) malformed  -- word of kind 9
    ∷ []

-- every list of words is accepted or refused as the table says
answered : map (λ (e : Example). parses_outcome e.words e.text) examples ≡ map (λ (e : Example). e.outcome) examples
unfolding first_of part ranges_of are_ranges parts_from is_repeated
answered = refl
