-- Closed examples of parentheses, by computation.
-- Assumes nothing.
use Rattle.std.proofs.Common.{◌≡◌, refl, ℕ, true, false, List, [], ◌∷◌, map}
use Rattle.parses.specs.Ranges.{ranges_of}
use Rattle.parentheses.specs.Parentheses.{Part, has_range, requires, wrapped}

record Example : Type 0 where
  ranges : List ℕ
  parts : List Part
  first : List ℕ
  second : List ℕ

-- a fixed text's part, and a placeholder's
abbrev fixed : ℕ → Part
fixed n = record { length = n; is_placeholder = false }

abbrev hole : ℕ → Part
hole n = record { length = n; is_placeholder = true }

abbrev example : List ℕ → List Part → List ℕ → List ℕ → Example
example ranges parts first second = record { ranges = ranges; parts = parts; first = first; second = second }

abbrev examples : List Example
examples =
    -- K of document 01: the parse of `x + y.bar()` has no node of the range of `x + y`
    example (0x30000000 ∷ 0x4000000b ∷ 0x30000000 ∷ 0x40000001 ∷ 0x30000004 ∷ 0x4000000b ∷ 0x30000004 ∷ 0x40000005 ∷ 0x30000006 ∷ 0x40000009 ∷ 0x30000009 ∷ 0x4000000b ∷ []) (hole 5 ∷ fixed 1 ∷ fixed 3 ∷ fixed 1 ∷ fixed 1 ∷ [])
    (120 ∷ 32 ∷ 43 ∷ 32 ∷ 121 ∷ 46 ∷ 98 ∷ 97 ∷ 114 ∷ 40 ∷ 41 ∷ [])
    (40 ∷ 120 ∷ 32 ∷ 43 ∷ 32 ∷ 121 ∷ 41 ∷ 46 ∷ 98 ∷ 97 ∷ 114 ∷ 40 ∷ 41 ∷ [])
    -- I: both placeholders are nodes
    ∷ example (0x30000000 ∷ 0x40000007 ∷ 0x30000000 ∷ 0x40000001 ∷ 0x30000001 ∷ 0x40000007 ∷ 0x30000002 ∷ 0x40000003 ∷ 0x30000005 ∷ 0x40000006 ∷ []) (fixed 1 ∷ fixed 1 ∷ hole 1 ∷ fixed 1 ∷ fixed 1 ∷ hole 1 ∷ fixed 1 ∷ [])
    (103 ∷ 40 ∷ 98 ∷ 44 ∷ 32 ∷ 97 ∷ 41 ∷ [])
    (103 ∷ 40 ∷ 98 ∷ 44 ∷ 32 ∷ 97 ∷ 41 ∷ [])
    -- M: a range covers prefix and text
    ∷ example (0x30000000 ∷ 0x4000000a ∷ 0x30000000 ∷ 0x40000001 ∷ 0x30000001 ∷ 0x4000000a ∷ 0x30000002 ∷ 0x40000009 ∷ 0x30000003 ∷ 0x40000009 ∷ []) (fixed 1 ∷ fixed 1 ∷ hole 7 ∷ fixed 1 ∷ [])
    (104 ∷ 40 ∷ 38 ∷ 110 ∷ 101 ∷ 119 ∷ 50 ∷ 40 ∷ 41 ∷ 41 ∷ [])
    (104 ∷ 40 ∷ 38 ∷ 110 ∷ 101 ∷ 119 ∷ 50 ∷ 40 ∷ 41 ∷ 41 ∷ [])
    -- the same, where only the text without its prefix is a node
    ∷ example (0x30000000 ∷ 0x4000000a ∷ 0x30000003 ∷ 0x40000009 ∷ []) (fixed 1 ∷ fixed 1 ∷ hole 7 ∷ fixed 1 ∷ [])
    (104 ∷ 40 ∷ 38 ∷ 110 ∷ 101 ∷ 119 ∷ 50 ∷ 40 ∷ 41 ∷ 41 ∷ [])
    (104 ∷ 40 ∷ 40 ∷ 38 ∷ 110 ∷ 101 ∷ 119 ∷ 50 ∷ 40 ∷ 41 ∷ 41 ∷ 41 ∷ [])
    -- two empty placeholders before `k`: one pair only
    ∷ example (0x30000000 ∷ 0x40000001 ∷ []) (hole 0 ∷ hole 0 ∷ fixed 1 ∷ [])
    (107 ∷ [])
    (40 ∷ 41 ∷ 107 ∷ [])
    -- and none, where the empty range is a node's
    ∷ example (0x30000000 ∷ 0x40000001 ∷ 0x30000000 ∷ 0x40000000 ∷ []) (hole 0 ∷ hole 0 ∷ fixed 1 ∷ [])
    (107 ∷ [])
    (107 ∷ [])
    -- an empty placeholder before one that is not, and one behind it
    ∷ example [] (hole 0 ∷ hole 1 ∷ hole 0 ∷ [])
    (107 ∷ [])
    (40 ∷ 41 ∷ 40 ∷ 107 ∷ 41 ∷ 40 ∷ 41 ∷ [])
    ∷ []

-- the first rendering with its parentheses put in
abbrev second : Example → List ℕ
second e = wrapped e.parts (requires (ranges_of e.ranges) 0 e.parts) e.first

-- is the one that the table names
answered : map second examples ≡ map (λ (e : Example). e.second) examples
unfolding ranges_of has_range requires wrapped
answered = refl
