-- The index of a fact list: one number a fact, its key and its place in the list, in rising order. The key is element, sort, and step or
-- module, as one number: facts that are listed by element are in order already. What is refused and what is found is said by `Facts` alone; that an index says the same is proved.
-- Assumes nothing.
use Rattle.std.specs.Prelude.{ℕ, ◌+◌, ◌*◌, ◌/◌, ◌%◌, ◌<◌, ◌≤◌, ◌≡◌, Bool, ◌&&◌, List, [], ◌∷◌, eqb, ltb, length, get_or}
use Rattle.sorting.specs.Sorted.{sort, below}
use Rattle.facts.specs.Facts.{Fact, selector, facts_of}

-- element, sort, and step or module as one number; sorts are below 16, and values below 2 ^ 28
abbrev pub key_number : ℕ → ℕ → ℕ → ℕ
key_number sort element select = (element * 16 + sort) * 268435456 + select

abbrev pub key_of : Fact → ℕ
key_of f = key_number f.sort f.element (selector f)

-- the entries of facts whose first is at place p
unfoldable pub entries_from : ℕ → List Fact → List ℕ
entries_from p [] = []
entries_from p (f ∷ fs) = (key_of f * 16384 + p) ∷ entries_from (p + 1) fs

-- the index of the facts of a list of words
unfoldable pub index_of : List ℕ → List ℕ
index_of l = sort (entries_from 0 (facts_of l))

-- a later step's key
abbrev pub is_later_key : ℕ → Bool
is_later_key k = eqb (k / 268435456 % 16) 3 && ltb 0 (k % 268435456)

-- every element is below 16,384, so that a key fits
abbrev pub AreLow : List Fact → Type 0
AreLow [] = Unit {0}
AreLow (f ∷ fs) = (f.element < 16384) × AreLow fs

-- a fact's parts fit in its key
pub record InRange (f : Fact) : Type 0 where
  pub low_sort : f.sort < 16
  pub low_element : f.element < 16384
  pub low_first : f.first < 268435456

-- how many entries are lower than all that an element can have, of each element of a table
abbrev pub AreStarts : List ℕ → List ℕ → Type 0
AreStarts starts index = (e : ℕ) → e < length starts → get_or starts e 0 ≡ below (e * 70368744177664) index

-- an index is the entries of facts, in rising order, beside the starts of some elements
pub record IsIndex (facts index starts : List ℕ) : Type 0 where
  pub few : length (facts_of facts) ≤ 16383
  pub low : AreLow (facts_of facts)
  pub sorted : index ≡ index_of facts
  pub begins : AreStarts starts index
