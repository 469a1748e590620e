-- nester.rs: `nest_and_remove_collisions`, in the words of document 01, "Modules", 6.
-- Assumes nothing.
use Rattle.std.specs.Prelude.{◌≡◌, ℕ, Bool, true, false, cond, ◌&&◌, List, [], ◌∷◌, eqb, leb, Option, None, Some}
use Rattle.std.specs.List.{position, list_any}
use Rattle.syntax.specs.Trees.{Elems}
use Rattle.syntax.specs.Accessors.{range_of, element_at, ancestors}
use Rattle.captures.specs.declared.Binding.{Binding}
use Rattle.nester.specs.Matches.{Match}

-- A collection: its matches in the order in which they were kept there, each with a collection for each captured range, by the range's
-- number in pattern order.
pub data Nest : Type 0 where
  none : Nest
  kept : (m : Match) (inner : ℕ → Nest) (rest : Nest) → Nest

-- "all collections are empty at first"
abbrev pub empty : ℕ → Nest
empty k = none

-- the k-th collection changed to c
abbrev pub change : ℕ → Nest → (ℕ → Nest) → ℕ → Nest
change k c inner j = cond (eqb j k) c (inner j)

-- a captured range holds a range: "no later start, no earlier end"
abbrev pub holds : Option Binding → ℕ → ℕ → Bool
holds None s e = false
holds (Some b) s e = leb b.start s && leb e b.end

-- the number of the first that does; "the earlier placeholder in pattern order takes it"
abbrev pub holder : List (Option Binding) → ℕ → ℕ → Option ℕ
holder bindings s e = position (λ b. holds b s e) bindings

-- a number is in a list
abbrev pub among : ℕ → List ℕ → Bool
among n l = list_any (λ i. eqb i n) l

-- x goes on to one of its collections, which `on` changes, or leaves all as it is
abbrev pub sent : Option ℕ → Match → (ℕ → Nest) → Nest → (ℕ → Nest) → Nest
sent None x inner rest on = kept x inner rest
sent (Some k) x inner rest on = kept x (change k (on k) inner) rest

module _ (t : Elems) where
  -- element i is j or an ancestor of j
  abbrev pub over : ℕ → ℕ → Bool
  over i j = among i (ancestors j t)

  -- "its range is its node's bytes in the file"
  abbrev pub start_at : ℕ → ℕ
  start_at n = (range_of (element_at n t)).start

  abbrev pub end_at : ℕ → ℕ
  end_at n = (range_of (element_at n t)).end

  -- x is on m's node or an ancestor
  abbrev pub above : Match → Match → Bool
  above x m = over x.node m.node

  -- x's "first captured range holding its range"
  abbrev pub holding : Match → Match → Option ℕ
  holding x m = holder x.bindings (start_at m.node) (end_at m.node)

  -- m comes to a collection. "One that finds none there on its node or an ancestor is kept there. Else it meets that one and goes on to the
  -- collection of that one's first captured range holding its range, or is dropped if there is none."
  unfoldable pub come : Match → Nest → Nest
  come m none = kept m empty none
  come m (kept x inner rest) = cond (above x m) (sent (holding x m) x inner rest (λ k. come m (inner k))) (kept x inner (come m rest))

  -- all of them, in turn
  unfoldable pub nest : List Match → Nest → Nest
  nest [] c = c
  nest (m ∷ l) c = nest l (come m c)

  -- y is one that m meets on its way through the collection
  pub data Meets (m y : Match) : Nest → Type 0 where
    here : {x : Match} {inner : ℕ → Nest} {rest : Nest} → y ≡ x → above x m ≡ true → Meets m y (kept x inner rest)
    past : {x : Match} {inner : ℕ → Nest} {rest : Nest} → above x m ≡ false → Meets m y rest → Meets m y (kept x inner rest)
    down : {x : Match} {inner : ℕ → Nest} {rest : Nest} {k : ℕ}
        → above x m ≡ true → holding x m ≡ Some k → Meets m y (inner k) → Meets m y (kept x inner rest)

  -- m meets one that has no captured range holding it
  pub record Stop (m : Match) (c : Nest) : Type 0 where
    pub at : Match
    pub met : Meets m at c
    pub no : holding at m ≡ None

  -- of two nodes neither is the other or an ancestor of it
  pub record Unrelated (i j : ℕ) : Type 0 where
    pub down : over i j ≡ false
    pub up : over j i ≡ false

  -- x's node is unrelated to that of each match of the collection
  abbrev pub Alone : Match → Nest → Type 0
  Alone x none = Unit {0}
  Alone x (kept y inner rest) = Unrelated x.node y.node × Alone x rest

  -- in the collection, and in each one inside it, no two matches are related
  abbrev pub Apart : Nest → Type 0
  Apart none = Unit {0}
  Apart (kept x inner rest) = Alone x rest × ((k : ℕ) → Apart (inner k)) × Apart rest

-- y is kept in the collection or inside it
pub data In (y : Match) : Nest → Type 0 where
  first : {x : Match} {inner : ℕ → Nest} {rest : Nest} → y ≡ x → In y (kept x inner rest)
  inside : {x : Match} {inner : ℕ → Nest} {rest : Nest} (k : ℕ) → In y (inner k) → In y (kept x inner rest)
  later : {x : Match} {inner : ℕ → Nest} {rest : Nest} → In y rest → In y (kept x inner rest)
