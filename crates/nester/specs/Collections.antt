-- Demand 3, of the collections of a job's matches: "Whatever the matches, in each collection, outer or nested, no node equals another or is
-- its ancestor. A match is dropped exactly when it meets a kept match, on its node or an ancestor, that has no captured range holding it."
-- Assumes nothing.
use Rattle.std.specs.Prelude.{◌≡◌, ℕ, true, List, ◌∷◌, ◌++◌, ◌↔◌}
use Rattle.syntax.specs.Trees.{Elems}
use Rattle.captures.specs.Attempts.{Attempt}
use Rattle.candidates.specs.Candidates.{Pairs}
use Rattle.nester.specs.Matches.{Match, matches}
use Rattle.nester.specs.Nest.{Nest, none, nest, In, Apart, Meets, Stop, above}

module _ (t : Elems) (rules : ℕ) (attempt : ℕ → ℕ → Attempt) (pairs : Pairs) where
  abbrev pub found : List Match
  found = matches t rules attempt pairs

  abbrev pub collection : Nest
  collection = nest t found none

  pub record Collections : Type 0 where
    pub apart : Apart t collection
    pub dropped : (a b : List Match) (m : Match) → found ≡ a ++ (m ∷ b) → (In m collection → ⊥) ↔ Stop t m (nest t a none)
    -- the one met is on its node or an ancestor, and stays kept
    pub met : (a b : List Match) (m x : Match) → found ≡ a ++ (m ∷ b) → Meets t m x (nest t a none) → In x collection × (above t x m ≡ true)
