-- The rows of a job's candidates, and the matches and places that they show. A row has its candidate's node and rule, what has become of its
-- match, and the match's bindings. The comments are not in it: they are given by node and rule.
-- Assumes nothing.
use Rattle.std.specs.Prelude.{ℕ, ◌≤◌, ◌<◌, ◌≡◌, true, false, List, [], ◌∷◌, length, take, get_or, Option, None, Some}
use Rattle.std.specs.List.{flat_map}
use Rattle.syntax.specs.Trees.{Elems, size}
use Rattle.nester.specs.Matches.{Match}
use Rattle.nester.specs.Nest.{over}
use Rattle.nester.specs.Fates.{Place, outer, within, Placed, walk, rows}
use Rattle.nester.specs.declared.Nesting.{Nesting}
use Rattle.nester.specs.declared.Nesting.TheVariants.{NoMatch, NotKept, Outermost, Inside}
use Rattle.nester.specs.declared.Row.{Row}

-- no candidate, which stands for what is past the last row
abbrev pub no_row : Row
no_row = record { node = 0; rule = 0; state = NoMatch; bindings = []; end = 0; has_comments = false; «module» = 0 }

abbrev pub row_at : List Row → ℕ → Row
row_at rows i = get_or rows i no_row

-- a row without what has become of its match
abbrev pub unnested : Row → Row
unnested r = record r { state = NoMatch }

-- the place of a match that a state says; one that is not kept has none
abbrev pub place_of : List Row → Nesting → Option Place
place_of rows NoMatch = None
place_of rows NotKept = None
place_of rows Outermost = Some outer
place_of rows (Inside row slot) = Some (within (row_at rows row).node (row_at rows row).rule slot)

-- a match that has a place, with it
abbrev pub placed : Match → Option Place → List Placed
placed m None = []
placed m (Some p) = record { match = m; place = p } ∷ []

-- the match of a candidate that matches and is not nested yet
abbrev pub fresh : Nesting → Match → List Match
fresh NoMatch m = []
fresh NotKept m = m ∷ []
fresh Outermost m = []
fresh (Inside row slot) m = []

module _ (comments : ℕ → ℕ → List ℕ) where
  abbrev pub match_in : Row → Match
  match_in r = record { node = r.node; rule = r.rule; bindings = r.bindings; comments = comments r.node r.rule }

  abbrev pub placed_in : List Row → Row → List Placed
  placed_in rows r = placed (match_in r) (place_of rows r.state)

  -- the kept matches of some of the rows, with their places
  abbrev pub rows_in : List Row → List Row → List Placed
  rows_in rows some = flat_map (placed_in rows) some

  -- the matches of rows before they are nested
  abbrev pub matches_in : List Row → List Match
  matches_in rows = flat_map (λ r. fresh r.state (match_in r)) rows

-- rows are by element, no two are of one pair, and each is on an element of the tree
pub record Candidates (t : Elems) (rows : List Row) : Type 0 where
  pub few : length rows ≤ 1024
  pub known : (i : ℕ) → i < length rows → (row_at rows i).node < size t
  pub rising : (i j : ℕ) → i < j → j < length rows → (row_at rows i).node ≤ (row_at rows j).node
  pub distinct : (i j : ℕ) → i < j → j < length rows → (row_at rows i).node ≡ (row_at rows j).node → (row_at rows i).rule ≡ (row_at rows j).rule → ⊥

-- a state says no row, or one before row i
abbrev pub IsBefore : ℕ → Nesting → Type 0
IsBefore i NoMatch = Unit {0}
IsBefore i NotKept = Unit {0}
IsBefore i Outermost = Unit {0}
IsBefore i (Inside row slot) = row < i

-- a row that is nested is so in one before it
abbrev pub Held : List Row → ℕ → Type 0
Held rows n = (i : ℕ) → i < n → IsBefore i (row_at rows i).state

-- nothing has become of the match yet
abbrev pub IsFresh : Nesting → Type 0
IsFresh NoMatch = Unit {0}
IsFresh NotKept = Unit {0}
IsFresh Outermost = ⊥
IsFresh (Inside row slot) = ⊥

-- a row is kept where a match has come to, on the match's node or an ancestor
abbrev pub IsMet : Elems → Row → ℕ → Nesting → Type 0
IsMet t r node state = (r.state ≡ state) × (over t r.node node ≡ true)

-- none of the first n rows is kept outermost on a node or an ancestor
abbrev pub Clear : Elems → List Row → ℕ → ℕ → Type 0
Clear t rows node n = (i : ℕ) → i < n → IsMet t (row_at rows i) node Outermost → ⊥

-- what becomes of the match of row n that comes to the rows before it
pub record Settles (t : Elems) (rows : List Row) (n : ℕ) (state : Nesting) : Type 0 where
  pub fate : (comments : ℕ → ℕ → List ℕ)
      → walk t (match_in comments (row_at rows n)) outer (rows_in comments rows (take n rows)) ≡ place_of rows state
  pub matched : state ≡ NoMatch → ⊥
  pub before : IsBefore n state
  pub clear : state ≡ Outermost → Clear t rows (row_at rows n).node n

-- rows are nested
pub record Nested (t : Elems) (before after : List Row) : Type 0 where
  pub long : length after ≡ length before
  -- all of a row but its state stays
  pub stays : (i : ℕ) → unnested (row_at after i) ≡ unnested (row_at before i)
  -- a candidate that does not match stays so
  pub unmatched : (i : ℕ) → i < length before → (row_at before i).state ≡ NoMatch → (row_at after i).state ≡ NoMatch
  pub matched : (i : ℕ) → i < length before → (row_at before i).state ≡ NotKept → (row_at after i).state ≡ NoMatch → ⊥
  pub held : Held after (length before)
  -- and the rows are those of the matches
  pub kept : (comments : ℕ → ℕ → List ℕ) → rows_in comments after after ≡ rows t (matches_in comments before) []
