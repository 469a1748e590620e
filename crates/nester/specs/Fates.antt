-- What becomes of a match that comes to a collection, and the collections as code keeps them: a row for each kept match, with the place
-- where it is kept. That the rows show the collections is proved.
-- Assumes nothing.
use Rattle.std.specs.Prelude.{ℕ, Bool, true, false, cond, ◌&&◌, List, [], ◌∷◌, ◌++◌, eqb, Option, None, Some}
use Rattle.std.specs.Option.{option_and_then}
use Rattle.syntax.specs.Trees.{Elems}
use Rattle.nester.specs.Matches.{Match}
use Rattle.nester.specs.Nest.{Nest, none, kept, above, holding}

-- a collection: the outer one, or that of a captured range of the match on a node by a rule
pub data Place : Type 0 where
  outer : Place
  within : (node rule slot : ℕ) → Place

-- the place of a match's k-th captured range
abbrev pub inside : Match → ℕ → Place
inside x k = within x.node x.rule k

abbrev pub same : Place → Place → Bool
same outer outer = true
same outer (within n r k) = false
same (within n r k) outer = false
same (within n r k) (within n' r' k') = eqb n n' && eqb r r' && eqb k k'

pub record Placed : Type 0 where
  pub match : Match
  pub place : Place

abbrev pub pushed : Option Place → Match → List Placed → List Placed
pushed None m l = l
pushed (Some p) m l = l ++ (record { match = m; place = p } ∷ [])

module _ (t : Elems) where
  -- the fate of a match that comes to the collection at p: the place where it is kept, or none where it is dropped. A match that is met sends
  -- another on to one of its collections, or drops it
  unfoldable pub fate_at : Place → Match → Nest → Option Place
  fate_at p m none = Some p
  fate_at p m (kept x inner rest) = cond (above t x m) (option_and_then (λ k. fate_at (inside x k) m (inner k)) (holding t x m)) (fate_at p m rest)

  -- "Matches come .. to the outer collection"
  abbrev pub fate : Match → Nest → Option Place
  fate m c = fate_at outer m c

  -- a match's way over the rows, from the place p
  unfoldable pub walk : Match → Place → List Placed → Option Place
  walk m p [] = Some p
  walk m p (r ∷ l) =
      cond (same p r.place && above t r.match m)
      (option_and_then (λ k. walk m (inside r.match k) l) (holding t r.match m))
      (walk m p l)

  -- the rows of all matches, in turn
  unfoldable pub rows : List Match → List Placed → List Placed
  rows [] l = l
  rows (m ∷ ms) l = rows ms (pushed (walk m outer l) m l)

-- the collection at p that rows show
unfoldable pub shown : List Placed → Place → Nest
shown [] p = none
shown (r ∷ l) p = cond (same p r.place) (kept r.match (λ k. shown l (inside r.match k)) (shown l p)) (shown l p)
