-- The matches of a collection in the order of the file, document 01, "Differences": "Matches of equal start go by end, then by element
-- number." What is rendered for a match stays open here.
-- Assumes nothing.
use Rattle.std.specs.Prelude.{ℕ, Bool, cond, List, [], ◌∷◌, eqb, leb, ltb}
use Rattle.syntax.specs.Trees.{Elems}
use Rattle.nester.specs.Matches.{Match}
use Rattle.nester.specs.Nest.{Nest, none, kept, start_at, end_at}

-- a node with what is rendered for the match kept there
pub record Item (T : Type 0) : Type 0 where
  pub node : ℕ
  pub what : T

module _ (t : Elems) {T : Type 0} where
  -- by start, then by end, then by element number
  unfoldable pub before : Item T → Item T → Bool
  before a b =
      let x = a.node in let y = b.node in
      cond (eqb (start_at t x) (start_at t y))
      (cond (eqb (end_at t x) (end_at t y)) (leb x y) (ltb (end_at t x) (end_at t y)))
      (ltb (start_at t x) (start_at t y))

  unfoldable pub insert : Item T → List (Item T) → List (Item T)
  insert x [] = x ∷ []
  insert x (y ∷ l) = cond (before x y) (x ∷ (y ∷ l)) (y ∷ insert x l)

-- What is rendered for a match is made of the match and, for each of its captured ranges, of what is rendered in that one's collection.
module _ (t : Elems) {T : Type 0} (render : Match → (ℕ → List (Item T)) → T) where
  -- a collection rendered: an item for each match, in the order of the file
  unfoldable pub items : Nest → List (Item T)
  items none = []
  items (kept m inner rest) = insert t (record { node = m.node; what = render m (λ k. items (inner k)) }) (items rest)

  -- the same in the order in which they were kept
  unfoldable pub listed : Nest → List (Item T)
  listed none = []
  listed (kept m inner rest) = record { node = m.node; what = render m (λ k. items (inner k)) } ∷ listed rest

  -- the same with the collections inside in that order too
  unfoldable pub laid : Nest → List (Item T)
  laid none = []
  laid (kept m inner rest) = record { node = m.node; what = render m (λ k. laid (inner k)) } ∷ laid rest
