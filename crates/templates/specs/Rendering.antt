-- What the functions that render a template ask for and leave: pieces in a buffer.
-- Assumes nothing.
use Rattle.std.specs.Prelude.{ℕ, ◌+◌, ◌*◌, ◌≤◌, Bool, cond, ◌&&◌, List, [], ◌∷◌, eqb, length, Option, Some, None}
use Rattle.syntax.specs.declared.parts.Part.{Part}
use Rattle.syntax.specs.Trees.{Elems, none, token, node}
use Rattle.syntax.specs.Views.{elems_of}
use Rattle.templates.specs.declared.Piece.{Piece}
use Rattle.templates.specs.Pieces.{Template, Mode, everything, but_names, receiver_below, token_piece, node_pieces, render}

-- the lone number of a list; none where there is none or there are several
abbrev pub only_of : List ℕ → Option ℕ
only_of [] = None
only_of (i ∷ []) = Some i
only_of (i ∷ (j ∷ l)) = None

-- siblings, with or without NAME_REF nodes
abbrev pub mode_of : Bool → Mode
mode_of nameless = cond nameless but_names everything

-- the first element of siblings by itself
abbrev pub element_pieces : Template → Bool → List ℕ → Elems → List Piece
element_pieces t nameless rs none = []
element_pieces t nameless rs (token i k s e r) = token_piece t rs i k s e ∷ []
element_pieces t nameless rs (node i k s e cs r) = cond (nameless && eqb k 4) [] (node_pieces t i (λ m. render t m (receiver_below k cs rs) cs))

-- every range lies in a text of at most 65,535 bytes
abbrev pub AreLow : Elems → Type 0
AreLow none = Unit {0}
AreLow (token i k s e r) = (s ≤ 65535) × (e ≤ 65535) × AreLow r
AreLow (node i k s e cs r) = (s ≤ 65535) × (e ≤ 65535) × AreLow cs × AreLow r

-- a part is of a tree within its limits, and so many pieces have room
pub record Room (part : Part) (count : ℕ) (out : List Piece) : Type 0 where
  pub few : part.number * 3 + length part.words.now ≤ 49149
  pub low : AreLow (elems_of part)
  pub within : count ≤ length out
