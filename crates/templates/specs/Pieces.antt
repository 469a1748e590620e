-- What a template renders, in pieces: `render_node`, `render_node_children`, `render_token` and `token_is_method_call_receiver` of
-- docs/src/src/replacing.rs. The pieces depend on the rule alone; a match gives the text of each placeholder and of each path.
-- Assumes nothing.
use Rattle.std.specs.Prelude.{ℕ, ◌≤◌, ◌<◌, Bool, cond, List, [], ◌∷◌, ◌++◌, eqb, Option, Some, None}
use Rattle.words.specs.Texts.{part, same_text}
use Rattle.rust_code.specs.StandIns.{stand_in_position}
use Rattle.syntax.specs.Trees.{Elems, none, token, node}
use Rattle.syntax.specs.Accessors.{find_expression, by_itself}
use Rattle.paths.specs.Names.{Placeholders}
use Rattle.paths.specs.Steps.{Side}
use Rattle.paths.specs.Resolved.{refers_to_definition}
use Rattle.templates.specs.declared.Piece.{Piece}
use Rattle.templates.specs.declared.Piece.TheVariants.{Text, Path, Hole}

-- ---- receivers

-- the numbers of all tokens among siblings and below them
unfoldable pub tokens_of : Elems → List ℕ
tokens_of none = []
tokens_of (token i k s e r) = i ∷ tokens_of r
tokens_of (node i k s e cs r) = tokens_of cs ++ tokens_of r

-- the tokens within the receiver of a call, from its children: "Arguments and receiver are child nodes of expression kind", the first
abbrev pub receiver_tokens : Elems → List ℕ
receiver_tokens cs = tokens_of (by_itself (find_expression cs))

-- "Find the first method call among the ancestors": a METHOD_CALL_EXPR, 65, tells its own; what is below another node keeps what it has
abbrev pub receiver_below : ℕ → Elems → List ℕ → List ℕ
receiver_below kind cs receiver = cond (eqb kind 65) (receiver_tokens cs) receiver

-- "then check if the only token within the receiver is `token`"
abbrev pub is_receiver : List ℕ → ℕ → Bool
is_receiver receiver i = same_text receiver (i ∷ [])

-- ---- rendered paths

-- `rendered_template_paths.get(node)`: a resolved path that refers to a definition
abbrev pub is_rendered : Side → Elems → ℕ → Bool
is_rendered x root e = refers_to_definition x root e

-- ---- rendering

-- a template: the placeholders of its rule's pattern, its code, and which of its elements are rendered as paths
pub record Template : Type 0 where
  pub placeholders : Placeholders
  pub code : List ℕ
  pub rendered : ℕ → Bool

abbrev pub template_of : Side → Elems → Template
template_of x root = record { placeholders = x.placeholders; code = x.code; rendered = λ e. is_rendered x root e }

-- `render_token`: "An IDENT that a rule writes out as a stand-in name is a placeholder too, by its text"; any other token is its text
abbrev pub ident_piece : Option ℕ → ℕ → ℕ → Bool → Piece
ident_piece None s e b = Text s e
ident_piece (Some slot) s e b = Hole slot b

abbrev pub token_piece : Template → List ℕ → ℕ → ℕ → ℕ → ℕ → Piece
token_piece t receiver i k s e =
    cond (eqb k 1) (ident_piece (stand_in_position t.placeholders.text t.placeholders.vars (part t.code s e)) s e (is_receiver receiver i)) (Text s e)

-- which siblings are rendered: every one; below a rendered path, none but the children of the first PATH_SEGMENT; of these, "everything
-- except for the segment's name-ref"
pub data Mode : Type 0 where
  everything : Mode
  first_segment : Mode
  but_names : Mode

-- `render_node`, with what its children give in a mode
abbrev pub node_pieces : Template → ℕ → (Mode → List Piece) → List Piece
node_pieces t i below = cond (t.rendered i) (Path i ∷ below first_segment) (below everything)

-- `render_node_children`: siblings in turn. A PATH_SEGMENT is a node of kind 3, a NAME_REF a node of kind 4; a token of kind 4 is a COMMA.
unfoldable pub render : Template → Mode → List ℕ → Elems → List Piece
render t m rs none = []
render t everything rs (token i k s e r) = token_piece t rs i k s e ∷ render t everything rs r
render t first_segment rs (token i k s e r) = render t first_segment rs r
render t but_names rs (token i k s e r) = token_piece t rs i k s e ∷ render t but_names rs r
render t everything rs (node i k s e cs r) = node_pieces t i (λ m. render t m (receiver_below k cs rs) cs) ++ render t everything rs r
render t first_segment rs (node i k s e cs r) = cond (eqb k 3) (render t but_names rs cs) (render t first_segment rs r)
render t but_names rs (node i k s e cs r) =
    cond (eqb k 4) [] (node_pieces t i (λ m. render t m (receiver_below k cs rs) cs)) ++ render t but_names rs r

-- the pieces of a template, from its root; no method call is around it
abbrev pub pieces : Side → Elems → List Piece
pieces x root = render (template_of x root) everything [] root

-- a piece lies in a text of so many bytes, in a tree of so many elements, among so many placeholders
abbrev pub Fits : ℕ → ℕ → ℕ → Piece → Type 0
Fits bytes elements slots (Text s e) = (s ≤ e) × (e ≤ bytes)
Fits bytes elements slots (Path i) = i < elements
Fits bytes elements slots (Hole slot b) = slot < slots

abbrev pub AllFit : ℕ → ℕ → ℕ → List Piece → Type 0
AllFit bytes elements slots [] = Unit {0}
AllFit bytes elements slots (p ∷ ps) = Fits bytes elements slots p × AllFit bytes elements slots ps
