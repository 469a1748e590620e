-- What document 01 fixes of a tree's accessors, in "Modules, leaves first", 5 and 6: "An accessor takes the first child of its kind;
-- `self_token` and `text` look at the NAME_REF's first token; `first_token` goes down first children and finds none at a childless node."
-- An element is the first of a sequence; an accessor that finds nothing gives the empty one.
-- Assumes nothing.
use Rattle.std.specs.Prelude.{ℕ, Bool, true, false, cond, ◌&&◌, ◌||◌, List, [], ◌∷◌, eqb, leb, length}
use Rattle.words.specs.Texts.{part}
use Rattle.syntax.specs.Trees.{Elems, none, token, node}
use Rattle.words.specs.declared.texts.Range.{Range}
use Rattle.syntax.specs.declared.kinds.ElementKind.{ElementKind}
use Rattle.syntax.specs.declared.kinds.ElementKind.TheVariants.{Node, Token}
use Rattle.syntax.specs.declared.trees.Standing.{Standing}

-- the children of the first element, and what follows it
abbrev pub children : Elems → Elems
children none = none
children (token i k s e r) = none
children (node i k s e cs r) = cs

abbrev pub rest : Elems → Elems
rest none = none
rest (token i k s e r) = r
rest (node i k s e cs r) = r

-- its number; 0 where there is none
abbrev pub number_of : Elems → ℕ
number_of none = 0
number_of (token i k s e r) = i
number_of (node i k s e cs r) = i

-- its range, and its text
abbrev pub range_of : Elems → Range
range_of none = record { start = 0; end = 0 }
range_of (token i k s e r) = record { start = s; end = e }
range_of (node i k s e cs r) = record { start = s; end = e }

abbrev pub text_of : List ℕ → Elems → List ℕ
text_of text c = part text (range_of c).start (range_of c).end

-- there is an element; it is a node, or a token, of kinds from one to another
abbrev pub some : Elems → Bool
some none = false
some (token i k s e r) = true
some (node i k s e cs r) = true

abbrev pub between : ℕ → ℕ → ℕ → Bool
between low high k = leb low k && leb k high

abbrev pub node_in : ℕ → ℕ → Elems → Bool
node_in low high none = false
node_in low high (token i k s e r) = false
node_in low high (node i k s e cs r) = between low high k

abbrev pub token_in : ℕ → ℕ → Elems → Bool
token_in low high none = false
token_in low high (token i k s e r) = between low high k
token_in low high (node i k s e cs r) = false

-- an element of a kind, a node or a token, is among siblings or below them
abbrev pub has_kind : ElementKind → ℕ → Elems → Bool
has_kind Node kind c = node_in kind kind c
has_kind Token kind c = token_in kind kind c

unfoldable pub has_element : ElementKind → ℕ → Elems → Bool
has_element element kind none = false
has_element element kind (token i k s e r) = has_kind element kind (token i k s e r) || has_element element kind r
has_element element kind (node i k s e cs r) = has_kind element kind (node i k s e cs r) || has_element element kind cs || has_element element kind r

-- the first node among siblings whose kind is from one number to another
unfoldable pub find_node : ℕ → ℕ → Elems → Elems
find_node low high none = none
find_node low high (token i k s e r) = find_node low high r
find_node low high (node i k s e cs r) = cond (between low high k) (node i k s e cs r) (find_node low high r)

-- "An accessor takes the first child of its kind"
abbrev pub first_child : ℕ → Elems → Elems
first_child kind c = find_node kind kind (children c)

-- "Arguments and receiver are child nodes of expression kind", "expressions 64 to 1,023": the first of siblings
abbrev pub find_expression : Elems → Elems
find_expression c = find_node 64 1023 c

-- "`first_token` goes down first children and finds none at a childless node"
unfoldable pub first_token : Elems → Elems
first_token none = none
first_token (token i k s e r) = token i k s e r
first_token (node i k s e cs r) = first_token cs

-- `only_ident`: an IDENT, or a node with one child, trivia counted, that is or holds one
unfoldable pub only_ident : Elems → Elems
only_ident none = none
only_ident (token i k s e r) = cond (eqb k 1) (token i k s e r) none
only_ident (node i k s e cs r) = cond (some (rest cs)) none (only_ident cs)

-- the element of a number, with what follows it among its siblings
unfoldable pub or_else : Elems → Elems → Elems
or_else none b = b
or_else (token i k s e r) b = token i k s e r
or_else (node i k s e cs r) b = node i k s e cs r

unfoldable pub element_at : ℕ → Elems → Elems
element_at n none = none
element_at n (token i k s e r) = cond (eqb i n) (token i k s e r) (element_at n r)
element_at n (node i k s e cs r) = cond (eqb i n) (node i k s e cs r) (or_else (element_at n cs) (element_at n r))

-- an element by itself, without what follows it
abbrev pub by_itself : Elems → Elems
by_itself none = none
by_itself (token i k s e r) = token i k s e none
by_itself (node i k s e cs r) = node i k s e cs none

-- the element of a number and its ancestors, by their numbers, the outermost first
abbrev pub below : ℕ → List ℕ → List ℕ → List ℕ
below i [] other = other
below i (j ∷ js) other = i ∷ j ∷ js

unfoldable pub ancestors : ℕ → Elems → List ℕ
ancestors n none = []
ancestors n (token i k s e r) = cond (eqb i n) (i ∷ []) (ancestors n r)
ancestors n (node i k s e cs r) = cond (eqb i n) (i ∷ []) (below i (ancestors n cs) (ancestors n r))

-- "Depth counts ancestors, the node included."
abbrev pub depth_of : ℕ → Elems → ℕ
depth_of n c = length (ancestors n c)

-- its parent's number, or its own where it has none
unfoldable pub last_but_one : ℕ → List ℕ → ℕ
last_but_one n [] = n
last_but_one n (i ∷ []) = n
last_but_one n (i ∷ (j ∷ l)) = last_but_one i (j ∷ l)

abbrev pub parent_of : ℕ → Elems → ℕ
parent_of n c = last_but_one n (ancestors n c)

abbrev pub standing : ℕ → Elems → Standing
standing n c = record { depth = depth_of n c; parent = parent_of n c }
