-- Syntax trees, document 01, "Words": "a tree is a preorder list of 32-bit words, three to an element". Everything above speaks of the
-- inductive tree; its words are the encoder's, and the decoder takes words back to it.
-- Assumes nothing.
use Rattle.std.specs.Prelude.{ℕ, zero, suc, ◌+◌, ◌*◌, ◌≡◌, Bool, true, false, cond, ◌&&◌, List, [], ◌∷◌, ◌++◌, eqb, leb, ltb, length}
use Rattle.words.specs.Fields.{word_of, is_a_token, syntax_kind, start_of, end_of}
use Rattle.words.specs.Texts.{same_text}
use Rattle.syntax.specs.Parts.{span, child_words, rest_words}

-- Siblings in turn: none, or a first element, a token or a node, and the rest. An element has its number in preorder, its syntax kind and
-- its range; a node has its children.
pub data Elems : Type 0 where
  none : Elems
  token : (number kind start end : ℕ) (rest : Elems) → Elems
  node : (number kind start end : ℕ) (children rest : Elems) → Elems

-- how many elements there are, those below counted
unfoldable pub size : Elems → ℕ
size none = 0
size (token i k s e r) = 1 + size r
size (node i k s e cs r) = 1 + size cs + size r

-- the elements are numbered in preorder from i
abbrev pub Numbered : ℕ → Elems → Type 0
Numbered i none = Unit {0}
Numbered i (token j k s e r) = (j ≡ i) × Numbered (i + 1) r
Numbered i (node j k s e cs r) = (j ≡ i) × Numbered (i + 1) cs × Numbered (i + (1 + size cs)) r

-- how deep the deepest element is, the first ones being at 1
abbrev pub deeper : ℕ → ℕ → ℕ
deeper a b = cond (leb a b) b a

unfoldable pub depth : Elems → ℕ
depth none = 0
depth (token i k s e r) = deeper 1 (depth r)
depth (node i k s e cs r) = deeper (1 + depth cs) (depth r)

-- "Element: kind 1 (node) or 2 (token), 12 bits syntax kind, 16 bits subtree size in elements, itself included; then a kind 3 word
-- (start byte) and a kind 4 word (end byte)"; "A token has size 1"
abbrev pub element_word : ℕ → ℕ → ℕ → ℕ
element_word kind syntax n = word_of kind (syntax * 65536 + n)

unfoldable pub words : Elems → List ℕ
words none = []
words (token i k s e r) = element_word 2 k 1 ∷ word_of 3 s ∷ word_of 4 e ∷ words r
words (node i k s e cs r) = element_word 1 k (1 + size cs) ∷ word_of 3 s ∷ word_of 4 e ∷ words cs ++ words r

-- the decoder, total: the siblings that words are, numbered from i; n bounds the calls
unfoldable pub decode : ℕ → ℕ → List ℕ → Elems
decode zero i l = none
decode (suc n) i l =
    cond (ltb (length l) 3) none
    (cond (is_a_token l) (token i (syntax_kind l) (start_of l) (end_of l) (decode n (i + 1) (rest_words l)))
    (node i (syntax_kind l) (start_of l) (end_of l) (decode n (i + 1) (child_words l)) (decode n (i + span l) (rest_words l))))

unfoldable pub elems : ℕ → List ℕ → Elems
elems i l = decode (length l) i l

-- "The root is element 0"
abbrev pub tree : List ℕ → Elems
tree l = elems 0 l

-- "Token kinds: .. others 12 to 1,023"; "Node kinds: .. the rest 10 to 63 and 2,048 to 4,095"
abbrev pub is_token_kind : ℕ → Bool
is_token_kind k = leb 1 k && leb k 1023

abbrev pub is_node_kind : ℕ → Bool
is_node_kind k = leb 1 k && leb k 4095

-- "Children tile their parent", from its start to its end; "a childless node is empty"
unfoldable pub tiles : ℕ → ℕ → Elems → Bool
tiles from to none = eqb from to
tiles from to (token i k s e r) = eqb s from && tiles e to r
tiles from to (node i k s e cs r) = eqb s from && tiles e to r

-- every element is well-formed, with a test of each node's children: "A start is never after its end"; "A token .. is not empty"
unfoldable pub formed : (ℕ → ℕ → Elems → Bool) → Elems → Bool
formed tiling none = true
formed tiling (token i k s e r) = is_token_kind k && ltb s e && formed tiling r
formed tiling (node i k s e cs r) = is_node_kind k && leb s e && tiling s e cs && formed tiling cs && formed tiling r

-- "The root is .. a node, and covers the text", one of n bytes
abbrev pub covers : ℕ → Elems → Bool
covers n none = false
covers n (token i k s e r) = false
covers n (node i k s e cs none) = eqb s 0 && eqb e n
covers n (node i k s e cs (token j k' s' e' r)) = false
covers n (node i k s e cs (node j k' s' e' cs' r)) = false

-- words are those of a well-formed tree over a text of n bytes
unfoldable pub is_tree_of : (ℕ → ℕ → Elems → Bool) → ℕ → List ℕ → Bool
is_tree_of tiling n l = same_text (words (tree l)) l && covers n (tree l) && formed tiling (tree l)
