-- Well-formedness by the words alone, without a tree: every element is good by itself, and its children, found by their sizes, stand in a
-- row from its start to its end. No stack of open nodes is in it, so damaged words of any depth are looked at in one pass. That it is
-- `is_tree_of` is proved.
-- Assumes nothing.
use Rattle.std.specs.Prelude.{ℕ, zero, suc, ◌*◌, Bool, true, false, cond, ◌&&◌, List, eqb, leb, ltb, length, drop}
use Rattle.words.specs.Fields.{kind_at, is_a_node, is_a_token, syntax_kind, size_of, start_of, end_of}
use Rattle.syntax.specs.Parts.{span, child_words, rest_words}
use Rattle.syntax.specs.Trees.{is_token_kind, is_node_kind}

-- siblings follow each other from one byte to another and use up the part; n bounds them
unfoldable pub row_for : ℕ → List ℕ → ℕ → ℕ → Bool
row_for zero l from to = false
row_for (suc n) l from to =
    cond (eqb (length l) 0) (eqb from to)
    (cond (leb (span l * 3) (length l) && eqb (start_of l) from) (row_for n (rest_words l) (end_of l) to) false)

unfoldable pub in_row : List ℕ → ℕ → ℕ → Bool
in_row l from to = row_for (suc (length l)) l from to

-- the kinds of an element's range
abbrev pub is_ranged : List ℕ → Bool
is_ranged l = eqb (kind_at l 1) 3 && eqb (kind_at l 2) 4

-- a token's words, and a node's
abbrev pub is_token_part : List ℕ → Bool
is_token_part l = eqb (size_of l) 1 && is_token_kind (syntax_kind l) && ltb (start_of l) (end_of l)

abbrev pub is_node_head : List ℕ → Bool
is_node_head l = is_a_node l && leb 1 (size_of l) && is_node_kind (syntax_kind l) && leb (start_of l) (end_of l)

abbrev pub is_node_part : List ℕ → Bool
is_node_part l = is_node_head l && in_row (child_words l) (start_of l) (end_of l)

unfoldable pub is_element : List ℕ → Bool
is_element l = is_ranged l && cond (is_a_token l) (is_token_part l) (is_node_part l)

-- every element of a list; n bounds them
unfoldable pub every_for : ℕ → List ℕ → Bool
every_for zero l = true
every_for (suc n) l = cond (eqb (length l) 0) true (is_element l && every_for n (drop 3 l))

unfoldable pub every : List ℕ → Bool
every l = every_for (length l) l

-- the first is a node, holds all others and covers a text of n bytes
unfoldable pub is_root : ℕ → List ℕ → Bool
is_root n l = is_a_node l && eqb (size_of l * 3) (length l) && eqb (start_of l) 0 && eqb (end_of l) n
