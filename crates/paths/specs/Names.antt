-- What docs/src/src/resolving.rs asks of a path: `is_self`, `path_contains_type_arguments` and `path_contains_placeholder`. Document 01:
-- "An accessor takes the first child of its kind; `self_token` and `text` look at the NAME_REF's first token". A path's qualifier is the
-- first PATH among its children.
-- Assumes nothing.
use Rattle.std.specs.Prelude.{ℕ, Bool, false, cond, ◌||◌, List, eqb, is_some}
use Rattle.parsing.specs.Reading.{Var}
use Rattle.rust_code.specs.StandIns.{stand_in_position}
use Rattle.syntax.specs.Trees.{Elems, none, token, node}
use Rattle.syntax.specs.Accessors.{children, text_of, some, token_in, find_node, first_token}

-- the placeholders of a pattern's list: its text and what stands there
pub record Placeholders : Type 0 where
  pub text : List ℕ
  pub vars : List Var

-- `placeholders_by_stand_in.contains_key`: "by its text"
abbrev pub is_stand_in : Placeholders → List ℕ → Bool
is_stand_in p x = is_some (stand_in_position p.text p.vars x)

-- `path.segment()` and the name in it, from a path's children: the first token of the segment's NAME_REF
abbrev pub segment_in : Elems → Elems
segment_in cs = find_node 3 3 cs

abbrev pub name_in : Elems → Elems
name_in cs = first_token (find_node 4 4 (children (segment_in cs)))

-- `is_self`, of the first element
abbrev pub is_self : Elems → Bool
is_self c = token_in 11 11 (name_in (children c))

-- a path's segment has generic arguments, from its children
abbrev pub has_type_arguments : Elems → Bool
has_type_arguments cs = some (find_node 5 5 (children (segment_in cs)))

-- `path_contains_type_arguments`, of the first PATH among siblings: its segment has generic arguments, or its qualifier contains some
unfoldable pub contains_type_arguments : Elems → Bool
contains_type_arguments none = false
contains_type_arguments (token i k s e r) = contains_type_arguments r
contains_type_arguments (node i k s e cs r) =
    cond (eqb k 2) (has_type_arguments cs || contains_type_arguments cs) (contains_type_arguments r)

-- `path_contains_placeholder`, of the first PATH among siblings: its name is a stand-in name, whatever the token's kind, or its qualifier
-- contains one. A path without a name has the empty text there, which is no stand-in name.
unfoldable pub contains_placeholder : Placeholders → List ℕ → Elems → Bool
contains_placeholder p code none = false
contains_placeholder p code (token i k s e r) = contains_placeholder p code r
contains_placeholder p code (node i k s e cs r) =
    cond (eqb k 2) (is_stand_in p (text_of code (name_in cs)) || contains_placeholder p code cs) (contains_placeholder p code r)
