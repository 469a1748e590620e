-- Small templates of the pattern `$s` and their pieces, by computation: receivers, rendered paths, stand-in names.
-- Assumes nothing.
use Prim.Native.Nat.{ℕ, ◌+◌}
use mathlib.Core.Path.{◌≡◌, refl}
use mathlib.Core.Bool.{true, false}
use mathlib.Core.List.{List, [], ◌∷◌, ◌++◌, map}
use Rattle.words.specs.Fields.{word_of}
use Rattle.words.specs.Texts.{part, stand_in_prefix}
use Rattle.syntax.specs.Trees.{Elems, none, token, node}
use Rattle.syntax.specs.Accessors.{find_node, first_token}
use Rattle.facts.specs.Facts.{facts_of, fact_index}
use Rattle.paths.specs.Names.{contains_type_arguments, contains_placeholder}
use Rattle.paths.specs.Steps.{Side, side_by, step}
use Rattle.paths.specs.Resolved.{resolved_paths, last_note}
use Rattle.templates.specs.declared.Piece.{Piece}
use Rattle.templates.specs.declared.Piece.TheVariants.{Text, Path, Hole}
use Rattle.templates.specs.Pieces.{tokens_of, render, pieces}

-- the list `$s`; a template's code; and for each path that is resolved its element, with flags (1 usable, 3 a definition too)
abbrev side : List ℕ → List ℕ → Side
side code facts =
    side_by (36 ∷ 115 ∷ []) (record { start = 0; end = 2; name = record { kind = 1; range = record { start = 1; end = 2 } }; nots = [] } ∷ []) code facts

abbrev fact : ℕ → ℕ → List ℕ
fact element flags = word_of 9 (16777216 + element) ∷ word_of 10 7 ∷ word_of 10 flags ∷ word_of 10 0 ∷ []

-- an expression that is the name of one byte range, its PATH one below it
abbrev name : ℕ → ℕ → ℕ → Elems → Elems
name i s e r =
    node i 70 s e (node (i + 1) 2 s e (node (i + 2) 3 s e (node (i + 3) 4 s e (token (i + 4) 1 s e none) none) none) none) r

-- `.g` and `()` of a call, the IDENT's number and the bytes
abbrev method : ℕ → ℕ → Elems → Elems
method i s arguments = token i 12 s (s + 1) (node (i + 1) 4 (s + 1) (s + 2) (token (i + 2) 1 (s + 1) (s + 2) none) arguments)

-- a PATH that is the whole template, of one segment with these children
abbrev a_path : ℕ → Elems → Elems
a_path e segment = node 0 2 0 e (node 1 3 0 e segment none) none

record Example : Type 0 where
  code : List ℕ
  facts : List ℕ
  template : Elems
  gives : List Piece

abbrev table : List Example
table =
    -- `$s.g()`
    record {
      code = stand_in_prefix ++ (115 ∷ 46 ∷ 103 ∷ 40 ∷ 41 ∷ []);
      facts = [];
      template = node 0 65 0 19 (name 1 0 15 (method 6 15 (node 9 7 17 19 (token 10 13 17 18 (token 11 5 18 19 none)) none))) none;
      gives = Hole 0 true ∷ Text 15 16 ∷ Text 16 17 ∷ Text 17 18 ∷ Text 18 19 ∷ [];
    }
    -- `($s).g()`
    ∷ record {
      code = (40 ∷ []) ++ stand_in_prefix ++ (115 ∷ 41 ∷ 46 ∷ 103 ∷ 40 ∷ 41 ∷ []);
      facts = [];
      template = node 0 65 0 21
          (node 1 71 0 17 (token 2 13 0 1 (name 3 1 16 (token 8 5 16 17 none))) (method 9 17 (node 12 7 19 21 (token 13 13 19 20 (token 14 5 20 21 none)) none))) none;
      gives = Text 0 1 ∷ Hole 0 false ∷ Text 16 17 ∷ Text 17 18 ∷ Text 18 19 ∷ Text 19 20 ∷ Text 20 21 ∷ [];
    }
    -- `x.g($s)`, where `x` is resolved and no definition
    ∷ record {
      code = (120 ∷ 46 ∷ 103 ∷ 40 ∷ []) ++ stand_in_prefix ++ (115 ∷ 41 ∷ []);
      facts = fact 2 1;
      template = node 0 65 0 20 (name 1 0 1 (method 6 1 (node 9 7 3 20 (token 10 13 3 4 (name 11 4 19 (token 16 5 19 20 none))) none))) none;
      gives = Text 0 1 ∷ Text 1 2 ∷ Text 2 3 ∷ Text 3 4 ∷ Hole 0 false ∷ Text 19 20 ∷ [];
    }
    -- a method call without a receiver around it: only the nearest is asked, though the name is the only token of the outer one's
    ∷ record {
      code = stand_in_prefix ++ (115 ∷ []);
      facts = [];
      template = node 0 65 0 15 (node 1 65 0 15 (token 2 1 0 15 none) none) none;
      gives = Hole 0 false ∷ [];
    }
    -- `::foo`, one segment: the path's text and `::`
    ∷ record {
      code = 58 ∷ 58 ∷ 102 ∷ 111 ∷ 111 ∷ [];
      facts = fact 0 3;
      template = a_path 5 (token 2 14 0 2 (node 3 4 2 5 (token 4 1 2 5 none) none));
      gives = Path 0 ∷ Text 0 2 ∷ [];
    }
    -- `foo,`, a COMMA in the segment, which is no NAME_REF
    ∷ record {
      code = 102 ∷ 111 ∷ 111 ∷ 44 ∷ [];
      facts = fact 0 3;
      template = a_path 4 (node 2 4 0 3 (token 3 1 0 3 none) (token 4 4 3 4 none));
      gives = Path 0 ∷ Text 3 4 ∷ [];
    }
    -- `S::C`, not usable: its qualifier is the resolved path
    ∷ record {
      code = 83 ∷ 58 ∷ 58 ∷ 67 ∷ [];
      facts = fact 0 2 ++ fact 1 3;
      template = node 0 2 0 4 (node 1 2 0 1 (node 2 3 0 1 (node 3 4 0 1 (token 4 1 0 1 none) none) none)
          (token 5 14 1 3 (node 6 3 3 4 (node 7 4 3 4 (token 8 1 3 4 none) none) none))) none;
      gives = Path 1 ∷ Text 1 3 ∷ Text 3 4 ∷ [];
    }
    -- `a::b`: neither the qualifier nor a second segment is rendered
    ∷ record {
      code = 97 ∷ 58 ∷ 58 ∷ 98 ∷ [];
      facts = fact 0 3;
      template = node 0 2 0 4 (node 1 2 0 1 (node 2 3 0 1 (node 3 4 0 1 (token 4 1 0 1 none) none) none)
          (token 5 14 1 3 (node 6 3 3 3 none (node 7 3 3 4 (token 8 1 3 4 none) none)))) none;
      gives = Path 0 ∷ [];
    }
    -- a stand-in name written out is a placeholder wherever it is an IDENT, and plain text as another token
    ∷ record {
      code = stand_in_prefix ++ (115 ∷ []) ++ stand_in_prefix ++ (115 ∷ []);
      facts = [];
      template = node 0 1 0 30 (token 1 1 0 15 (token 2 15 15 30 none)) none;
      gives = Hole 0 false ∷ Text 15 30 ∷ [];
    }
    -- a name that the pattern lacks
    ∷ record {
      code = stand_in_prefix ++ (122 ∷ []);
      facts = [];
      template = node 0 1 0 15 (token 1 1 0 15 none) none;
      gives = Text 0 15 ∷ [];
    }
    ∷ []

examples : map (λ x. pieces (side x.code x.facts) x.template) table ≡ map (λ x. x.gives) table
unfolding tokens_of render find_node first_token part contains_type_arguments contains_placeholder step resolved_paths last_note facts_of fact_index
examples = refl
