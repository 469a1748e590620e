-- Closed examples of texts in a room, by computation.
-- Assumes nothing.
use mathlib.Core.Path.{◌≡◌, refl}
use mathlib.Core.Bool.{true, false, cond}
use mathlib.Core.List.{List, [], ◌∷◌, ◌++◌, map}
use Prim.Native.Nat.{ℕ}
use lib.Dec.{eqb}
use Rattle.words.specs.Texts.{part}
use Rattle.syntax.specs.Trees.{Elems, none, node}
use Rattle.syntax.specs.Accessors.{or_else, element_at}
use Rattle.captures.specs.declared.Binding.{Binding}
use Rattle.captures.specs.declared.SelfKind.{SelfKind}
use Rattle.captures.specs.declared.SelfKind.TheVariants.{Owned, Ref, RefMut}
use Rattle.parses.specs.Ranges.{NodeRange}
use Rattle.parses.specs.Parses.{Parse}
use Rattle.parentheses.specs.Parentheses.{has_range, requires}
use Rattle.nester.specs.Matches.{Match}
use Rattle.nester.specs.Nest.{Nest, none as no_match, kept, start_at, end_at}
use Rattle.nester.specs.Places.{Item, before, insert, items}
use Rattle.std.specs.Prelude.{Option, None, Some, Result, Ok, Err}
use Rattle.rendering.specs.Events.{Event, Unbound, NoRoom, Asked, Text, ◌and_then◌, in_turn}
use Rattle.rendering.specs.Texts.{Fragment, fixed, captured, Setting, enclosed_each, parts_of, filled, rendered}

-- ---- what the examples are made of

-- the elements 1 and 2 of a file, by their ranges
abbrev tree : ℕ → ℕ → ℕ → ℕ → Elems
tree s e s' e' = node 0 64 0 e' (node 1 64 s e none (node 2 64 s' e' none none)) none

abbrev range : ℕ → ℕ → NodeRange
range s e = record { start = s; end = e }

-- a captured range with its stars and its self kind, and one without
abbrev taken : ℕ → ℕ → ℕ → SelfKind → Option Binding
taken s e stars kind = Some (record { start = s; end = e; stars = stars; self_kind = kind })

abbrev plain : ℕ → ℕ → Option Binding
plain s e = taken s e 0 Owned

-- a match by rule 0 with its captured ranges, the matches nested in the first of them, and its comments
abbrev outer : List (Option Binding) → Nest → List ℕ → Nest
outer bs inner comments =
    kept (record { node = 0; rule = 0; bindings = bs; comments = comments }) (λ k. cond (eqb k 0) inner no_match) no_match

-- one without comments
abbrev through : List (Option Binding) → Nest → Nest
through bs inner = outer bs inner []

-- a match by rule 1, which captures nothing, and others
abbrev nested : ℕ → Nest → Nest
nested n others = kept (record { node = n; rule = 1; bindings = []; comments = [] }) (λ k. no_match) others

record Example : Type 0 where
  tree : Elems
  setting : Setting
  matches : Nest
  room : ℕ
  outcome : Result (List ℕ) Event

-- a file with its elements, the templates of the two rules, and the kind of their roots
record Given : Type 0 where
  tree : Elems
  file : List ℕ
  templates : Match → List Fragment
  kind : ℕ

abbrev given : Elems → List ℕ → List Fragment → List Fragment → ℕ → Given
given t file a b kind = record { tree = t; file = file; templates = λ m. cond (eqb m.rule 0) a b; kind = kind }

abbrev setting_of : Given → List Parse → Setting
setting_of g parses =
    record {
      file = g.file;
      start_of = start_at g.tree;
      end_of = end_at g.tree;
      fragments = g.templates;
      kind = λ m. g.kind;
      parses = parses;
    }

abbrev example : Given → List Parse → Nest → ℕ → Result (List ℕ) Event → Example
example g parses matches room outcome =
    record { tree = g.tree; setting = setting_of g parses; matches = matches; room = room; outcome = outcome }

abbrev parsed : ℕ → List ℕ → List NodeRange → Parse
parsed kind text ranges = record { kind = kind; text = text; ranges = ranges }

-- ---- K: `foo($a) ==>> $a.bar()` on `foo(x + y)`

abbrev call_of : ℕ → Given
call_of kind =
    given none (102 ∷ 111 ∷ 111 ∷ 40 ∷ 120 ∷ 32 ∷ 43 ∷ 32 ∷ 121 ∷ 41 ∷ [])
    (captured 0 true ∷ fixed (46 ∷ 98 ∷ 97 ∷ 114 ∷ 40 ∷ 41 ∷ []) ∷ []) [] kind

-- `x + y.bar()`
abbrev split : List ℕ
split = 120 ∷ 32 ∷ 43 ∷ 32 ∷ 121 ∷ 46 ∷ 98 ∷ 97 ∷ 114 ∷ 40 ∷ 41 ∷ []

-- its parse, where `x + y` is no node
abbrev split_parse : List Parse
split_parse = parsed 65 split (range 0 11 ∷ range 0 1 ∷ range 4 11 ∷ range 4 5 ∷ []) ∷ []

-- `(x + y).bar()`
abbrev whole : List ℕ
whole = 40 ∷ 120 ∷ 32 ∷ 43 ∷ 32 ∷ 121 ∷ 41 ∷ 46 ∷ 98 ∷ 97 ∷ 114 ∷ 40 ∷ 41 ∷ []

-- `/*c*/`
abbrev comment : List ℕ
comment = 47 ∷ 42 ∷ 99 ∷ 42 ∷ 47 ∷ []

abbrev whole_and_comment : List ℕ
whole_and_comment = 40 ∷ 120 ∷ 32 ∷ 43 ∷ 32 ∷ 121 ∷ 41 ∷ 46 ∷ 98 ∷ 97 ∷ 114 ∷ 40 ∷ 41 ∷ 47 ∷ 42 ∷ 99 ∷ 42 ∷ 47 ∷ []

abbrev sum : List ℕ → Nest
sum comments = outer (plain 4 9 ∷ []) no_match comments

abbrev receivers : List Example
receivers =
    example (call_of 65) split_parse (sum []) 13 (Ok whole)
    ∷ example (call_of 65) split_parse (sum []) 12 (Err NoRoom)
    -- Asked without the parse, once the first rendering is laid
    ∷ example (call_of 65) [] (sum []) 11 (Err (Asked 65 split))
    ∷ example (call_of 65) [] (sum []) 10 (Err NoRoom)
    -- a parse of another kind is none
    ∷ example (call_of 66) split_parse (sum []) 13 (Err (Asked 66 split))
    -- `x + y` is a node, or the text does not parse
    ∷ example (call_of 65) (parsed 65 split (range 0 5 ∷ []) ∷ []) (sum []) 11 (Ok split)
    ∷ example (call_of 65) (parsed 65 split [] ∷ []) (sum []) 11 (Ok split)
    -- kinds of expressions and items are asked for, others never
    ∷ example (call_of 2047) [] (sum []) 11 (Err (Asked 2047 split))
    ∷ example (call_of 2048) [] (sum []) 11 (Ok split)
    ∷ example (call_of 63) [] (sum []) 11 (Ok split)
    -- comments stand behind the second rendering, and in no text that is asked for
    ∷ example (call_of 65) split_parse (sum comment) 18 (Ok whole_and_comment)
    ∷ example (call_of 65) split_parse (sum comment) 17 (Err NoRoom)
    ∷ example (call_of 65) [] (sum comment) 11 (Err (Asked 65 split))
    ∷ []

-- ---- M: `S::f($s) ==>> h($s)` and `old() ==>> new2()` on `old().f()`

-- `new2()`
abbrev new_text : List ℕ
new_text = 110 ∷ 101 ∷ 119 ∷ 50 ∷ 40 ∷ 41 ∷ []

abbrev method_call : Given
method_call =
    given (tree 0 5 5 9) (111 ∷ 108 ∷ 100 ∷ 40 ∷ 41 ∷ 46 ∷ 102 ∷ 40 ∷ 41 ∷ [])
    (fixed (104 ∷ 40 ∷ []) ∷ captured 0 false ∷ fixed (41 ∷ []) ∷ []) (fixed new_text ∷ []) 64

abbrev new_parse : Parse
new_parse = parsed 64 new_text (range 0 6 ∷ [])

-- `h(&new2())`
abbrev holder_text : List ℕ
holder_text = 104 ∷ 40 ∷ 38 ∷ 110 ∷ 101 ∷ 119 ∷ 50 ∷ 40 ∷ 41 ∷ 41 ∷ []

abbrev holder_parse : Parse
holder_parse = parsed 64 holder_text (range 0 10 ∷ range 2 9 ∷ range 3 9 ∷ [])

-- self by `&`
abbrev by_ref : Nest
by_ref = through (taken 0 5 0 Ref ∷ []) (nested 1 no_match)

abbrev nested_texts : List Example
nested_texts =
    example method_call (new_parse ∷ holder_parse ∷ []) by_ref 10 (Ok holder_text)
    ∷ example method_call (new_parse ∷ holder_parse ∷ []) by_ref 9 (Err NoRoom)
    -- the nested text is asked for first, behind `h(&`
    ∷ example method_call [] by_ref 9 (Err (Asked 64 new_text))
    ∷ example method_call [] by_ref 8 (Err NoRoom)
    ∷ example method_call (new_parse ∷ []) by_ref 10 (Err (Asked 64 holder_text))
    ∷ []

-- ---- `<$a>$a`, the second a receiver, with `o ==>> nn` nested in it, on `o+x+o`; the template is a statement's

abbrev statement : Given
statement =
    given (tree 0 1 4 5) (111 ∷ 43 ∷ 120 ∷ 43 ∷ 111 ∷ [])
    (fixed (60 ∷ []) ∷ captured 0 false ∷ fixed (62 ∷ []) ∷ captured 0 true ∷ []) (fixed (110 ∷ 110 ∷ []) ∷ []) 2048

-- both nested; the first one; the first one, with `&mut ` and two stars
abbrev both_new : List ℕ
both_new = 60 ∷ 110 ∷ 110 ∷ 43 ∷ 120 ∷ 43 ∷ 110 ∷ 110 ∷ 62 ∷ 110 ∷ 110 ∷ 43 ∷ 120 ∷ 43 ∷ 110 ∷ 110 ∷ []

abbrev first_new : List ℕ
first_new = 60 ∷ 110 ∷ 110 ∷ 43 ∷ 120 ∷ 43 ∷ 111 ∷ 62 ∷ 110 ∷ 110 ∷ 43 ∷ 120 ∷ 43 ∷ 111 ∷ []

abbrev prefixed : List ℕ
prefixed = 60 ∷ 38 ∷ 109 ∷ 117 ∷ 116 ∷ 32 ∷ 42 ∷ 42 ∷ 110 ∷ 110 ∷ 43 ∷ 120 ∷ 43 ∷ 111 ∷ 62 ∷ 110 ∷ 110 ∷ 43 ∷ 120 ∷ 43 ∷ 111 ∷ []

abbrev places : List Example
places =
    -- nested texts stand in the order of the file, whichever is kept first, each in place of its range, at both uses of the placeholder
    example statement [] (through (plain 0 5 ∷ []) (nested 2 (nested 1 no_match))) 16 (Ok both_new)
    ∷ example statement [] (through (plain 0 5 ∷ []) (nested 1 (nested 2 no_match))) 16 (Ok both_new)
    ∷ example statement [] (through (plain 0 5 ∷ []) (nested 1 no_match)) 14 (Ok first_new)
    -- the prefix stands in front of the whole text, but not for a receiver
    ∷ example statement [] (through (taken 0 5 2 RefMut ∷ []) (nested 1 no_match)) 21 (Ok prefixed)
    ∷ []

-- ---- `k $b$a`, where `$a` is the first placeholder in the pattern, on `x`

abbrev spaced : Given
spaced =
    given (tree 0 1 1 1) (120 ∷ []) (fixed (107 ∷ 32 ∷ []) ∷ captured 1 false ∷ captured 0 false ∷ []) (fixed (110 ∷ 110 ∷ []) ∷ []) 64

abbrev unbound_ones : List Example
unbound_ones =
    -- the first event ends it: `$b` unbound before the nested text of `$a` is asked for
    example spaced [] (through (plain 0 1 ∷ None ∷ []) (nested 1 no_match)) 2 (Err Unbound)
    ∷ example spaced [] (through (plain 0 1 ∷ None ∷ []) (nested 1 no_match)) 1 (Err NoRoom)
    ∷ example spaced [] (through (plain 0 1 ∷ plain 1 1 ∷ []) (nested 1 no_match)) 4 (Err (Asked 64 (110 ∷ 110 ∷ [])))
    ∷ []

-- ---- `$s?` on `x`, self by `&`: `&x?` is `&` before `x?`

abbrev tried : Given
tried = given none (120 ∷ []) (captured 0 false ∷ fixed (63 ∷ []) ∷ []) [] 70

abbrev tried_parse : List Parse
tried_parse = parsed 70 (38 ∷ 120 ∷ 63 ∷ []) (range 0 3 ∷ range 1 3 ∷ range 1 2 ∷ []) ∷ []

abbrev prefixes : List Example
prefixes =
    -- the prefix stands inside the parentheses
    example tried tried_parse (through (taken 0 1 0 Ref ∷ []) no_match) 5 (Ok (40 ∷ 38 ∷ 120 ∷ 41 ∷ 63 ∷ []))
    ∷ []

-- ---- `$a$b` before `k`, both empty: one pair of parentheses

abbrev two_empty : Given
two_empty = given none (107 ∷ []) (captured 0 false ∷ captured 1 false ∷ fixed (107 ∷ []) ∷ []) [] 64

abbrev both_empty : Nest
both_empty = through (plain 0 0 ∷ plain 0 0 ∷ []) no_match

abbrev empties : List Example
empties =
    example two_empty (parsed 64 (107 ∷ []) (range 0 1 ∷ []) ∷ []) both_empty 3 (Ok (40 ∷ 41 ∷ 107 ∷ []))
    ∷ example two_empty (parsed 64 (107 ∷ []) (range 0 1 ∷ []) ∷ []) both_empty 2 (Err NoRoom)
    ∷ example two_empty (parsed 64 (107 ∷ []) (range 0 1 ∷ range 0 0 ∷ []) ∷ []) both_empty 1 (Ok (107 ∷ []))
    ∷ []

-- ---- the table

abbrev examples : List Example
examples = receivers ++ nested_texts ++ places ++ unbound_ones ++ prefixes ++ empties

abbrev outcomes_of : List (Item Text) → ℕ → List (Result (List ℕ) Event)
outcomes_of xs room = map (λ (x : Item Text). x.what room) xs

-- every text comes out in its room as the table says
answered : map (λ (e : Example). outcomes_of (items e.tree (rendered e.setting) e.matches) e.room) examples
    ≡ map (λ (e : Example). e.outcome ∷ []) examples
unfolding part or_else element_at has_range requires before insert items ◌and_then◌ in_turn enclosed_each parts_of filled
answered = refl
