-- A placeholder in a token tree, in `attempt_match_token_tree` of docs/src/src/matching.rs: "in a token tree it can match a sequence of
-- tokens", from one element on "until we reach one equal to the next token from our pattern or we reach the end of the token tree".
-- Assumes nothing.
use Rattle.std.specs.Prelude.{ℕ, Bool, true, false, cond, ◌&&◌, List, Option, Some, None, is_some}
use Rattle.syntax.specs.Trees.{Elems, none, token, node}
use Rattle.syntax.specs.Accessors.{rest, text_of, some, first_token}
use Rattle.syntax.specs.Siblings.{kind_of, is_a_node, skip_trivia}
use Rattle.syntax.specs.Views.{elems_of}
use Rattle.syntax.specs.declared.kinds.ElementKind.{ElementKind}
use Rattle.syntax.specs.declared.kinds.ElementKind.TheVariants.{Node, Token}
use Rattle.matcher.specs.Tokens.{same_stop}
use Rattle.token_trees.specs.declared.runs.Run as declared

-- `next_pattern_token`: the first token of the pattern's next element, whose text stops the run
abbrev pub stop_of : Elems → Elems
stop_of ps = first_token (skip_trivia ps)

-- a token of the code, or the first token of a subtree, is the one that stops the run
abbrev pub is_stop : List ℕ → List ℕ → Elems → Elems → Bool
is_stop code text stop c = some stop && some (first_token c) && same_stop (kind_of stop) (text_of code stop) (kind_of (first_token c)) (text_of text (first_token c))

-- Where a run ends: at which kind of element it stops, or none where the siblings end; the last element taken; what is left of the pattern,
-- and of the code, from the stop on.
pub record Run : Type 0 where
  pub stop : Option ElementKind
  pub last : Elems
  pub pattern : Elems
  pub code : Elems

-- it stops at a subtree
abbrev is_node : ElementKind → Bool
is_node Node = true
is_node Token = false

abbrev is_at_node : Option ElementKind → Bool
is_at_node None = false
is_at_node (Some kind) = is_node kind

abbrev pub is_at_tree : Run → Bool
is_at_tree u = is_at_node u.stop

-- The run over siblings after its last element so far. Document 01: "In a token tree, a placeholder's stop text may meet a subtree when the
-- next pattern element is no node: that element is used up and the run goes on."
unfoldable pub run_from : List ℕ → List ℕ → Elems → Elems → Elems → Elems → Run
run_from code text stop last ps none = record { stop = None; last = last; pattern = ps; code = none }
run_from code text stop last ps (token i k s e r) =
    cond (is_stop code text stop (token i k s e r))
    (record { stop = Some Token; last = last; pattern = ps; code = token i k s e r })
    (run_from code text stop (token i k s e r) ps r)
run_from code text stop last ps (node i k s e cs r) =
    cond (is_stop code text stop (node i k s e cs r))
    (cond (is_a_node (skip_trivia ps))
    (record { stop = Some Node; last = last; pattern = ps; code = node i k s e cs r })
    (run_from code text stop (node i k s e cs r) (rest (skip_trivia ps)) r))
    (run_from code text stop (node i k s e cs r) ps r)

-- the run that begins with the first of the code's siblings, where the pattern goes on with some
abbrev pub run : List ℕ → List ℕ → Elems → Elems → Run
run code text ps c = run_from code text (stop_of ps) c ps (rest c)

-- what is left of the pattern behind the run: the element that it stopped at is used up
abbrev pub behind_run : Run → Elems
behind_run u = cond (is_some u.stop) (rest (skip_trivia u.pattern)) u.pattern

-- what the code gives of a run
abbrev pub run_of : declared.Run → Run
run_of u = record { stop = u.stop; last = elems_of u.last; pattern = elems_of u.p; code = elems_of u.c }
