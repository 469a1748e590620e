-- `get_match` of docs/src/src/matching.rs, with `try_match` and `validate_range`. Its first pass never changes the answer, and the ranges of
-- placeholders lie inside the node's, so that the range is looked at once.
-- Assumes nothing.
use Rattle.std.specs.Prelude.{ℕ, ◌+◌, ◌*◌, ◌<◌, Bool, true, ◌&&◌, leb, List, Option, Some, None}
use Rattle.words.specs.declared.texts.Range.{Range}
use Rattle.syntax.specs.Trees.{Elems}
use Rattle.syntax.specs.Accessors.{range_of}
use Rattle.captures.specs.Attempts.{Attempt, and_then, given}
use Rattle.captures.specs.Effects.{nothing, Gives}
use Rattle.captures.specs.declared.State.{State}
use Rattle.matcher.specs.Matcher.{Matcher}
use Rattle.matching.specs.Matching.{match_node}

-- `restrict_range`, where one is given: both ends may be the node's own
abbrev pub is_within : Option Range → Elems → Bool
is_within None c = true
is_within (Some range) c = leb range.start (range_of c).start && leb (range_of c).end range.end

-- `try_match`: the pattern's root, the node, and whether the template's paths can be rendered there
abbrev pub try_match : ℕ → Matcher → Elems → Option Range → Elems → Bool → Attempt
try_match n x root range c renders = and_then (given (is_within range c)) (and_then (match_node n x root c) (given renders))

-- An answer and a buffer are right for it, at each bound that is enough for the words of both trees.
pub record TryGives (x : Matcher) (words : ℕ) (root : Elems) (range : Option Range) (c : Elems) (renders : Bool) (out : List ℕ) (r : Option State) (out' : List ℕ) : Type 0 where
  pub gives : (n : ℕ) → 5 * words + 2 < n → Gives (try_match n x root range c renders) nothing out r out'
