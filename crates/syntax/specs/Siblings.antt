-- Siblings in turn, as matching goes along them: docs/src/src/matching.rs, `PatternIterator` and `is_trivia`.
-- Assumes nothing.
use Rattle.std.specs.Prelude.{ℕ, Bool, cond}
use Rattle.syntax.specs.Trees.{Elems, none, token, node}
use Rattle.syntax.specs.Accessors.{between, node_in, token_in}

-- the syntax kind of the first element; 0 where there is none
abbrev pub kind_of : Elems → ℕ
kind_of none = 0
kind_of (token i k s e r) = k
kind_of (node i k s e cs r) = k

-- "Node kinds: .. to 4,095", "Token kinds: .. to 1,023": the first element is a node, or a token
abbrev pub is_a_node : Elems → Bool
is_a_node c = node_in 1 4095 c

abbrev pub is_a_token : Elems → Bool
is_a_token c = token_in 1 1023 c

-- "2 WHITESPACE, 3 COMMENT (2 and 3 are trivia)"
abbrev pub is_trivia : Elems → Bool
is_trivia c = token_in 2 3 c

abbrev pub is_comment : Elems → Bool
is_comment c = token_in 3 3 c

-- what is left behind the tokens of some kinds that siblings begin with
unfoldable pub skip_tokens : ℕ → ℕ → Elems → Elems
skip_tokens low high none = none
skip_tokens low high (token i k s e r) = cond (between low high k) (skip_tokens low high r) (token i k s e r)
skip_tokens low high (node i k s e cs r) = node i k s e cs r

-- `PatternIterator::next` finds the next element that is no trivia
abbrev pub skip_trivia : Elems → Elems
skip_trivia c = skip_tokens 2 3 c
