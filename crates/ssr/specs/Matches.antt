-- What matching answers in numbers.
-- Assumes nothing.
use Rattle.std.specs.Prelude.{ℕ, cond, not, map, eqb, replicate, Option, Some, None, Result, Ok, Err}
use Rattle.errors.specs.declared.Refusal.{Refusal}
use Rattle.errors.specs.Refusals.{number_of}
use Rattle.words.specs.declared.texts.Range.{Range}
use Rattle.captures.specs.declared.Binding.{Binding}
use Rattle.captures.specs.Effects.{kind_number}
use Rattle.answers.specs.declared.NodeMatch.{NodeMatch}
use Rattle.ssr.specs.declared.match_answers.BoundPlaceholder.{BoundPlaceholder}
use Rattle.ssr.specs.declared.match_answers.MatchedNode.{MatchedNode}

-- a range that is given unless the flag is 0
abbrev pub restriction : ℕ → ℕ → ℕ → Option Range
restriction given start end = cond (not (eqb given 0)) (Some (record { start = start; end = end })) None

-- a binding: whether it is bound, its bytes, its stars and its self kind
abbrev pub bound_numbers : Option Binding → BoundPlaceholder
bound_numbers None = record { bound = 0; start = 0; end = 0; stars = 0; self_kind = 0 }
bound_numbers (Some b) = record { bound = 1; start = b.start; end = b.end; stars = b.stars; self_kind = kind_number b.self_kind }

-- matching one node: 01's number, whether there is a match, how many bytes its comments have, and the bindings
abbrev pub nothing_matched : ℕ → MatchedNode
nothing_matched refusal = record { refusal = refusal; matched = 0; length = 0; bindings = replicate 8 (bound_numbers None) }

abbrev pub node_matched : Result (Option NodeMatch) Refusal → MatchedNode
node_matched (Err r) = nothing_matched (number_of r)
node_matched (Ok None) = nothing_matched 0
node_matched (Ok (Some m)) = record { refusal = 0; matched = 1; length = m.comments_length; bindings = map bound_numbers m.bindings }
