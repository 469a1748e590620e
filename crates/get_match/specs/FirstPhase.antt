-- What the first phase says of two nodes, and of siblings: that no number of calls gives a match. These are promises between functions; what
-- a match is, `Matching.antt` alone says.
-- Assumes nothing.
use Rattle.std.specs.Prelude.{◌≡◌, ℕ, ◌<◌, true, false, Option, Some, None, length}
use Rattle.syntax.specs.Trees.{Elems}
use Rattle.syntax.specs.Accessors.{children, node_in}
use Rattle.syntax.specs.Siblings.{is_a_node}
use Rattle.syntax.specs.Views.{elems_of}
use Rattle.syntax.specs.declared.kinds.Kinds.{Kinds}
use Rattle.syntax.specs.declared.parts.Part.{Part}
use Rattle.captures.specs.Attempts.{failed}
use Rattle.matcher.specs.Matcher.{Matcher}
use Rattle.matching.specs.Matching.{match_node, match_by_kind, match_sequences}
use Rattle.get_match.specs.declared.first_phase.checking.Check.{Check}
use Rattle.get_match.specs.declared.first_phase.checking.Check.TheVariants.{Fails, Below, Passes}
use Rattle.matcher.specs.declared.Siblings.{Siblings}

pub record NodeFails (x : Matcher) (p c : Elems) : Type 0 where
  pub fails : (n : ℕ) → match_node n x p c ≡ failed

pub record KindFails (x : Matcher) (p c : Elems) : Type 0 where
  pub fails : (n : ℕ) → match_by_kind n x p c ≡ failed

pub record SiblingsFail (x : Matcher) (p c : Elems) : Type 0 where
  pub fails : (n : ℕ) → match_sequences n x p c ≡ failed

-- something fails if siblings do
pub record FailsIf (x : Matcher) (p c : Elems) (Whole : Type 0) : Type 0 where
  pub whole : SiblingsFail x p c → Whole

-- what a check says of two nodes, and of two of one kind: they fail, or they do if their children do
abbrev pub NodesCheck : Matcher → Elems → Elems → Check → Type 0
NodesCheck x p c Fails = NodeFails x p c
NodesCheck x p c Below = FailsIf x (children p) (children c) (NodeFails x p c)
NodesCheck x p c Passes = Unit {0}

abbrev pub KindCheck : Matcher → Elems → Elems → Check → Type 0
KindCheck x p c Fails = KindFails x p c
KindCheck x p c Below = FailsIf x (children p) (children c) (KindFails x p c)
KindCheck x p c Passes = Unit {0}

-- what a turn says of siblings: they fail, or they do if those that it leaves do, which are fewer
abbrev pub TurnChecks : Matcher → Part → Part → Option Siblings → Type 0
TurnChecks x p c None = SiblingsFail x (elems_of p) (elems_of c)
TurnChecks x p c (Some t) = FailsIf x (elems_of t.p) (elems_of t.c) (SiblingsFail x (elems_of p) (elems_of c)) × (length t.c.words.now < length c.words.now)

-- kinds hold all nodes that a pattern's node can match
pub record HoldAll (x : Matcher) (p : Elems) (kinds : Kinds) : Type 0 where
  pub others : (c : Elems) → is_a_node c ≡ true → node_in kinds.low kinds.high c ≡ false → NodeFails x p c
