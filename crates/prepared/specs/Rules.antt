-- The matcher of a rule, and what the code prepares of it.
-- Assumes nothing.
use Rattle.std.specs.Prelude.{ℕ, ◌≡◌, Bool, List, slice_get, option_and_then}
use Rattle.parsing.specs.Reading.{Var}
use Rattle.syntax.specs.Trees.{Elems}
use Rattle.paths.specs.Steps.{Side}
use Rattle.paths.specs.Resolved.{path_at, call_at}
use Rattle.matcher.specs.declared.token_matching.Skip.{Skip}
use Rattle.matcher.specs.declared.marks.Mark.{Mark}
use Rattle.matcher.specs.declared.marks.Limit.{Limit}
use Rattle.matcher.specs.Marks.{slot_in, path_in, call_in}
use Rattle.matcher.specs.Matcher.{Matcher, allows_in}
use Rattle.prepared.specs.Placeholders.{placeholder_at, all_hold, constraints_of, has_remainder}

-- the rule's pattern, its tree, the file's text, tree and facts, and the sheet
abbrev pub matcher_for : Side → Elems → List ℕ → Elems → List ℕ → List Skip → Matcher
matcher_for x root text tree facts sheet = record {
  code = x.code;
  text = text;
  tree = tree;
  facts = facts;
  sheet = sheet;
  slot_at = λ e. placeholder_at x root e;
  allows = λ slot isLiteral. all_hold (constraints_of x.placeholders.vars slot) isLiteral;
  path_at = λ e. path_at x root e;
  call_at = λ e. call_at x root e;
}

-- a mark says of an element of the pattern what the rule says
pub record Says (x : Side) (root : Elems) (e : ℕ) (m : Mark) : Type 0 where
  pub slot : slot_in m ≡ placeholder_at x root e
  pub path : path_in m ≡ path_at x root e
  pub call : call_in m ≡ call_at x root e

-- the marks say of every element of the pattern what the rule says
pub record Marked (x : Side) (root : Elems) (marks : List Mark) : Type 0 where
  pub slots : (e : ℕ) → option_and_then slot_in (slice_get marks e) ≡ placeholder_at x root e
  pub paths : (e : ℕ) → option_and_then path_in (slice_get marks e) ≡ path_at x root e
  pub calls : (e : ℕ) → option_and_then call_in (slice_get marks e) ≡ call_at x root e

-- the limit of constraints: a literal is wanted by one with an even number of `not`s, another thing by one with an odd number
abbrev pub limit_of : List ℕ → Limit
limit_of constraints = record { literal = has_remainder 0 constraints; other = has_remainder 1 constraints }

-- the limits say of every placeholder what its constraints allow
abbrev pub Limited : List Var → List Limit → Type 0
Limited vars limits = (slot : ℕ) (isLiteral : Bool) → allows_in limits slot isLiteral ≡ all_hold (constraints_of vars slot) isLiteral
