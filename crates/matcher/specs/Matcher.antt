-- `Matcher` of docs/src/src/matching.rs: what matching looks at beside the pattern's node and the code's.
-- Assumes nothing.
use Rattle.std.specs.Prelude.{ℕ, Bool, true, cond, ◌&&◌, List, Option, Some, None, is_some, unwrap_or, option_map, option_and_then, slice_get}
use Rattle.syntax.specs.Trees.{Elems}
use Rattle.syntax.specs.Accessors.{children, number_of, some}
use Rattle.syntax.specs.Siblings.{is_a_node}
use Rattle.syntax.specs.Views.{tree_of}
use Rattle.facts.specs.declared.Call.{Call}
use Rattle.matcher.specs.declared.token_matching.Skip.{Skip}
use Rattle.matcher.specs.declared.Matcher as declared
use Rattle.matcher.specs.declared.marks.Limit.{Limit}
use Rattle.matcher.specs.Marks.{slot_in, path_in, call_in, allows}

-- The rule's text and the file's, the file's tree and facts, the sheet of separators, and what the rule says of the elements of its pattern
-- and of its placeholders, each by number: which placeholder an element is (`get_placeholder`); whether the constraints of a placeholder
-- allow code that is, or is not, a literal; what an element resolves to as a path (`resolved_paths`), and what it is as a call
-- (`ufcs_function_calls`).
pub record Matcher : Type 0 where
  pub code : List ℕ
  pub text : List ℕ
  pub tree : Elems
  pub facts : List ℕ
  pub sheet : List Skip
  pub slot_at : ℕ → Option ℕ
  pub allows : ℕ → Bool → Bool
  pub path_at : ℕ → Option ℕ
  pub call_at : ℕ → Option Call

-- `get_placeholder`, of the first element of a part of the pattern
abbrev pub slot_of : Matcher → Elems → Option ℕ
slot_of x p = x.slot_at (number_of p)

abbrev pub placeholder_of : Matcher → Elems → Option ℕ
placeholder_of x p = cond (some p) (slot_of x p) None

abbrev pub is_placeholder : Matcher → Elems → Bool
is_placeholder x p = is_some (placeholder_of x p)

-- the first element is a node whose first child is one: "If the pattern is using placeholders for field names"
abbrev pub has_placeholder_name : Matcher → Elems → Bool
has_placeholder_name x q = is_a_node q && is_placeholder x (children q)

abbrev pub is_resolved : Option ℕ → Bool
is_resolved path = is_some path

abbrev pub resolution_of : Option ℕ → ℕ
resolution_of path = unwrap_or path 0

-- a call that UFCS may match, its function, and its qualifier type where it has one
abbrev pub is_a_call : Option Call → Bool
is_a_call call = is_some call

abbrev pub function_of : Option Call → ℕ
function_of None = 0
function_of (Some call) = call.function

abbrev pub qualifier_of : Option Call → Option ℕ
qualifier_of None = None
qualifier_of (Some call) = call.qualifier

abbrev pub is_typed : Option Call → Bool
is_typed call = is_some (qualifier_of call)

abbrev pub type_of : Option Call → ℕ
type_of call = unwrap_or (qualifier_of call) 0

-- a placeholder allows what its constraints do; one that there is not allows all
abbrev pub allows_in : List Limit → ℕ → Bool → Bool
allows_in limits slot is_literal = unwrap_or (option_map (λ limit. allows limit is_literal) (slice_get limits slot)) true

-- the matcher that the code's is
abbrev pub matcher_of : declared.Matcher → Matcher
matcher_of x = record {
  code = x.rule.now;
  text = x.file.now;
  tree = tree_of x.tree;
  facts = x.facts.now;
  sheet = x.sheet.now;
  slot_at = λ e. option_and_then slot_in (slice_get x.marks.now e);
  allows = λ slot is_literal. allows_in x.limits slot is_literal;
  path_at = λ e. option_and_then path_in (slice_get x.marks.now e);
  call_at = λ e. option_and_then call_in (slice_get x.marks.now e);
}
