-- `attempt_match_record_field_list` of docs/src/src/matching.rs, over what is left of the pattern's siblings, with all siblings of the
-- pattern and of the code, how a field of the pattern is matched with one of the code, and how both lists are matched by order.
-- Assumes nothing.
use Rattle.std.specs.Prelude.{cond}
use Rattle.syntax.specs.Trees.{Elems, none, token, node}
use Rattle.syntax.specs.Accessors.{some}
use Rattle.captures.specs.Attempts.{Attempt, and_then, given}
use Rattle.matcher.specs.Matcher.{Matcher, has_placeholder_name}
use Rattle.record_fields.specs.Fields.{pattern_name, are_asked, is_free, field_for}

-- one of the pattern's siblings, with what comes of those behind it: "If the pattern is using placeholders for field names then order
-- independence doesn't make sense. Fall back to regular ordered matching."; one without a name is skipped
abbrev pub match_field : (Elems → Elems → Attempt) → Attempt → Matcher → Elems → Elems → Elems → Attempt → Attempt
match_field match inOrder x ps cs q next =
    cond (has_placeholder_name x q) inOrder
    (cond (some (pattern_name q)) (and_then (given (is_free x ps q)) (and_then (match q (field_for x q cs)) next)) next)

unfoldable pub match_fields : (Elems → Elems → Attempt) → Attempt → Matcher → Elems → Elems → Elems → Attempt
match_fields match inOrder x ps cs none = given (are_asked x ps cs)
match_fields match inOrder x ps cs (token i k s e r) = match_field match inOrder x ps cs (token i k s e r) (match_fields match inOrder x ps cs r)
match_fields match inOrder x ps cs (node i k s e ds r) = match_field match inOrder x ps cs (node i k s e ds r) (match_fields match inOrder x ps cs r)
