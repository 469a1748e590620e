-- Record lists that start over: where the pattern has a placeholder as a name, the fields before it were matched by name, and then all
-- siblings are matched by order. A pair that both parts match need be matched once: in the first part it may be left out, and its comments
-- are noted again.
-- Assumes nothing.
use Rattle.std.specs.Prelude.{ℕ, Bool, cond, not, ◌&&◌, ◌||◌, false, List, [], ◌++◌, Option, Some, None, ltb, length}
use Rattle.syntax.specs.Trees.{Elems, none, token, node}
use Rattle.syntax.specs.Accessors.{some}
use Rattle.syntax.specs.Views.{elems_of}
use Rattle.syntax.specs.declared.parts.Part.{Part}
use Rattle.captures.specs.Attempts.{Event, Attempt, matched, and_then, given, notes_of}
use Rattle.captures.specs.declared.State.{State}
use Rattle.matcher.specs.Matcher.{Matcher, has_placeholder_name}
use Rattle.record_fields.specs.Fields.{pattern_name, is_free}
use Rattle.record_fields.specs.Order.{past, partner, is_same, is_beside}

-- the pattern's siblings by name, up to the first one whose name is a placeholder; those that are matched by order may be left out
abbrev pub field_by_name : Bool → (Elems → Elems → Attempt) → Matcher → Elems → Elems → Elems → Elems → Attempt
field_by_name leaves match x ps cs q d =
    cond (some (pattern_name q)) (and_then (given (is_free x ps q)) (cond (leaves && is_beside x cs q d) (matched []) (match q (partner x cs
    q)))) (matched [])

unfoldable pub by_name : Bool → (Elems → Elems → Attempt) → Matcher → Elems → Elems → Elems → Elems → Attempt
by_name leaves match x ps cs none d = matched []
by_name leaves match x ps cs (token i k s e r) d =
    and_then (field_by_name leaves match x ps cs (token i k s e r) d) (by_name leaves match x ps cs r (past (token i k s e r) d))
by_name leaves match x ps cs (node i k s e ds r) d =
    cond (has_placeholder_name x (node i k s e ds r)) (matched [])
    (and_then (field_by_name leaves match x ps cs (node i k s e ds r) d) (by_name leaves match x ps cs r (past (node i k s e ds r) d)))

-- the comments of those left out
abbrev pub notes_beside : (Elems → Elems → Attempt) → Matcher → Elems → Elems → Elems → List Event
notes_beside match x cs q d = cond (is_beside x cs q d) (notes_of (match q (partner x cs q))) []

unfoldable pub again : (Elems → Elems → Attempt) → Matcher → Elems → Elems → Elems → List Event
again match x cs none d = []
again match x cs (token i k s e r) d = again match x cs r (past (token i k s e r) d)
again match x cs (node i k s e ds r) d =
    cond (has_placeholder_name x (node i k s e ds r)) []
    (notes_beside match x cs (node i k s e ds r) d ++ again match x cs r (past (node i k s e ds r) d))

-- the code's field that was asked for, where one was, is the one that stands here
abbrev pub meets : Option Part → Elems → Bool
meets None c = false
meets (Some f) c = is_same (elems_of f) c

-- no comment changes the buffer: they are only measured, or the room is used up
abbrev pub is_silent : State → List ℕ → Bool
is_silent s out = not s.lays || ltb (length out) s.noted
