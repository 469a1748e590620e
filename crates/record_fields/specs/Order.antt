-- Where the fields of two record lists stand beside each other by order, for `attempt_match_record_field_list` of docs/src/src/matching.rs: "If
-- the pattern is using placeholders for field names then order independence doesn't make sense. Fall back to regular ordered matching."
-- Assumes nothing.
use Rattle.std.specs.Prelude.{◌≡◌, Bool, true, false, cond, not, ◌&&◌, ◌||◌, Option, Some, None, eqb}
use Rattle.syntax.specs.Trees.{Elems, none, token, node}
use Rattle.syntax.specs.Accessors.{rest, some, number_of}
use Rattle.syntax.specs.Siblings.{is_a_node, is_a_token, skip_tokens}
use Rattle.syntax.specs.Views.{elems_of, IsWithin}
use Rattle.syntax.specs.declared.parts.Part.{Part}
use Rattle.matcher.specs.Matcher.{Matcher, has_placeholder_name}
use Rattle.record_fields.specs.Fields.{pattern_name, field_for}
use Rattle.matcher.specs.declared.Siblings.{Siblings}

-- one of the pattern's siblings has a placeholder as its name
unfoldable pub starts_over : Matcher → Elems → Bool
starts_over x none = false
starts_over x (token i k s e r) = starts_over x r
starts_over x (node i k s e ds r) = has_placeholder_name x (node i k s e ds r) || starts_over x r

-- By order, siblings that are no tokens stand beside each other: the next one, and what is left of the code behind one of the pattern's
-- siblings.
abbrev pub next : Elems → Elems
next d = skip_tokens 1 1023 d

abbrev pub past : Elems → Elems → Elems
past q d = cond (is_a_token q) d (rest (next d))

-- the code's field of the name that one of the pattern's siblings has
abbrev pub partner : Matcher → Elems → Elems → Elems
partner x cs q = field_for x q cs

-- it has a name, and the code's field of that name is the one that stands beside it
abbrev pub is_same : Elems → Elems → Bool
is_same a b = some a && some b && eqb (number_of a) (number_of b)

abbrev pub is_beside : Matcher → Elems → Elems → Elems → Bool
is_beside x cs q d = some (pattern_name q) && is_same (partner x cs q) (next d)

-- the code's field that the pattern's sibling q asks for by its name, where both it and the code's sibling c are matched by order and no name
-- was a placeholder
abbrev pub asks : Bool → Elems → Elems → Bool
asks on q c = on && is_a_node q && not (is_a_token c) && some (pattern_name q)

abbrev pub AsksFor : Bool → Matcher → Siblings → Elems → Elems → Option Part → Type 0
AsksFor on x lists q c None = asks on q c ≡ false
AsksFor on x lists q c (Some f) = (asks on q c ≡ true) × (elems_of f ≡ partner x (elems_of lists.c) q) × IsWithin f lists.c
