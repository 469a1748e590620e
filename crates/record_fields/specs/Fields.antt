-- The names of record fields, for `attempt_match_record_field_list` of docs/src/src/matching.rs. Its map `fields_by_name` has for each name
-- the last field of the code; a name is removed when a field of the pattern asks for it, so that it is found once; and none may be left.
-- Assumes nothing.
use Rattle.std.specs.Prelude.{ℕ, ◌≡◌, Bool, true, false, cond, not, ◌&&◌, ◌||◌, List, Option, Some, None, ltb}
use Rattle.syntax.specs.Trees.{Elems, none, token, node}
use Rattle.syntax.specs.Accessors.{children, number_of, text_of, some, node_in, only_ident, or_else}
use Rattle.syntax.specs.Siblings.{kind_of, is_a_node}
use Rattle.syntax.specs.Views.{elems_of, IsWithin}
use Rattle.matcher.specs.Matcher.{Matcher}
use Rattle.matcher.specs.Tokens.{same_name}
use Rattle.matcher.specs.FileFacts.{name_token}
use Rattle.matcher.specs.declared.token_matching.TokenText.{TokenText}
use Rattle.matcher.specs.declared.Siblings.{Siblings}
use Rattle.record_fields.specs.declared.Field.{Field}
use Rattle.record_fields.specs.declared.Field.TheVariants.{Unnamed, Taken, Last}

-- `only_ident(name_element)`: the lone IDENT that the first child of a pattern's node is or holds
abbrev pub pattern_name : Elems → Elems
pattern_name q = cond (is_a_node q) (only_ident (children q)) none

-- the first of the pattern's siblings has a name, given by kind and text; one of them has; one of those before the element of a number has
abbrev pub has_name : Matcher → ℕ → List ℕ → Elems → Bool
has_name x k t q = some (pattern_name q) && same_name (kind_of (pattern_name q)) (text_of x.code (pattern_name q)) k t

unfoldable pub is_named : Matcher → ℕ → List ℕ → Elems → Bool
is_named x k t none = false
is_named x k t (token i k' s e r) = has_name x k t (token i k' s e r) || is_named x k t r
is_named x k t (node i k' s e cs r) = has_name x k t (node i k' s e cs r) || is_named x k t r

unfoldable pub is_taken : Matcher → ℕ → ℕ → List ℕ → Elems → Bool
is_taken x number k t none = false
is_taken x number k t (token i k' s e r) = ltb i number && (has_name x k t (token i k' s e r) || is_taken x number k t r)
is_taken x number k t (node i k' s e cs r) = ltb i number && (has_name x k t (node i k' s e cs r) || is_taken x number k t r)

-- `RecordExprField::cast` and `field_name`: the name of the first of the code's siblings; none where it is no field or has no name
abbrev pub field_name : Matcher → Elems → Elems
field_name x c = cond (node_in 9 9 c) (name_token x.facts x.tree (number_of c)) none

abbrev pub is_field : Matcher → ℕ → List ℕ → Elems → Bool
is_field x k t c = some (field_name x c) && same_name k t (kind_of (field_name x c)) (text_of x.text (field_name x c))

-- the last field of a name
unfoldable pub last_field : Matcher → ℕ → List ℕ → Elems → Elems
last_field x k t none = none
last_field x k t (token i k' s e r) = last_field x k t r
last_field x k t (node i k' s e cs r) = or_else (last_field x k t r) (cond (is_field x k t (node i k' s e cs r)) (node i k' s e cs r) none)

-- every field that has a name is named by one of the pattern's siblings, so that none is left in the map
abbrev pub is_asked : Matcher → Elems → Elems → Bool
is_asked x ps c = not (some (field_name x c)) || is_named x (kind_of (field_name x c)) (text_of x.text (field_name x c)) ps

unfoldable pub are_asked : Matcher → Elems → Elems → Bool
are_asked x ps none = true
are_asked x ps (token i k s e r) = is_asked x ps (token i k s e r) && are_asked x ps r
are_asked x ps (node i k s e cs r) = is_asked x ps (node i k s e cs r) && are_asked x ps r

-- `fields_by_name.remove(ident.text())`, of one of the pattern's siblings: its name was not removed before, and the code's field of that name
abbrev pub is_free : Matcher → Elems → Elems → Bool
is_free x ps q = not (is_taken x (number_of q) (kind_of (pattern_name q)) (text_of x.code (pattern_name q)) ps)

abbrev pub field_for : Matcher → Elems → Elems → Elems
field_for x q cs = last_field x (kind_of (pattern_name q)) (text_of x.code (pattern_name q)) cs

-- the name that a token is, in a text; none where there is no token
abbrev pub NameIs : List ℕ → Elems → Option TokenText → Type 0
NameIs text c None = some c ≡ false
NameIs text c (Some name) = (some c ≡ true) × (name.kind ≡ kind_of c) × (name.text.now ≡ text_of text c)

-- what the code gives of one of the pattern's siblings
abbrev pub FieldIs : Matcher → Siblings → Elems → Field → Type 0
FieldIs x lists q Unnamed = some (pattern_name q) ≡ false
FieldIs x lists q Taken = (some (pattern_name q) ≡ true) × (is_free x (elems_of lists.p) q ≡ false)
FieldIs x lists q (Last c) =
    (some (pattern_name q) ≡ true) × (is_free x (elems_of lists.p) q ≡ true) × (elems_of c ≡ field_for x q (elems_of lists.c)) × IsWithin c lists.c
