-- Facts, document 01, "Words": "Fact, one list per tree: a kind 9 word (4 bits sort, 24 bits element), then three kind 10 values, unused
-- ones 0." Each definition has its sentence from there, or from refusal 21.
-- Assumes nothing.
use Rattle.std.specs.Prelude.{ℕ, ◌+◌, ◌-◌, ◌<◌, ◌≡◌, Bool, true, false, cond, not, ◌&&◌, ◌||◌, List, [], ◌∷◌, eqb, leb, ltb, length, slice_get, Option, Some, None, Result, MatchResult}
use Rattle.words.specs.Fields.{kind_at, value_at, fact_sort, fact_element}
use Rattle.syntax.specs.Trees.{Elems}
use Rattle.syntax.specs.Accessors.{children, element_at, node_in, token_in}
use Rattle.facts.specs.declared.Owner.{Owner}
use Rattle.facts.specs.declared.Owner.TheVariants.{File, Pattern, Template}
use Rattle.facts.specs.declared.Sort.{Sort}
use Rattle.facts.specs.declared.Sort.TheVariants.{CodePath, RulePath, MethodCall, Expression, PatternPath, RecordField, Node, TemplatePath}
use Rattle.facts.specs.declared.UnknownSort.{UnknownSort}
pub use Rattle.facts.specs.declared.Fact.{Fact}

-- "4 bits sort": the sorts and their numbers
abbrev pub sort_number : Sort → ℕ
sort_number CodePath = 0
sort_number RulePath = 1
sort_number MethodCall = 2
sort_number Expression = 3
sort_number PatternPath = 4
sort_number RecordField = 5
sort_number Node = 6
sort_number TemplatePath = 7

-- the sort that has a number, or that none has it
abbrev pub NumbersSort : ℕ → Result Sort UnknownSort → Type 0
NumbersSort number r = MatchResult r (λ sort. sort_number sort ≡ number) (λ e. (e.0 ≡ number) × (7 < number))

-- the fact that a part begins with
abbrev pub fact_at : List ℕ → Fact
fact_at l = record { sort = fact_sort l; element = fact_element l; first = value_at l 1; second = value_at l 2; third = value_at l 3 }

-- the facts of a list of words, four to a fact
unfoldable pub facts_of : List ℕ → List Fact
facts_of [] = []
facts_of (a ∷ []) = []
facts_of (a ∷ (b ∷ [])) = []
facts_of (a ∷ (b ∷ (c ∷ []))) = []
facts_of (a ∷ (b ∷ (c ∷ (d ∷ l)))) = fact_at (a ∷ b ∷ c ∷ d ∷ l) ∷ facts_of l

-- "a kind 9 word .., then three kind 10 values"
abbrev pub is_fact_part : List ℕ → Bool
is_fact_part l = eqb (kind_at l 0) 9 && eqb (kind_at l 1) 10 && eqb (kind_at l 2) 10 && eqb (kind_at l 3) 10

unfoldable pub are_fact_words : List ℕ → Bool
are_fact_words [] = true
are_fact_words (a ∷ []) = false
are_fact_words (a ∷ (b ∷ [])) = false
are_fact_words (a ∷ (b ∷ (c ∷ []))) = false
are_fact_words (a ∷ (b ∷ (c ∷ (d ∷ l)))) = is_fact_part (a ∷ b ∷ c ∷ d ∷ l) && are_fact_words l

-- "Sorts 1, 4 and 7 stand on rule trees, the others on the file's"; "4 pattern path", "7 template path"
abbrev pub allows : Owner → ℕ → Bool
allows File sort = eqb sort 0 || eqb sort 2 || eqb sort 3 || eqb sort 5 || eqb sort 6
allows Pattern sort = eqb sort 1 || eqb sort 4
allows Template sort = eqb sort 1 || eqb sort 7

-- "each at an element of the kind it names (6 at any node)": 2 method call, 3 expression, 5 record field, 0, 1, 4 and 7 path
abbrev pub low_kind : ℕ → ℕ
low_kind sort = cond (eqb sort 2) 65 (cond (eqb sort 3) 64 (cond (eqb sort 5) 9 (cond (eqb sort 6) 1 2)))

abbrev pub high_kind : ℕ → ℕ
high_kind sort = cond (eqb sort 2) 65 (cond (eqb sort 3) 1023 (cond (eqb sort 5) 9 (cond (eqb sort 6) 4095 2)))

abbrev pub stands : Elems → Fact → Bool
stands tree f = node_in (low_kind f.sort) (high_kind f.sort) (element_at f.element tree)

-- "5 record field, its name token": a token inside the field
abbrev pub names_token : Elems → Fact → Bool
names_token tree f = not (eqb f.sort 5) || token_in 1 1023 (element_at f.first (children (element_at f.element tree)))

-- "1 .. flags (1 usable, .. 2 a definition; 4 an associated function); 2 .. takes self (0 or 1), self kind (0 owned, 1 `&`, 2 `&mut`);
-- 3 .. step .., type; .. 7 .. text start, text length in a fact text", one of n bytes; "unused ones 0"
abbrev pub has_values : ℕ → ℕ → ℕ → ℕ → Bool
has_values n sort second third =
    cond (eqb sort 1) (leb second 7 && eqb third 0)
    (cond (eqb sort 2) (leb second 1 && leb third 2)
    (cond (eqb sort 3) (eqb third 0)
    (cond (eqb sort 7) (leb (second + third) n) (eqb second 0 && eqb third 0))))

abbrev pub is_fact : Owner → Elems → ℕ → Fact → Bool
is_fact owner tree n f = allows owner f.sort && stands tree f && names_token tree f && has_values n f.sort f.second f.third

unfoldable pub are_facts : Owner → Elems → ℕ → List Fact → Bool
are_facts owner tree n [] = true
are_facts owner tree n (f ∷ fs) = is_fact owner tree n f && are_facts owner tree n fs

-- the step of sort 3 and the module of sort 7 tell facts at one element apart
abbrev pub selector : Fact → ℕ
selector f = cond (eqb f.sort 3 || eqb f.sort 7) f.first 0

abbrev pub is_key : ℕ → ℕ → ℕ → Fact → Bool
is_key sort element select f = eqb f.sort sort && eqb f.element element && eqb (selector f) select

-- the place of the first fact of a sort at an element, with a step or module; how many facts there are where it is not there
unfoldable pub fact_index : ℕ → ℕ → ℕ → List Fact → ℕ
fact_index sort element select [] = 0
fact_index sort element select (f ∷ fs) = cond (is_key sort element select f) 0 (1 + fact_index sort element select fs)

abbrev pub is_known : ℕ → ℕ → ℕ → List Fact → Bool
is_known sort element select fs = ltb (fact_index sort element select fs) (length fs)

-- that place, where the fact is there
abbrev pub numbered_place : ℕ → ℕ → ℕ → List Fact → Option ℕ
numbered_place sort element select fs = cond (is_known sort element select fs) (Some (fact_index sort element select fs)) None

-- the same of a sort, and that fact
abbrev pub place_of : Sort → ℕ → ℕ → List Fact → Option ℕ
place_of sort element select fs = numbered_place (sort_number sort) element select fs

abbrev pub fact_by : Sort → ℕ → ℕ → List Fact → Option Fact
fact_by sort element select fs = slice_get fs (fact_index (sort_number sort) element select fs)

-- "one repeated (sort, element, and step or module)"
unfoldable pub has_repeated : List Fact → Bool
has_repeated [] = false
has_repeated (f ∷ fs) = is_known f.sort f.element (selector f) fs || has_repeated fs

-- "autoderef step from 0 without gaps": a later step of sort 3 whose step before is not there
abbrev pub is_later : Fact → Bool
is_later f = eqb f.sort 3 && ltb 0 f.first

unfoldable pub has_gap : List Fact → List Fact → Bool
has_gap all [] = false
has_gap all (f ∷ fs) = (is_later f && not (is_known 3 f.element (f.first - 1) all)) || has_gap all fs

-- a list of words is well-formed facts of a tree, with a fact text of n bytes
unfoldable pub is_fact_list : Owner → Elems → ℕ → List ℕ → Bool
is_fact_list owner tree n l =
    are_fact_words l && leb (length (facts_of l)) 16383 && are_facts owner tree n (facts_of l) && not (has_repeated (facts_of l)) && not (has_gap (facts_of l) (facts_of l))
