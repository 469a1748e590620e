-- Texts: parts of the file's text and of the rule's, when two are the same, and the fixed byte strings of document 01 and the manual.
-- Assumes nothing.
use Rattle.std.specs.Prelude.{ℕ, ◌-◌, Bool, cond, ◌&&◌, List, [], ◌∷◌, eqb, leb, length, take, drop}
use Rattle.std.specs.Cmp.Lexicographic.{pointwise}
use Rattle.words.specs.Fields.{start_of, end_of}
use Rattle.words.specs.declared.texts.Source.{Source}
use Rattle.words.specs.declared.texts.Source.TheVariants.{File, Rule}

-- the bytes of a text, or the words of a list, from a start up to an end; none where these are no range of it
unfoldable pub part : {A : Type 0} → List A → ℕ → ℕ → List A
part t start end = cond (leb start end && leb end (length t)) (take (end - start) (drop start t)) []

-- "the text of an element is returned as a part of either the file text or the rule text"
abbrev pub source_text : List ℕ → List ℕ → Source → List ℕ
source_text file rule File = file
source_text file rule Rule = rule

abbrev pub text_of : List ℕ → List ℕ → Source → List ℕ → List ℕ
text_of file rule source c = part (source_text file rule source) (start_of c) (end_of c)

-- two texts are the same bytes
abbrev pub same_text : List ℕ → List ℕ → Bool
same_text x y = pointwise eqb x y

-- a text begins with another
abbrev pub has_prefix : List ℕ → List ℕ → Bool
has_prefix p t = same_text (take (length p) t) p

-- `__placeholder_`, before the name in a stand-in name
abbrev pub stand_in_prefix : List ℕ
stand_in_prefix = 95 ∷ 95 ∷ 112 ∷ 108 ∷ 97 ∷ 99 ∷ 101 ∷ 104 ∷ 111 ∷ 108 ∷ 100 ∷ 101 ∷ 114 ∷ 95 ∷ []

-- `kind`
abbrev pub kind_text : List ℕ
kind_text = 107 ∷ 105 ∷ 110 ∷ 100 ∷ []

-- `not`
abbrev pub not_text : List ℕ
not_text = 110 ∷ 111 ∷ 116 ∷ []

-- `literal`
abbrev pub literal_text : List ℕ
literal_text = 108 ∷ 105 ∷ 116 ∷ 101 ∷ 114 ∷ 97 ∷ 108 ∷ []

-- `(`
abbrev pub open_text : List ℕ
open_text = 40 ∷ []

-- `)`
abbrev pub close_text : List ℕ
close_text = 41 ∷ []
