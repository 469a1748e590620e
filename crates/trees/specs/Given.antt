-- "Trees with facts, wherever given", document 01: "18 over 16,383 elements or 65,535 bytes; 19 malformed; 20 an element deeper than 128,
-- the root being at 1; 21 facts malformed".
-- Assumes nothing.
use Rattle.std.specs.Prelude.{ℕ, ◌≡◌, Bool, true, false, cond, not, List, [], ◌∷◌, ◌++◌, eqb, length, Option, Some, None, Result, Ok, Err}
use Rattle.errors.specs.Refusals.{Outcome, ok, err}
use Rattle.errors.specs.declared.Refusal.{Refusal}
use Rattle.errors.specs.declared.Refusal.TheVariants.{MalformedFacts}
use Rattle.errors.specs.Refusals.{Check, first_of}
use Rattle.words.specs.Texts.{same_text}
use Rattle.parsing.specs.Reading.{Element, Reading, reading}
use Rattle.rust_code.specs.RawCode.{tree_text}
use Rattle.syntax.specs.Trees.{tree}
use Rattle.syntax.specs.Checks.{tree_checks, TreeOf}
use Rattle.facts.specs.declared.Owner.{Owner}
use Rattle.facts.specs.declared.Owner.TheVariants as owner
use Rattle.facts.specs.Facts.{is_fact_list}
use Rattle.trees.specs.declared.File.{File}
use Rattle.trees.specs.declared.GivenFile.{GivenFile}

-- 21 of a tree's facts, with a fact text of m bytes
abbrev pub fact_checks : Owner → List ℕ → List ℕ → ℕ → List Check
fact_checks owner l facts m = record { fails = not (is_fact_list owner (tree l) m facts); refusal = MalformedFacts } ∷ []

-- 18 to 20 of a tree over a text of n bytes, then 21
unfoldable pub with_facts : Owner → Bool → ℕ → List ℕ → List ℕ → ℕ → Outcome
with_facts owner has_right_text n l facts m = first_of (tree_checks has_right_text n l ++ fact_checks owner l facts m)

-- the file's tree; its facts point into no text
abbrev pub file_outcome : List ℕ → List ℕ → List ℕ → Outcome
file_outcome l text facts = with_facts owner.File true (length text) l facts 0

-- a rule's tree, absent where it has no words: facts for an absent tree are malformed, since it has no element that they could stand at
abbrev pub rule_outcome : Owner → Bool → List ℕ → ℕ → List ℕ → ℕ → Outcome
rule_outcome owner has_right_text l n facts m =
    cond (eqb (length l) 0) (first_of (record { fails = not (eqb (length facts) 0); refusal = MalformedFacts } ∷ [])) (with_facts owner has_right_text n l facts m)

-- "its list's raw code without WHITESPACE tokens at its ends (another text is 19)"
abbrev pub has_right_text : List ℕ → List Element → List ℕ → Bool
has_right_text text es code = same_text (tree_text text es) code

-- whether a rule's code is the right text, or the refusal of its list; without a list no text is the right one
abbrev pub text_read : List ℕ → Reading → List ℕ → Result Bool Refusal
text_read text (Ok es) code = Ok (has_right_text text es code)
text_read text (Err r) code = Err r

abbrev pub right_text : Option (List ℕ × List ℕ) → List ℕ → Result Bool Refusal
right_text (Some list) code = text_read list.1 (reading list.0 list.1) code
right_text None code = Ok false

-- a rule's tree over a code of n bytes, whose list's refusal comes first
abbrev pub listed_outcome : Result Bool Refusal → Owner → List ℕ → ℕ → List ℕ → ℕ → Outcome
listed_outcome (Ok right) owner l n facts m = rule_outcome owner right l n facts m
listed_outcome (Err r) owner l n facts m = err r

-- a rule's tree, whose list, its words and its text, is given or not
abbrev pub given_outcome : Option (List ℕ × List ℕ) → Owner → List ℕ → List ℕ → List ℕ → ℕ → Outcome
given_outcome list owner l code facts m = listed_outcome (right_text list code) owner l (length code) facts m

-- what an accepted tree with facts is
pub record Stands (owner : Owner) (n : ℕ) (l facts : List ℕ) (m : ℕ) : Type 0 where
  pub tree_of : TreeOf n l
  pub facts_of : is_fact_list owner (tree l) m facts ≡ true

-- what of an answer is its refusal
abbrev pub outcome_of : {A : Type 0} → Result A Refusal → Outcome
outcome_of (Ok x) = ok
outcome_of (Err r) = err r

-- an accepted file has the words, the text and the facts of the one that was given
pub record Holds (given : GivenFile) (file : File) : Type 0 where
  pub words_are : file.tree.words.now ≡ given.words.now
  pub text_is : file.text.now ≡ given.text.now
  pub facts_are : file.facts ≡ given.facts.now
