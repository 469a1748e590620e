-- Trees that passed are well-formed with their facts, and tables that are large enough have room for them.
-- Assumes nothing.
use Rattle.std.proofs.Common.{◌≡◌, refl, sym, ◌∙◌, Bool, true, false, not, cond, ◌&&◌, List, [], ℕ, ◌-◌, ◌/◌, ◌≤◌, length, take, drop, Option, Some, Result, Ok, Err, arith}
use Rattle.std.specs.Result.{IsOk}
use lib.ListN.{length-take, length-drop}
use lib.Dec.{eqb, leb}
use borrow.Author.Tests.{eq-eqb}
use mathlib.Core.Bool.{true≢false}
use Rattle.errors.specs.declared.Refusal.{Refusal}
use Rattle.errors.specs.Refusals.{Outcome, ok, lowest}
use Rattle.errors.proofs.Laws.{refused_not, both_pass}
use Rattle.words.specs.Texts.{part}
use Rattle.parsing.specs.declared.patterns.Pattern.{Pattern}
use Rattle.parsing.specs.Reading.{Reading, reading, placeholders_in, placeholders}
use Rattle.parsing.specs.Vars.{placeholders_read}
use Rattle.syntax.specs.Trees.{tree}
use Rattle.syntax.specs.Checks.{WellFormed}
use Rattle.facts.specs.declared.Owner.{Owner}
use Rattle.facts.specs.Facts.{is_fact_list}
use Rattle.trees.specs.Given.{text_read, right_text, listed_outcome}
use Rattle.trees.proofs.GivenLaws.{listed_stands}
use Rattle.fragments.specs.declared.forms.Side.{Side}
use Rattle.fragments.specs.declared.forms.Side.TheVariants as side
use Rattle.fragments.specs.declared.forms.Form.{Form}
use Rattle.fragments.specs.declared.forms.Form.TheVariants as form
use Rattle.fragments.specs.Forms.{five}
use Rattle.fragments.specs.Pairs.{Pair, list_of, text_of, code_of, tree_of, facts_of, is_present}
use Rattle.rules.specs.Stages.{given_list, owner_of, tree_outcome, side_outcome, trees_outcome}
use Rattle.paths.specs.Tables.{HasFacts}
use Rattle.paths.proofs.TableLaws.{has_few}
use Rattle.rule_paths.specs.Needs.{Roomy, Passed}

-- all five pass where the lowest does
module _ (f : Form → Outcome) (h : lowest (five f) ≡ ok) where
  five_pass : (x : Form) → f x ≡ ok
  unfolding lowest
  five_pass form.Expression = (both_pass (f form.Expression) _ h).0
  five_pass form.Type = (both_pass (f form.Type) _ (both_pass (f form.Expression) _ h).1).0
  five_pass form.Item = (both_pass (f form.Item) _ (both_pass (f form.Type) _ (both_pass (f form.Expression) _ h).1).1).0
  five_pass form.Pattern = (both_pass (f form.Pattern) _ (both_pass (f form.Item) _ (both_pass (f form.Type) _ (both_pass (f form.Expression) _ h).1).1).1).0
  five_pass form.Statement = (both_pass (f form.Statement) _ (both_pass (f form.Pattern) _ (both_pass (f form.Item) _ (both_pass (f form.Type) _ (both_pass (f form.Expression) _ h).1).1).1).1).0

-- a tree of a side
side_passes : (m : Option ℕ) (p : Pair) (s : Side) → trees_outcome m p ≡ ok → side_outcome m p s ≡ ok
side_passes m p side.Pattern h = (both_pass (side_outcome m p side.Pattern) (side_outcome m p side.Template) h).0
side_passes m p side.Template h = (both_pass (side_outcome m p side.Pattern) (side_outcome m p side.Template) h).1

not_empty : (n : ℕ) → not (eqb n 0) ≡ true → n ≡ 0 → ⊥
not_empty n h e = true≢false (sym h ∙ rw (eq-eqb n 0 e))

-- a part is no longer than what it is a part of
part_short : (t : List ℕ) (a b : ℕ) → length (part t a b) ≤ length t
unfolding part
part_short t a b = go (leb a b && leb b (length t))
  where
    go : (c : Bool) → length (cond c (take (b - a) (drop a t)) []) ≤ length t
    go true = simp (length-take, length-drop) (omega arith)
    go false = omega arith

module _ (bytes : ℕ) (p : Pair) (s : Side) (f : Form) (passed : Passed bytes p) (there : is_present s f p ≡ true) where
  stands : WellFormed (tree_of s f p) × (is_fact_list (owner_of s) (tree (tree_of s f p)) bytes (facts_of s f p) ≡ true)
  stands =
      listed_stands (owner_of s) (tree_of s f p) (facts_of s f p) bytes (not_empty (length (tree_of s f p)) there)
      (right_text (given_list s p) (code_of s p)) (length (code_of s p))
      (five_pass (tree_outcome (Some bytes) p s) (side_passes (Some bytes) p s passed) f)

  pub tree_formed : WellFormed (tree_of s f p)
  tree_formed = stands.0

  pub tree_facts : HasFacts (tree_of s f p) (facts_of s f p)
  tree_facts = record { owner = owner_of s; bytes = bytes; good = stands.1 }

  tree_short : length (tree_of s f p) ≤ length p.words
  tree_short = part_short p.words _ _

  facts_short : length (facts_of s f p) ≤ length p.words
  facts_short = part_short p.words _ _

  -- room for a tree's elements, and for its facts
  module _ (n : ℕ) (room : Roomy n p.words) where
    pub room_for_tree : length (tree_of s f p) / 3 ≤ n
    room_for_tree = omega (arith, room, tree_formed.few, tree_short)

    pub room_for_facts : length (facts_of s f p) / 4 ≤ n
    room_for_facts = omega (arith, room, has_few (tree_of s f p) (facts_of s f p) tree_formed tree_facts, facts_short)

-- the list of a pattern whose trees passed was read
not_refused : (text code : List ℕ) (r : Refusal) (read : Reading) (owner : Owner) (l facts : List ℕ) (n m : ℕ) → Err r ≡ placeholders_in read → listed_outcome (text_read text read code) owner l n facts m ≡ ok → ⊥
not_refused text code r (Ok es) owner l facts n m h p = absurd cc
not_refused text code r (Err s) owner l facts n m h p = absurd (refused_not p)

pub list_read : (bytes : ℕ) (p : Pair) (answer : Result Pattern Refusal) → Passed bytes p → placeholders_read answer ≡ placeholders (list_of side.Pattern p) (text_of side.Pattern p) → IsOk answer
list_read bytes p (Ok x) passed h = refl
list_read bytes p (Err r) passed h =
    absurd
    (not_refused (text_of side.Pattern p) (code_of side.Pattern p) r (reading (list_of side.Pattern p) (text_of side.Pattern p)) (owner_of side.Pattern)
    (tree_of side.Pattern form.Expression p) (facts_of side.Pattern form.Expression p) (length (code_of side.Pattern p)) bytes h
    (five_pass (tree_outcome (Some bytes) p side.Pattern) (side_passes (Some bytes) p side.Pattern passed) form.Expression))

-- room for words is room for fewer
pub roomy_part : (n : ℕ) (words fewer : List ℕ) → Roomy n words → length fewer ≤ length words → Roomy n fewer
roomy_part n words fewer r l = omega (arith, r, l)
