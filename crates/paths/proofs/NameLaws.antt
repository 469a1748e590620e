-- A test of a path and its qualifiers, one after the other.
-- Assumes nothing.
use mathlib.Core.Path.{◌≡◌, refl, ◌∙◌}
use mathlib.Core.Bool.{Bool, true, false, cond, ◌||◌}
use mathlib.Core.List.{List, []}
use Prim.Native.Nat.{ℕ, ◌<◌, ◌≤◌}
use native.Mathlib.Omega.{arith}
use lib.Dec.{eqb, leb, ltb}
use lib.ListN.{length, length-map}
use borrow.Author.Tests.{ne_eqb, leb-true, ltb-true}
use Rattle.std.specs.Prelude.{is_some, IfSome, Some, None}
use Rattle.std.specs.List.{position_or_len}
use Rattle.words.proofs.TestLaws.{same_or, never, and_both}
use Rattle.words.proofs.TextLaws.{part_none}
use Rattle.syntax.specs.Trees.{Elems, none, token, node}
use Rattle.syntax.specs.Accessors.{children, text_of, some, between, find_node, first_token}
use Rattle.parsing.specs.declared.patterns.Pattern.{Pattern}
use Rattle.parsing.specs.Patterns.{placeholders_of, var_of}
use Rattle.parsing.specs.Vars.{vars_of}
use Rattle.rust_code.specs.StandIns.{has_stand_in, stand_in_position}
use Rattle.rust_code.proofs.StandInLaws.{by_none}
use Rattle.paths.specs.Names.{Placeholders, is_stand_in, name_in, has_type_arguments, contains_type_arguments, contains_placeholder}

-- the place of a placeholder is below their number
low_if : (b : Bool) (i n : ℕ) → (b ≡ true → i < n) → IfSome (cond b (Some i) None) (λ slot. slot < n)
low_if true i n h = h refl
low_if false i n h = tt

pub stand_in_low : (text : List ℕ) (p : Pattern) (x : List ℕ) → length (placeholders_of p.placeholders) ≤ 8 → IfSome (stand_in_position text (vars_of p) x) (λ slot. slot < 8)
stand_in_low text p x h =
    low_if (ltb (position_or_len (has_stand_in text x) (vars_of p)) (length (vars_of p))) _ 8 (λ t. omega (arith, length-map (placeholders_of p.placeholders) var_of, ltb-true _ _ t))

-- F asks g of the children of the first path among siblings, and then of its qualifiers' in turn
record Climbs (g F : Elems → Bool) : Type 0 where
  pub ask_none : g none ≡ false
  pub at_none : F none ≡ false
  pub at_token : (i k s e : ℕ) (r : Elems) → F (token i k s e r) ≡ F r
  pub at_node : (i k s e : ℕ) (cs r : Elems) → F (node i k s e cs r) ≡ cond (eqb k 2) (g cs || F cs) (F r)

not_between : (a k : ℕ) → (k ≡ a → ⊥) → between a a k ≡ false
not_between a k h = never (between a a k) (λ t. let b = and_both (leb a k) (leb k a) t in h (omega (arith, leb-true a k b.0, leb-true k a b.1)))

found_none : (c : Elems) → some c ≡ false → c ≡ none
found_none none h = refl
found_none (token i k s e r) h = absurd (cc)
found_none (node i k s e cs r) h = absurd (cc)

module _ (g F : Elems → Bool) (w : Climbs g F) where
  climb : (c : Elems) → F c ≡ (g (children (find_node 2 2 c)) || F (children (find_node 2 2 c)))
  unfolding find_node
  climb none = rw (w.ask_none, w.at_none)
  climb (token i k s e r) = w.at_token i k s e r ∙ climb r
  climb (node i k s e cs r) = same_or k 2
      (λ h. w.at_node i k s e cs r ∙ rw h)
      (λ h. w.at_node i k s e cs r ∙ rw (ne_eqb k 2 h, not_between 2 k h) (climb r))

  climb_here : (c d : Elems) → d ≡ children (find_node 2 2 c) → g d ≡ true → F c ≡ true
  climb_here c d e h = climb c ∙ rw (← e, h)

  climb_past : (c d : Elems) → d ≡ children (find_node 2 2 c) → g d ≡ false → F c ≡ F d
  climb_past c d e h = climb c ∙ rw (← e, h)

  climb_end : (c : Elems) → some (find_node 2 2 c) ≡ false → F c ≡ false
  climb_end c h = climb c ∙ rw (found_none (find_node 2 2 c) h, w.ask_none, w.at_none)

-- type arguments
climbs_arguments : Climbs has_type_arguments contains_type_arguments
unfolding contains_type_arguments find_node
climbs_arguments = record { ask_none = refl; at_none = refl; at_token = λ i k s e r. refl; at_node = λ i k s e cs r. refl }

pub arguments_here : (c d : Elems) → d ≡ children (find_node 2 2 c) → has_type_arguments d ≡ true → contains_type_arguments c ≡ true
arguments_here = climb_here has_type_arguments contains_type_arguments climbs_arguments

pub arguments_past : (c d : Elems) → d ≡ children (find_node 2 2 c) → has_type_arguments d ≡ false → contains_type_arguments c ≡ contains_type_arguments d
arguments_past = climb_past has_type_arguments contains_type_arguments climbs_arguments

pub arguments_end : (c : Elems) → some (find_node 2 2 c) ≡ false → contains_type_arguments c ≡ false
arguments_end = climb_end has_type_arguments contains_type_arguments climbs_arguments

-- stand-in names
module _ (p : Placeholders) (code : List ℕ) where
  abbrev named : Elems → Bool
  named cs = is_stand_in p (text_of code (name_in cs))

  climbs_names : Climbs named (contains_placeholder p code)
  unfolding contains_placeholder find_node first_token
  climbs_names = record { ask_none = rw (part_none code 0, by_none p.text p.vars [] refl); at_none = refl; at_token = λ i k s e r. refl; at_node = λ i k s e cs r. refl }

  pub placeholder_here : (c d : Elems) → d ≡ children (find_node 2 2 c) → is_some (stand_in_position p.text p.vars (text_of code (name_in d))) ≡ true → contains_placeholder p code c ≡ true
  placeholder_here = climb_here named (contains_placeholder p code) climbs_names

  pub placeholder_past : (c d : Elems) → d ≡ children (find_node 2 2 c) → is_some (stand_in_position p.text p.vars (text_of code (name_in d))) ≡ false → contains_placeholder p code c ≡ contains_placeholder p code d
  placeholder_past = climb_past named (contains_placeholder p code) climbs_names

  pub placeholder_end : (c : Elems) → some (find_node 2 2 c) ≡ false → contains_placeholder p code c ≡ false
  placeholder_end = climb_end named (contains_placeholder p code) climbs_names
