-- What the loops over siblings by order know of the code's field that the pattern's next sibling asks for by its name.
-- Assumes nothing.
use mathlib.Core.Path.{◌≡◌, refl, sym, ◌∙◌}
use mathlib.Core.Bool.{Bool, true, false, not, ◌&&◌, false≢true, and-false}
use lib.Dec.{eqb}
use borrow.Author.Tests.{eqb-true, not-true}
use Rattle.std.proofs.Common.{Option, Some, None}
use Rattle.words.proofs.TestLaws.{and_both}
use Rattle.syntax.specs.Trees.{Elems}
use Rattle.syntax.specs.Accessors.{some, number_of}
use Rattle.syntax.specs.Siblings.{is_a_node, is_a_token}
use Rattle.syntax.specs.Views.{elems_of}
use Rattle.syntax.specs.declared.parts.Part.{Part}
use Rattle.matcher.specs.Matcher.{Matcher, has_placeholder_name}
use Rattle.record_fields.specs.Fields.{pattern_name}
use Rattle.matcher.specs.declared.Siblings.{Siblings}
use Rattle.record_fields.specs.Order.{partner, is_same, is_beside, AsksFor}
use Rattle.matching.specs.StartingOver.{meets}
use Rattle.matching.proofs.AlongLaws.{next_here}
use Rattle.matching.proofs.OverLaws.{Tail, whole, last_tail, elems_unique}

pub each_of_four : (a b k d : Bool) → (a && b && not k && d) ≡ true → (a ≡ true) × (b ≡ true) × (k ≡ false) × (d ≡ true)
each_of_four true true false true h = (refl, refl, refl, refl)
each_of_four true true false false h = absurd (false≢true h)
each_of_four true true true d h = absurd (false≢true h)
each_of_four true false k d h = absurd (false≢true h)
each_of_four false b k d h = absurd (false≢true h)

unnamed : (a b k d : Bool) → (a && b && not k && d) ≡ false → a ≡ true → b ≡ true → k ≡ false → d ≡ false
unnamed true true false d h e f g = h
unnamed true true true d h e f g = absurd (false≢true (sym g))
unnamed true false k d h e f g = absurd (false≢true f)
unnamed false b k d h e f g = absurd (false≢true e)

-- the pattern's sibling q and the code's sibling c are matched by name and by order
pub record Paired (x : Matcher) (l : Siblings) (before on : Bool) (q c : Elems) : Type 0 where
  pub on_is : on ≡ true
  pub before_is : before ≡ true
  pub plain : has_placeholder_name x q ≡ false
  pub node : is_a_node q ≡ true
  pub token : is_a_token c ≡ false
  pub named : some (pattern_name q) ≡ true
  pub partner_is : partner x (elems_of l.c) q ≡ c
  pub there : some c ≡ true
  pub beside : is_beside x (elems_of l.c) q c ≡ true

module _ (x : Matcher) (l : Siblings) (before on : Bool) (q c : Elems) (goes : on ≡ (before && not (has_placeholder_name x q))) where
  -- another one is asked for, or none
  pub apart : (found : Option Part) → AsksFor on x l q c found → meets found c ≡ false → on ≡ true → is_a_token c ≡ false → is_a_node q ≡ true → is_beside x (elems_of l.c) q c ≡ false
  apart None a m o k n = rw (unnamed on (is_a_node q) (is_a_token c) (some (pattern_name q)) a o n k)
  apart (Some f) a m o k n = rw (next_here c k, ← a.1, m) (and-false (some (pattern_name q)))

  pub paired : (asked : Bool) (found : Option Part) → (asked ≡ true → on ≡ true) → AsksFor asked x l q c found → Tail (elems_of l.c) c → meets found c ≡ true → Paired x l before on q c
  paired asked None h a t m = absurd (false≢true m)
  paired asked (Some f) h a t m =
      let four = each_of_four asked (is_a_node q) (is_a_token c) (some (pattern_name q)) a.0 in
      let o = h four.0 in
      let g = and_both before (not (has_placeholder_name x q)) (sym goes ∙ o) in
      let same : is_same (partner x (elems_of l.c) q) c ≡ true = rw (← a.1) m in
      let p = and_both (some (partner x (elems_of l.c) q) && some c) (eqb (number_of (partner x (elems_of l.c) q)) (number_of c)) same in
      let b = and_both (some (partner x (elems_of l.c) q)) (some c) p.0 in
      let e : partner x (elems_of l.c) q ≡ c = elems_unique l.c.number l.c.words.now (partner x (elems_of l.c) q) c (last_tail (elems_of l.c) x _ _ (elems_of l.c) whole b.0) t b.0 b.1
      (eqb-true (number_of (partner x (elems_of l.c) q)) (number_of c) p.1) in
      record {
        on_is = o;
        before_is = g.0;
        plain = not-true (has_placeholder_name x q) g.1;
        node = four.1;
        token = four.2;
        named = four.3;
        partner_is = e;
        there = b.1;
        beside = rw (four.3, next_here c four.2) same;
      }
