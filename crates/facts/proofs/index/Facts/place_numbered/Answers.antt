-- `facts::index::Facts::place_numbered` meets its contract.
use mathlib.Core.Path.{◌≡◌, sym}
use native.Mathlib.Omega.{arith}
use lib.ListN.{get_or}
use borrow.Author.Tests.{ltb-true}
use Rattle.std.proofs.lemmas.Bool.Decides.{nat_tests}
use Rattle.facts.specs.Keys.{key_number}
use Rattle.facts.proofs.IndexLaws.{index_rising, place_high, place_hit, place_miss}
use Rattle.facts.proofs.index.Facts.place_numbered.Goals as goal

pub returns-then-sort-element : goal.returns-then-sort-element
returns-then-sort-element c = let a = c.args in rw (← c.self.view_is) (sym (place_high _ _ _ c.self.invariant a.sort a.element a.select (λ s h g. grind (arith, nat_tests))))

pub find_below-requires : goal.find_below-requires
find_below-requires c =
    let a = c.args in
    let k : c.key_number-key.result ≡ key_number a.sort a.element a.select = c.key_number-key.ensures in
    record {
      starts = (index_rising _ _ _ c.self.invariant, c.self.invariant.begins);
      of_element = grind (arith, nat_tests, k);
    }

pub returns-in-Some : goal.returns-in-Some
returns-in-Some c = let a = c.args in let k : c.key_number-key.result ≡ key_number a.sort a.element a.select = c.key_number-key.ensures in let r = c.in-Some.ensures.lookup in let e : c.in-Some.entry.now ≡ get_or c.self.inside.index.now c.find_below.result 0 = r.4 (omega arith) 0 in rw (← c.self.view_is, e) (sym (place_hit _ _ _ c.self.invariant a.sort a.element a.select (grind (arith, nat_tests)) (grind (arith, nat_tests)) c.find_below.result (rw k at c.find_below.ensures) (ltb-true _ _ (sym r.0)) (rw (← e, ← k) c.if-entry-key.true)))

pub returns-in_default : goal.returns-in_default
returns-in_default c = let a = c.args in let k : c.key_number-key.result ≡ key_number a.sort a.element a.select = c.key_number-key.ensures in let r = c.in-Some.ensures.lookup in let e : c.in-Some.entry.now ≡ get_or c.self.inside.index.now c.find_below.result 0 = r.4 (omega arith) 0 in rw (← c.self.view_is) (sym (place_miss _ _ _ c.self.invariant a.sort a.element a.select (grind (arith, nat_tests)) (grind (arith, nat_tests)) c.find_below.result (rw k at c.find_below.ensures) (λ _ m. c.if-entry-key.false (rw (e, k) m))))

pub returns-in_default-2 : goal.returns-in_default-2
returns-in_default-2 c = let a = c.args in let k : c.key_number-key.result ≡ key_number a.sort a.element a.select = c.key_number-key.ensures in let n = rw c.in_default.is at c.get.ensures.lookup.3 in rw (← c.self.view_is) (sym (place_miss _ _ _ c.self.invariant a.sort a.element a.select (grind (arith, nat_tests)) (grind (arith, nat_tests)) c.find_below.result (rw k at c.find_below.ensures) (λ b _. omega arith)))
