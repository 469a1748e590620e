-- `rerendering::put_again` meets its contract.
use native.Mathlib.Omega.{arith}
use Rattle.parses.specs.Ranges.{ranges_in}
use Rattle.rerendering.proofs.AgainLaws.{again_full, again_put_behind}
use Rattle.rerendering.proofs.put_again.Goals as goal

pub returns-then-out-at : goal.returns-then-out-at
returns-then-out-at c = let a = c.args in let p = c.requires in let m = c.mark_parts-more in
    again_full (ranges_in a.ranges.now) a.parts.now a.b a.at a.out.now p.0 p.1 p.3 m.result m.ensures.value.0 c.if-out-at.true

pub returns : goal.returns
returns c = let a = c.args in let p = c.requires in let m = c.mark_parts-more in
    again_put_behind (ranges_in a.ranges.now) a.parts.now a.b a.at a.out.now p.0 p.1 p.3 m.result m.ensures.value.0 m.new.parts m.ensures.marks m.ensures.same_parts
    c.put_parentheses.new.out (omega (arith, p.1, c.if-out-at.false)) c.put_parentheses.ensures
