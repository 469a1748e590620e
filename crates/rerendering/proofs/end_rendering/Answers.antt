-- `rerendering::end_rendering` meets its contract.
use mathlib.Core.Path.{sym, ap, ◌∙◌}
use native.Mathlib.Omega.{arith}
use lib.ListN.{length, length-map}
use lib.Seq.{length-take-le}
use Rattle.std.proofs.Common.{rules}
use Rattle.parentheses.specs.Parentheses.{total}
use Rattle.parentheses.specs.Parts.{part_of}
use Rattle.rerendering.specs.Parts.{measured}
use Rattle.rerendering.proofs.EndLaws.{whole, unparsed, again}
use Rattle.rerendering.proofs.end_rendering.Goals as goal

pub returns-then-is_empty-clause-ended : goal.returns-then-is_empty-clause-ended
returns-then-is_empty-clause-ended g c = let a = c.args in
    unparsed a.bindings.now a.frame.now _ a.kind a.parses.now a.out.now a.at (search rules) c.in_ok-ranges.ranges.now
    (sym (rw c.in_ok-ranges.ensures.ok_part at c.find_parse.ensures)) (search rules)

pub measure_parts-requires : goal.measure_parts-requires
measure_parts-requires g c = let a = c.args in let s = c.requires.shows in (
  length-take-le c.len.result a.parts.now (omega (arith, c.requires.few.1, c.len.ensures)) ∙ c.len.ensures,
  omega (
    arith,
    whole a.bindings.now a.frame.now _ a.kind a.parses.now a.out.now a.at s.0 s.1 s.2 (search rules),
    c.requires.few.2,
    s.2.passing.begun.ends,
  ),
)

pub put_again-requires : goal.put_again-requires
put_again-requires g c = let a = c.args in let s = c.requires.shows in let m = c.measure_parts in let b = s.2.passing.begun in (
  b.begins,
  b.ends,
  c.requires.few.2,
  ap total m.ensures ∙ whole a.bindings.now a.frame.now _ a.kind a.parses.now a.out.now a.at s.0 s.1 s.2 (search rules),
  omega (
    arith,
    length-map m.new.parts part_of,
    ap length m.ensures,
    length-map (g.T.Template.fragments a.template.now) (measured a.bindings.now a.frame.now),
    c.requires.few.0,
  ),
)

pub returns-clause-ended : goal.returns-clause-ended
returns-clause-ended g c = let a = c.args in
    again a.bindings.now a.frame.now _ a.kind a.parses.now a.out.now a.at (search rules) (search rules) c.in_ok-ranges.ranges.now c.put_again.new.out
    c.put_again.result c.ok_or-2.result _ (sym (rw c.in_ok-ranges.ensures.ok_part at c.find_parse.ensures)) (search rules) c.measure_parts.ensures
    c.put_again.ensures c.ok_or-2.ensures.value
