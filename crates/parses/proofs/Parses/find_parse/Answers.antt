-- `parses::Parses::find_parse` meets its contract.
use Rattle.std.proofs.Common.{rules, sym, ◌∙◌}
use Rattle.parses.proofs.ParseLaws.{lookup_here, lookup_past}
use Rattle.parses.proofs.Parses.find_parse.Goals as goal

pub loop-part-init : goal.loop-part-init
loop-part-init c = rw (c.into_iter-part-iterator.ensures.into_iter_gives, c.of-part-items.ensures, c.self.view_is)

pub returns-then-is_parse_of : goal.returns-then-is_parse_of
returns-then-is_parse_of c =
    let l = c.loop-part in
    rw c.ranges_of.ensures (sym (lookup_here c.self.inside.text.now c.args.kind c.args.text.now c.in-Some.part.now c.next.new.self (sym c.is_parse_of.ensures ∙ c.if-is_parse_of.true)) ∙ rw c.in-Some.ensures.steps at l.invariant)

pub loop-part-preserved : goal.loop-part-preserved
loop-part-preserved c =
    let l = c.loop-part in
    sym (lookup_past c.self.inside.text.now c.args.kind c.args.text.now c.in-Some.part.now c.next.new.self (sym c.is_parse_of.ensures ∙ c.if-is_parse_of.false)) ∙ rw c.in-Some.ensures.steps at l.invariant

pub returns : goal.returns
returns c = search rules
