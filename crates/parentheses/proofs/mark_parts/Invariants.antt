-- `parentheses::mark_parts` meets its contract: the parts from i on are marked.
use Rattle.parses.specs.Ranges.{ranges_in}
use Rattle.parentheses.proofs.MarkLaws.{Marked}
use Rattle.parentheses.proofs.mark_parts.Given as goal

abbrev pub invariant-loop-i : goal.invariant-loop-i
invariant-loop-i l = Marked (ranges_in l.ranges) l.initial.parts l.i l.start l.more l.is_followed l.parts
