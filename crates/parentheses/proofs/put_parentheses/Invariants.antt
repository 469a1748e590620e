-- `parentheses::put_parentheses` meets its contract: the parts behind those that are left stand where they belong.
use Rattle.parentheses.proofs.WrapLaws.{Moved}
use Rattle.parentheses.proofs.put_parentheses.Given as goal

abbrev pub invariant-loop-part : goal.invariant-loop-part
invariant-loop-part l = Moved l.initial.out l.size l.parts l.part-iterator.iter.rest.now l.from l.to l.out
