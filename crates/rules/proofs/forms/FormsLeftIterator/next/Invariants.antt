-- `FormsLeft::next` meets its contract: the forms passed are none of those left.
use Rattle.std.proofs.Common.{◌≡◌, length}
use Rattle.rules.specs.Forms.{passing, flag}
use Rattle.rules.proofs.forms.FormsLeftIterator.next.Given as goal

abbrev pub invariant-loop-form : goal.invariant-loop-form
invariant-loop-form l = passing (flag l.self-inside.is_left) l.self-inside.to_come.now ≡ passing (flag l.initial.self-inside.is_left) l.initial.self-inside.to_come.now

abbrev pub decreases-loop-form : goal.decreases-loop-form
decreases-loop-form l = length l.self-inside.to_come.now
