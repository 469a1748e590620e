-- `Pattern::new` meets its contract.
use Rattle.std.proofs.Common.{arith}
use Rattle.parsing.proofs.PatternLaws.{count_none}
use Rattle.parsing.proofs.patterns.Pattern.new.Goals as goal

pub invariant_of-result : goal.invariant_of-result
invariant_of-result c = record { eight = rw c.new.ensures (omega arith); fifty = rw c.new.ensures (omega (arith, count_none)) }
