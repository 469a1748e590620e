-- `mark_of` meets its contract.
use Rattle.paths.specs.Steps.{root_of}
use Rattle.prepared.proofs.MarkLaws.{call_low}
use Rattle.prepared.proofs.marking.mark_of.Goals as goal

pub new-requires-clause-call_bound : goal.new-requires-clause-call_bound
new-requires-clause-call_bound c = let x = c.args.resolved.now in rw c.call_at.ensures (call_low x.side (root_of x) c.args.element)
