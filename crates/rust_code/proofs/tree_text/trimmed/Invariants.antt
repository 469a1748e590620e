-- `trimmed` meets its contract.
use Rattle.rust_code.proofs.TrimLaws.{SoFar}
use Rattle.rust_code.proofs.tree_text.trimmed.Given as goal

abbrev pub invariant-loop-token : goal.invariant-loop-token
invariant-loop-token l = SoFar l.yielded l.inner
