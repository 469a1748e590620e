-- `trimmed` meets its contract.
use Rattle.std.proofs.Common.{ap}
use Rattle.rust_code.proofs.TrimLaws.{space_more, solid_more}
use Rattle.rust_code.proofs.tree_text.trimmed.Goals as goal

pub loop-token-preserved-then-token-ne-WHITESPACE : goal.loop-token-preserved-then-token-ne-WHITESPACE
loop-token-preserved-then-token-ne-WHITESPACE c = rw (ap (λ r. r.start) c.unwrap_or-start.ensures) (solid_more c.loop-token.yielded c.loop-token.inner c.in-Some.token c.if-token-ne-WHITESPACE.true c.loop-token.invariant)

pub loop-token-preserved : goal.loop-token-preserved
loop-token-preserved c = space_more c.loop-token.yielded c.loop-token.inner c.in-Some.token c.if-token-ne-WHITESPACE.false c.loop-token.invariant
