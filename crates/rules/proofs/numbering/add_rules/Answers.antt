-- `rules::numbering::add_rules` meets its contract.
use Rattle.std.proofs.Common.{sym}
use borrow.Author.Tests.{eqb-true}
use Rattle.rules.proofs.FirstLaws.{no_room}
use Rattle.rules.proofs.numbering.add_rules.Goals as goal

pub returns-then-is_full : goal.returns-then-is_full
returns-then-is_full c = no_room _ c.loop-form.first.items _ (eqb-true _ _ (sym c.if-is_full.ensures.value)) c.loop-form.invariant.1
