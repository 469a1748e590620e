-- `note_call` meets its contract.
use Rattle.std.proofs.Common.{sym, ◌∙◌, None}
use Rattle.paths.specs.Tables.{calls_of}
use Rattle.paths.proofs.TableLaws.{call_set}
use Rattle.paths.proofs.WalkLaws.{claim_noted, claim_other, claim_none}
use Rattle.paths.proofs.resolving.note_call.Goals as goal

pub returns-then-flags-eq1-clause-calls_after : goal.returns-then-flags-eq1-clause-calls_after
returns-then-flags-eq1-clause-calls_after c = λ g e. let a = c.args in
    call_set a.notes.now c.in-Some.call _ (record { path = None; call = None }) ∙ claim_noted a.path a.flags c.in-Some.call (calls_of a.notes.now) g c.if-flags-eq1.true (sym c.in-Some.is ∙ e)

pub returns-else-flags-eq1-clause-calls_after : goal.returns-else-flags-eq1-clause-calls_after
returns-else-flags-eq1-clause-calls_after c = λ g e. let a = c.args in claim_other a.path a.flags 0 (calls_of a.notes.now) g c.if-flags-eq1.false

pub returns-in_default-clause-calls_after : goal.returns-in_default-clause-calls_after
returns-in_default-clause-calls_after c = λ g e. let a = c.args in claim_none a.path a.flags 0 (calls_of a.notes.now) g (sym c.in_default.is ∙ e)
