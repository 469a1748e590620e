-- `exports::names_of` meets its contract.
use Rattle.std.proofs.Common.{ap, length, arith}
use Rattle.parsing.specs.Patterns.{placeholders_of}
use Rattle.ssr.proofs.Laws.{named_on}
use Rattle.ssr.proofs.list_answers.names_of.Goals as goal

pub loop-i-preserved : goal.loop-i-preserved
loop-i-preserved c =
    let ps = placeholders_of c.args.pattern.now.placeholders in
    let l = c.loop-i in
    let items = c.as_slice-placeholder-items.ensures.value in
    rw (l.invariant, c.from.ensures) (named_on ps l.i c.placeholder-item.result (omega (arith, ap length items)) c.args.pattern.now.eight (rw items at c.placeholder-item.is))
