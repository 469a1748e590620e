-- `limits_of` meets its contract.
use Rattle.std.proofs.Common.{refl, ap, ◌∙◌, length, arith}
use lib.ListN.{length-set}
use Rattle.parsing.specs.Patterns.{placeholders_of}
use Rattle.prepared.specs.Rules.{limit_of}
use Rattle.prepared.proofs.LimitLaws.{laid_none, laid_more, limited}
use Rattle.prepared.proofs.limits.limits_of.Goals as goal

pub loop-slot-init : goal.loop-slot-init
loop-slot-init c = record { long = refl; laid = laid_none (placeholders_of c.args.pattern.now.placeholders) }

pub loop-slot-preserved : goal.loop-slot-preserved
loop-slot-preserved c =
    let l = c.loop-slot in
    let e = c.as_slice-placeholder-items.ensures in
    let n = ap length e.value in
    record {
      long = length-set l.limits l.slot c.limit_of.result ∙ l.invariant.long;
      laid = laid_more (placeholders_of c.args.pattern.now.placeholders) l.slot l.limits c.placeholder-item.result c.limit_of.result
          (omega (arith, l.invariant.long, c.loop-slot-test.true, e.fits)) (omega (arith, n, c.loop-slot-test.true))
          (rw e.value at c.placeholder-item.is) (c.limit_of.ensures ∙ ap limit_of c.as_slice.ensures.value) l.invariant.laid;
    }

pub returns : goal.returns
returns c =
    let l = c.loop-slot in
    let e = c.as_slice-placeholder-items.ensures in
    let n = ap length e.value in
    limited (placeholders_of c.args.pattern.now.placeholders) l.slot l.limits (omega (arith, n, e.fits)) l.invariant.long (omega (arith, n, l.auto.slot-end, c.loop-slot-test.false)) l.invariant.laid
