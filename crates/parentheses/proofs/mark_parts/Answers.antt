-- `parentheses::mark_parts` meets its contract: the parts from i on are marked.
use Rattle.std.proofs.Common.{◌≡◌, ◌-◌, arith}
use Rattle.parentheses.proofs.SumLaws.{total_part, extra_few}
use Rattle.parentheses.proofs.MarkLaws.{marked_none, marked_fits, marked_one, marked_few, marked_all}
use Rattle.parentheses.proofs.mark_parts.Goals as goal

pub loop-i-init : goal.loop-i-init
loop-i-init c = marked_none c.total_length-start.ensures

pub overflow_sub-start : goal.overflow_sub-start
overflow_sub-start c = omega (arith, marked_fits {j = c.loop-i.i - 1} (omega arith) (omega arith) c.loop-i.invariant)

pub is_required-is_enclosed-requires : goal.is_required-is_enclosed-requires
is_required-is_enclosed-requires c =
    omega (arith, total_part c.args.parts.now c.loop-i.i, marked_fits {j = c.loop-i.i - 1} (omega arith) (omega arith) c.loop-i.invariant)

pub overflow_add-more : goal.overflow_add-more
overflow_add-more c = omega (arith, marked_few c.loop-i.invariant, extra_few c.is_required-is_enclosed.result, c.extra-more.ensures)

pub loop-i-preserved : goal.loop-i-preserved
loop-i-preserved c =
    rw (c.extra-more.ensures, c.is_required-is_enclosed.ensures) (marked_one (omega arith) (omega arith) c.loop-i.invariant)

pub returns : goal.returns
returns c =
    let e : c.loop-i.i ≡ 0 = omega arith in
    let all = marked_all (rw e at c.loop-i.invariant) in
    record { same_parts = c.loop-i.invariant.same_parts; marks = all.0; value = (all.1, marked_few c.loop-i.invariant) }
