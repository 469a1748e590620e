-- `lay_code` meets its contract.
use Rattle.std.proofs.Common.{ap, length, arith}
use Rattle.parsing.specs.Patterns.{placeholders_of, var_of}
use Rattle.parsing.specs.Vars.{vars_of}
use Rattle.rust_code.proofs.Laws.{lays_put, vars_step, vars_end, so_far_more, so_far_full, so_far_end}
use Rattle.rust_code.proofs.lay_code.Goals as goal

pub returns-in_err-at : goal.returns-in_err-at
returns-in_err-at c =
    let t = c.args.pattern.now.text.now in
    let l = c.loop-placeholder in
    let p = c.placeholder-item.result in
    let n = vars_step (placeholders_of c.args.pattern.now.placeholders) l.placeholder-index p (omega (arith, ap length c.as_slice-placeholder-items.ensures.value)) (rw c.as_slice-placeholder-items.ensures.value at c.placeholder-item.is) in
    rw c.from_residual.ensures (so_far_full c.args.out.now t (length t) (vars_of c.args.pattern.now) l.out l.at l.from _ _ (var_of p) l.invariant n c.lay_placeholder.new.out c.in_err-at.ensures)

pub loop-placeholder-preserved : goal.loop-placeholder-preserved
loop-placeholder-preserved c =
    let t = c.args.pattern.now.text.now in
    let l = c.loop-placeholder in
    let p = c.placeholder-item.result in
    let n = vars_step (placeholders_of c.args.pattern.now.placeholders) l.placeholder-index p (omega (arith, ap length c.as_slice-placeholder-items.ensures.value)) (rw c.as_slice-placeholder-items.ensures.value at c.placeholder-item.is) in
    so_far_more c.args.out.now t (length t) (vars_of c.args.pattern.now) l.out l.at l.from _ _ (var_of p) l.invariant n c.in_ok-at.at c.lay_placeholder.new.out c.in_ok-at.ensures

pub returns : goal.returns
returns c =
    let t = c.args.pattern.now.text.now in
    let l = c.loop-placeholder in
    let n = vars_end (placeholders_of c.args.pattern.now.placeholders) l.placeholder-index (omega (arith, ap length c.as_slice-placeholder-items.ensures.value)) in
    so_far_end c.args.out.now t (length t) (vars_of c.args.pattern.now) l.out l.at l.from (rw n at l.invariant) c.put.result c.put.new.out
    (rw (← c.part_of.ensures) (lays_put l.out l.at c.part_of.result.now c.put.result c.put.new.out c.put.ensures.value c.put.ensures.out_after))
