-- `exports::constraints_of` meets its contract.
use Rattle.std.proofs.Common.{◌≡◌, ap, length, drop, arith, ◌+◌, ◌-◌}
use Rattle.parsing.specs.Patterns.{placeholders_of, var_of, vars_at}
use Rattle.parsing.specs.Vars.{vars_of}
use Rattle.rust_code.proofs.Laws.{vars_step, vars_end}
use Rattle.ssr.proofs.Laws.{so_far_fits, so_far_more, so_far_end}
use Rattle.ssr.proofs.list_answers.constraints_of.Goals as goal

pub slice_bounds-nots-end : goal.slice_bounds-nots-end
slice_bounds-nots-end c =
    let ps = placeholders_of c.args.pattern.now.placeholders in
    let l = c.loop-placeholder in
    let p = c.placeholder-item.result in
    let items = c.as_slice-placeholder-items.ensures.value in
    let n = vars_step ps l.placeholder-index p (omega (arith, ap length items)) (rw items at c.placeholder-item.is) in
    let f = so_far_fits (vars_of c.args.pattern.now) (vars_at (drop (l.placeholder-index + 1) ps)) (var_of p) l.nots l.count (rw n at l.invariant) c.args.pattern.now.fifty in
    omega (arith, f, c.len.ensures.value, c.type_inv.nots)

pub loop-placeholder-preserved : goal.loop-placeholder-preserved
loop-placeholder-preserved c =
    let ps = placeholders_of c.args.pattern.now.placeholders in
    let l = c.loop-placeholder in
    let p = c.placeholder-item.result in
    let items = c.as_slice-placeholder-items.ensures.value in
    let n = vars_step ps l.placeholder-index p (omega (arith, ap length items)) (rw items at c.placeholder-item.is) in
    let k : l.count + c.len.result - l.count ≡ c.len.result = omega arith in
    rw (c.copy_from_slice.ensures.after, c.as_slice.ensures.value, k)
    (so_far_more (vars_of c.args.pattern.now) (vars_at (drop (l.placeholder-index + 1) ps)) (var_of p) l.nots l.count (rw n at l.invariant) c.len.result c.len.ensures.value)

pub returns : goal.returns
returns c =
    let l = c.loop-placeholder in
    let items = c.as_slice-placeholder-items.ensures.value in
    let n = vars_end (placeholders_of c.args.pattern.now.placeholders) l.placeholder-index (omega (arith, ap length items)) in
    let e = so_far_end (vars_of c.args.pattern.now) l.nots l.count (rw n at l.invariant) in
    rw (e.0, e.1)
