-- `is_code_of` meets its contract.
use Rattle.std.proofs.Common.{ap, sym, ◌∙◌, length, arith}
use Rattle.parsing.specs.Patterns.{placeholders_of, var_of}
use Rattle.rust_code.proofs.Laws.{vars_step, vars_end, segments_step, segments_end}
use Rattle.rust_code.proofs.tree_text.is_code_of.Goals as goal

pub returns-in_default : goal.returns-in_default
returns-in_default c =
    let t = c.args.text.now in
    let l = c.loop-placeholder in
    let p = c.placeholder-item.result in
    let n = vars_step (placeholders_of c.args.pattern.now.placeholders) l.placeholder-index p (omega (arith, ap length c.as_slice-placeholder-items.ensures.value)) (rw c.as_slice-placeholder-items.ensures.value at c.placeholder-item.is) in
    sym (l.invariant ∙ rw (n, segments_step t c.args.range.end l.from (var_of p) _) (c.in_default.ensures _))

pub loop-placeholder-preserved : goal.loop-placeholder-preserved
loop-placeholder-preserved c =
    let t = c.args.text.now in
    let l = c.loop-placeholder in
    let p = c.placeholder-item.result in
    let n = vars_step (placeholders_of c.args.pattern.now.placeholders) l.placeholder-index p (omega (arith, ap length c.as_slice-placeholder-items.ensures.value)) (rw c.as_slice-placeholder-items.ensures.value at c.placeholder-item.is) in
    l.invariant ∙ rw (n, segments_step t c.args.range.end l.from (var_of p) _) (c.in-Some.ensures _)

pub returns : goal.returns
returns c =
    let t = c.args.text.now in
    let l = c.loop-placeholder in
    let n = vars_end (placeholders_of c.args.pattern.now.placeholders) l.placeholder-index (omega (arith, ap length c.as_slice-placeholder-items.ensures.value)) in
    c.eq.ensures ∙ rw c.part_of.ensures (sym (l.invariant ∙ rw (n, segments_end t c.args.range.end l.from)))
