-- `strip_placeholder` meets its contract.
use Rattle.std.proofs.Common.{◌++◌, Some, None}
use Rattle.std.specs.Prelude.{option_map}
use Rattle.words.specs.Texts.{stand_in_prefix}
use Rattle.rust_code.proofs.Laws.{strips, strips_then, strips_stop}
use Rattle.rust_code.proofs.tree_text.strip_placeholder.Goals as goal

pub returns-in_err-strip_prefix : goal.returns-in_err-strip_prefix
returns-in_err-strip_prefix c =
    let t = c.args.code.now in
    let b = c.part_of.result.now in
    let x = c.args.placeholder.now.name in
    rw (c.from_residual.ensures, ← c.part_of.ensures) (strips_stop t (b ++ stand_in_prefix) _ (strips_stop t b stand_in_prefix (strips t b None c.in_err-strip_prefix.ensures.cases)))

pub returns-in_err-strip_prefix-2 : goal.returns-in_err-strip_prefix-2
returns-in_err-strip_prefix-2 c =
    let t = c.args.code.now in
    let b = c.part_of.result.now in
    let y = c.in_ok-strip_prefix.field-0 in
    rw (c.from_residual-in_err-strip_prefix-2.ensures, ← c.part_of.ensures) (strips_stop t (b ++ stand_in_prefix) _ (strips_then t b y.now stand_in_prefix None (strips t b (Some y) c.in_ok-strip_prefix.ensures.cases) (strips y.now stand_in_prefix None c.in_err-strip_prefix-2.ensures.cases)))

pub returns : goal.returns
returns c =
    let t = c.args.code.now in
    let b = c.part_of.result.now in
    let x = c.of.result.now in
    let y = c.in_ok-strip_prefix.field-0 in
    let z = c.in_ok-strip_prefix-2.field-0 in
    let r = c.strip_prefix-3.result in
    rw (← c.part_of.ensures, ← c.of.ensures) (strips_then t (b ++ stand_in_prefix) z.now x (option_map (λ q. q.now) r)
    (strips_then t b y.now stand_in_prefix (Some z.now) (strips t b (Some y) c.in_ok-strip_prefix.ensures.cases) (strips y.now stand_in_prefix (Some z) c.in_ok-strip_prefix-2.ensures.cases))
    (strips z.now x r c.strip_prefix-3.ensures.cases))
