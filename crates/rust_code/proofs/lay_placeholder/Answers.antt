-- `lay_placeholder` meets its contract.
use Rattle.std.proofs.Common.{◌++◌, Some}
use Rattle.words.specs.Texts.{stand_in_prefix}
use Rattle.rust_code.proofs.Laws.{lays_put, lays_then}
use Rattle.rust_code.proofs.lay_placeholder.Goals as goal

pub returns : goal.returns
returns c =
    let d = c.args.out.now in
    let b = c.part_of-before.result.now in
    let x = c.of.result.now in
    let n = c.in_ok-prefix_at.prefix_at in
    let m = c.in_ok-name_at.name_at in
    rw (← c.part_of-before.ensures, ← c.of.ensures) (lays_then d c.args.at (b ++ stand_in_prefix) m c.put-2.new.out x c.put-3.result c.put-3.new.out
    (lays_then d c.args.at b n c.put.new.out stand_in_prefix (Some m) c.put-2.new.out
    (lays_put d c.args.at b (Some n) c.put.new.out c.in_ok-prefix_at.ensures.value c.in_ok-prefix_at.ensures.out_after)
    (lays_put c.put.new.out n stand_in_prefix (Some m) c.put-2.new.out c.in_ok-name_at.ensures.value c.in_ok-name_at.ensures.out_after))
    (lays_put c.put-2.new.out m x c.put-3.result c.put-3.new.out c.put-3.ensures.value c.put-3.ensures.out_after))
