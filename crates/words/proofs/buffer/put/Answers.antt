-- `words::buffer::put` meets its contract.
use native.Mathlib.Omega.{arith}
use native.Mathlib.Numerals.{add-one}
use lib.ListN.{length-set}
use lib.Seq.{paste-suc}
use Rattle.words.proofs.buffer.put.Goals as goal

pub loop-i-preserved : goal.loop-i-preserved
loop-i-preserved c =
    let l = c.loop-i in
    let s = c.args in
    let more = paste-suc s.out.now s.at s.src.now l.i 0 (omega arith) (omega arith) in
    (simp length-set (omega arith), rw (l.invariant.1, add-one l.i) more)
