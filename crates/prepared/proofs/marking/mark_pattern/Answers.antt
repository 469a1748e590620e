-- `mark_pattern` meets its contract.
use Rattle.std.proofs.Common.{◌≡◌, ap, sym, ◌∙◌, length, take, drop, ◌++◌, arith, ℕ, ◌/◌}
use lib.Seq.{length-take-le}
use Rattle.std.proofs.Math.Seq.{take-append_seam}
use Rattle.syntax.proofs.FormedLaws.{formed_is}
use Rattle.prepared.proofs.MarkLaws.{marked}
use Rattle.prepared.proofs.marking.mark_pattern.Goals as goal

pub returns-clause-marked : goal.returns-clause-marked
returns-clause-marked c =
    let x = c.args.resolved.now in let t = c.tree.result in let n = c.len-n.result in let new = c.lay_marks.new.marks in let z = drop n c.args.marks.now in
    let words = ap length c.tree.ensures in
    let e = c.lay_marks.ensures.marks_len_unchanged ∙ length-take-le n c.args.marks.now (omega (arith, words, c.len-n.ensures.by_words, c.requires)) in
    let n_is : length x.words / 3 ≡ n = omega (arith, words, c.len-n.ensures.by_words) in
    let s = ap (λ (k : ℕ). take k (new ++ z)) (sym e) ∙ take-append_seam new z in
    rw (n_is, s) (marked x.side x.words new (rw c.tree.ensures at (formed_is t.words.now t.formed)) (omega (arith, e, words, c.len-n.ensures.by_words)) c.lay_marks.ensures.says)
