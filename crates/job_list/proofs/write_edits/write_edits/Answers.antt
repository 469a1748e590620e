-- `write_edits::write_edits` meets its contract.
use mathlib.Core.List.{List}
use mathlib.Core.Path.{ap, ◌∙◌}
use Prim.Native.Nat.{ℕ}
use native.Mathlib.Omega.{arith}
use lib.ListN.{length}
use Rattle.std.specs.Prelude.{Result}
use Rattle.words.specs.Buffer.{filled}
use Rattle.rendering.specs.Events.{Event}
use Rattle.rendering.specs.Traces.{within}
use Rattle.edits.specs.Answers.{answer_of, bytes_of}
use Rattle.edits.proofs.BufferLaws.{filled_alike}
use Rattle.job_list.specs.Lists.{row_edits}
use Rattle.job_list.proofs.write_edits.write_edits.Goals as goal

pub answer-requires : goal.answer-requires
answer-requires g c = let r = c.write_rows-laid in let w = c.requires.shown in
    (omega (arith, c.requires.fits, r.auto.out), (row_edits c.args.handed.now.file.words w.0, r.ensures.edits_left.left w.0 w.1))

pub returns : goal.returns
returns g c = λ W shown.
    let a = c.args in let r = c.write_rows-laid in let o = r.new.out in
    let u = row_edits a.handed.now.file.words W in let e = c.answer.ensures u (r.ensures.edits_left.left W shown) in let size = r.auto.out in
    let same = ap (within u) size in (
      e.0 ∙ ap answer_of same,
      e.1 ∙ filled_alike a.out.now o (bytes_of (within u (length o))) size c.requires.fits ∙ ap (λ (x : Result (List ℕ) Event). filled a.out.now (bytes_of x)) same,
    )
