-- `fragments::directory::add_up` meets its contract.
use Rattle.std.proofs.Common.{sym, ◌∙◌, ◌≡◌, arith}
use Rattle.std.specs.Slice.Iter.{chunks_exact_rest}
use Rattle.fragments.specs.Directory.{row_count}
use Rattle.fragments.proofs.DirectoryLaws.{add_end, add-next, add_misfit}
use Rattle.fragments.proofs.directory.add_up.Goals as goal

pub loop-row-preserved : goal.loop-row-preserved
loop-row-preserved c =
    let s = c.in-Some.ensures.steps in
    let i = c.loop-row.invariant in
    let f = c.in-Some-left_behind.ensures.fits in
    record { left = i.left ∙ add-next _ _ _ s.1.0 (s.1.1 ∙ i.size) _ _ _ _ f.0 f.1 f.2; size = s.0 ∙ i.size }

pub returns-in-None-left_behind : goal.returns-in-None-left_behind
returns-in-None-left_behind c =
    let s = c.in-Some.ensures.steps in
    let i = c.loop-row.invariant in
    sym (i.left ∙ add_misfit _ _ _ s.1.0 (s.1.1 ∙ i.size) _ _ c.in-None-left_behind.ensures.misfit)

pub returns : goal.returns
returns c =
    let s = c.in-None.ensures.steps in
    let i = c.loop-row.invariant in
    let rest = chunks_exact_rest c.loop-row.row-iterator in
    let e : row_count rest ≡ 0 = omega (arith, s.1.0, i.size) in
    c.eq.ensures ∙ add_end rest c.loop-row.left.0 c.loop-row.left.1 ∙ sym (rw e at i.left)
