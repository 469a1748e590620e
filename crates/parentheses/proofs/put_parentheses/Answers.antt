-- `parentheses::put_parentheses` meets its contract: the parts behind those that are left stand where they belong.
use Rattle.std.proofs.Common.{◌≡◌, sym, [], arith}
use Rattle.parentheses.proofs.WrapLaws.{moved_none, moved_fits, moved_one, moved_all_laid}
use Rattle.parentheses.proofs.put_parentheses.Goals as goal

pub loop-part-init : goal.loop-part-init
loop-part-init c =
    let e : c.into_iter-part-iterator.result.iter.rest.now ≡ c.args.parts.now = cc (c.into_iter-part-iterator.ensures.into_iter_gives, c.rev-part-items.ensures.source, c.iter.ensures.rest) in
    rw e (moved_none c.requires.0 c.requires.1 c.requires.2)

pub overflow_sub-from : goal.overflow_sub-from
overflow_sub-from c = (moved_fits c.requires.0 c.requires.1 c.requires.2 _ _ c.in-Some.ensures.steps c.loop-part.invariant).0

pub put_part-to-requires : goal.put_part-to-requires
put_part-to-requires c =
    let fits = moved_fits c.requires.0 c.requires.1 c.requires.2 _ _ c.in-Some.ensures.steps c.loop-part.invariant in
    (omega (arith, fits), omega (arith, fits))

pub loop-part-preserved : goal.loop-part-preserved
loop-part-preserved c = moved_one c.requires.0 c.requires.1 c.requires.2 _ _ c.in-Some.ensures.steps c.loop-part.invariant c.put_part-to.ensures.0 c.put_part-to.ensures.1

pub returns : goal.returns
returns c =
    let e : c.loop-part.part-iterator.iter.rest.now ≡ [] = sym (rw c.in-None.ensures.steps.0 at c.loop-part.invariant.left_is) in
    moved_all_laid c.requires.0 c.requires.1 c.requires.2 (rw e at c.loop-part.invariant)
