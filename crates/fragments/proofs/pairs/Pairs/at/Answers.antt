-- `fragments::pairs::Pairs::at` meets its contract.
use Rattle.std.proofs.Common.{sym, ◌∙◌, ◌≡◌, ◌-◌, ◌+◌, suc, arith}
use Rattle.fragments.proofs.PairLaws.{pair_here, pair_suc}
use Rattle.fragments.proofs.pairs.Pairs.at.Goals as goal

pub loop-passed-preserved : goal.loop-passed-preserved
loop-passed-preserved c =
    let l = c.loop-passed in
    let e : c.args.number - l.passed ≡ suc (c.args.number - (l.passed + 1)) = omega arith in (
      l.invariant.0 ∙ rw (e, c.next-pair.ensures.pair) (pair_suc (c.args.number - (l.passed + 1)) l.pair),
      omega (arith, l.invariant.1, c.next-pair.ensures.within),
    )

pub returns-clause-pair : goal.returns-clause-pair
returns-clause-pair c =
    let l = c.loop-passed in
    let e : c.args.number - l.passed ≡ 0 = omega arith in
    sym (l.invariant.0 ∙ rw e (pair_here l.pair))
