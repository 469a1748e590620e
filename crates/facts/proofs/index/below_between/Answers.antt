-- `facts::index::below_between` meets its contract.
use Rattle.facts.proofs.StartLaws.{rising_part, below_within}
use Rattle.facts.proofs.index.below_between.Goals as goal

pub below-requires : goal.below-requires
below-requires c = rising_part c.args.index.now _ _ c.requires.rising

pub returns : goal.returns
returns c =
    let b = c.requires.between in
    rw c.below.ensures (below_within c.args.number c.args.index.now c.args.from c.args.to c.requires.rising b.0 b.1)
