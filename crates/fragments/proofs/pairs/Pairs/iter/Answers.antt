-- `fragments::pairs::Pairs::iter` meets its contract.
use Rattle.std.proofs.Common.{arith}
use Rattle.fragments.proofs.PairLaws.{length-pairs}
use Rattle.fragments.proofs.pairs.Pairs.iter.Goals as goal

pub returns-clause-few : goal.returns-clause-few
returns-clause-few c = omega (arith, length-pairs c.len.result c.first.result, c.len.ensures.few)
