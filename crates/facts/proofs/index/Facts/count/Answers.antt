-- `facts::index::Facts::count` meets its contract.
use native.Mathlib.Omega.{arith}
use Rattle.facts.proofs.IndexLaws.{index_length}
use Rattle.facts.proofs.index.Facts.count.Goals as goal

pub returns-clause-value : goal.returns-clause-value
returns-clause-value c = rw (← c.self.view_is) (index_length _ _ _ c.self.invariant)

pub returns-clause-few : goal.returns-clause-few
returns-clause-few c = omega (arith, index_length _ _ _ c.self.invariant, c.self.invariant.few)
