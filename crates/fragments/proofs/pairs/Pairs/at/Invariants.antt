-- `fragments::pairs::Pairs::at` meets its contract.
use Rattle.std.proofs.Common.{◌≡◌, ◌-◌, ◌≤◌, length}
use Rattle.fragments.specs.Pairs.{pair_at, pair_behind}
use Rattle.fragments.proofs.pairs.Pairs.at.Given as goal

abbrev pub invariant-loop-passed : goal.invariant-loop-passed
invariant-loop-passed l = (pair_at l.number l.self ≡ pair_behind (l.number - l.passed) l.pair) × (length l.pair.words ≤ length l.self.words)
