-- `fragments::directory::Slice::counted_before` meets its contract.
use Rattle.std.proofs.Common.{◌≡◌, ◌*◌, ◌≤◌}
use Rattle.fragments.specs.Directory.{before}
use Rattle.fragments.proofs.directory.Slice.counted_before.Given as goal

abbrev pub invariant-loop-i : goal.invariant-loop-i
invariant-loop-i l = (l.sum ≡ before l.self l.i l.row) × (l.sum ≤ 4294967295 * l.i)
