-- `rows::matches::next_nested` meets its contract. The loop's invariant: none of the rows passed is nested there.
use Rattle.std.proofs.Common.{◌≡◌, false, ℕ, ◌≤◌, ◌<◌}
use Rattle.rows.specs.Rows.{is_nested}
use Rattle.rows.proofs.matches.next_nested.Given as goal

abbrev pub invariant-loop-i : goal.invariant-loop-i
invariant-loop-i l = (n : ℕ) → l.j ≤ n → n < l.i → is_nested l.rows l.k l.slot n ≡ false
