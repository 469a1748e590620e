-- `facts::index::Facts::is_steady` meets its contract.
use mathlib.Core.Path.{◌≡◌}
use lib.ListN.{drop}
use Rattle.facts.proofs.IndexLaws.{is_steady}
use Rattle.facts.proofs.index.Facts.is_steady.Given as goal

abbrev pub invariant-loop-entry : goal.invariant-loop-entry
invariant-loop-entry l = is_steady 0 l.entry-items ≡ is_steady l.next (drop l.entry-index l.entry-items)
