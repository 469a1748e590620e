-- `facts::index::lay_entries` meets its contract.
use mathlib.Core.Path.{◌≡◌}
use mathlib.Core.List.{◌++◌}
use lib.ListN.{take, drop}
use Rattle.facts.specs.Facts.{facts_of}
use Rattle.facts.specs.Keys.{entries_from}
use Rattle.facts.proofs.index.lay_entries.Given as goal

abbrev pub invariant-loop-place : goal.invariant-loop-place
invariant-loop-place l = entries_from 0 (facts_of l.words) ≡ take l.place l.entries ++ entries_from l.place (drop l.place (facts_of l.words))
