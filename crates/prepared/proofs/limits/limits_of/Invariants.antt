-- `limits_of` meets its contract.
use mathlib.Core.Path.{◌≡◌}
use lib.ListN.{length}
use Rattle.parsing.specs.Patterns.{placeholders_of}
use Rattle.prepared.proofs.LimitLaws.{Laid}
use Rattle.prepared.proofs.limits.limits_of.Given as goal

abbrev pub invariant-loop-slot : goal.invariant-loop-slot
invariant-loop-slot l = record { long : length l.limits ≡ 8; laid : Laid (placeholders_of l.pattern.placeholders) l.slot l.limits }
