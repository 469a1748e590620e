-- `lay_marks` meets its contract.
use mathlib.Core.Path.{◌≡◌}
use Prim.Native.Nat.{ℕ, ◌<◌}
use Rattle.std.specs.Prelude.{Some, slice_get}
use Rattle.paths.specs.Steps.{root_of}
use Rattle.matcher.specs.declared.marks.Mark.{Mark}
use Rattle.prepared.specs.Rules.{Says}
use Rattle.prepared.proofs.marking.lay_marks.Given as goal

abbrev pub invariant-loop-element : goal.invariant-loop-element
invariant-loop-element l = (k : ℕ) (m : Mark) → k < l.element → slice_get l.marks k ≡ Some m → Says l.resolved.side (root_of l.resolved) k m
