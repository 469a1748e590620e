-- `rerendering::measure_parts` meets its contract: the parts up to i are those of the fragments up to i.
use mathlib.Core.Path.{◌≡◌}
use lib.ListN.{length, take}
use Rattle.parentheses.specs.Parts.{parts_of}
use Rattle.rerendering.specs.Parts.{measured_parts}
use Rattle.rerendering.proofs.measure_parts.Given as goal

abbrev pub invariant-loop-i : goal.invariant-loop-i
invariant-loop-i g l =
    (length l.parts ≡ length (g.T.Template.fragments l.template))
    × (parts_of (take l.i l.parts) ≡ measured_parts l.bindings l.frame (take l.i (g.T.Template.fragments l.template)))
