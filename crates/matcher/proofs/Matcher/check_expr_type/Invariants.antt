-- `matcher::Matcher::check_expr_type` meets its contract. What is left of the steps gives what all of them give.
use mathlib.Core.Path.{◌≡◌}
use Prim.Native.Nat.{◌-◌}
use lib.ListN.{length}
use Rattle.facts.specs.Facts.{facts_of}
use Rattle.matcher.specs.FileFacts.{derefs, derefs_from}
use Rattle.matcher.proofs.Matcher.check_expr_type.Given as goal

abbrev pub invariant-loop-step : goal.invariant-loop-step
invariant-loop-step l =
    let facts = l.self.facts.now in derefs facts l.element l.wanted ≡ derefs_from (length (facts_of facts) - l.step) facts l.element l.wanted l.step
