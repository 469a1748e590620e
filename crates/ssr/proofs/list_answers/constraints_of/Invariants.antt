-- `exports::constraints_of` meets its contract. The constraints so far are those of the placeholders so far.
use Rattle.std.proofs.Common.{drop}
use Rattle.parsing.specs.Patterns.{placeholders_of, vars_at}
use Rattle.parsing.specs.Vars.{vars_of}
use Rattle.ssr.proofs.Laws.{SoFar}
use Rattle.ssr.proofs.list_answers.constraints_of.Given as goal

abbrev pub invariant-loop-placeholder : goal.invariant-loop-placeholder
invariant-loop-placeholder l = SoFar (vars_of l.pattern) (vars_at (drop l.placeholder-index (placeholders_of l.pattern.placeholders))) l.nots l.count
