-- `lay_code` meets its contract.
use Rattle.std.proofs.Common.{length, drop}
use Rattle.parsing.specs.Patterns.{placeholders_of, vars_at}
use Rattle.parsing.specs.Vars.{vars_of}
use Rattle.rust_code.proofs.Laws.{SoFar}
use Rattle.rust_code.proofs.lay_code.Given as goal

abbrev pub invariant-loop-placeholder : goal.invariant-loop-placeholder
invariant-loop-placeholder l = SoFar l.initial.out l.text (length l.text) (vars_of l.pattern) l.out l.at l.from (vars_at (drop l.placeholder-index (placeholders_of l.pattern.placeholders)))
