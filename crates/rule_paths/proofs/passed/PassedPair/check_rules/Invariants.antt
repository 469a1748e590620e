-- What holds at each iteration of `PassedPair::check_rules`.
use Rattle.rule_paths.proofs.FailLaws.{Ahead}
use Rattle.rule_paths.proofs.passed.PassedPair.check_rules.Given as goal

abbrev pub invariant-loop-form : goal.invariant-loop-form
invariant-loop-form g l = Ahead l.self l.form-iterator
