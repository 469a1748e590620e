-- What holds at each iteration of `ResolvedRules::new`.
use Rattle.rule_paths.proofs.PairLaws.{Ahead}
use Rattle.rule_paths.proofs.resolved.ResolvedRules.new.Given as goal

abbrev pub invariant-loop-pair : goal.invariant-loop-pair
invariant-loop-pair g l = Ahead l.rules l.pair-iterator
