-- `fragments::pairs::Iter::next` meets its contract.
use Rattle.std.proofs.Common.{sym, ◌∙◌, ap, length, arith}
use Rattle.fragments.proofs.PairLaws.{pairs_none, pairs_step}
use Rattle.fragments.proofs.pairs.IterIterator.next.Goals as goal

pub returns-then-self-eq0-clause-steps : goal.returns-then-self-eq0-clause-steps
returns-then-self-eq0-clause-steps c =
    let e = sym c.self.view_is ∙ rw c.if-self-eq0.true (pairs_none c.self.inside.pair) in
    (e, e)

pub returns-clause-steps : goal.returns-clause-steps
returns-clause-steps c = pairs_step _ _ _ _ _ c.self.view_is (omega arith) c.replace.ensures.value (c.replace.ensures.after ∙ c.next-behind.ensures.pair)

pub returns-clause-goes : goal.returns-clause-goes
returns-clause-goes c =
    let e = ap length (pairs_step _ _ _ _ _ c.self.view_is (omega arith) c.replace.ensures.value (c.replace.ensures.after ∙ c.next-behind.ensures.pair)) in
    record { on = λ _. (tt, tt, omega (arith, e)); keeps = tt; rests = λ _. tt }
