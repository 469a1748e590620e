-- `calls::prefix` meets its contract.
use mathlib.Core.Path.{sym, ◌∙◌}
use lib.ListN.{length}
use Rattle.syntax.specs.Accessors.{number_of}
use Rattle.syntax.specs.Views.{elems_of}
use Rattle.matcher.specs.Matcher.{matcher_of}
use Rattle.calls.proofs.CallLaws.{gives_no_self, gives_unbound, gives_bound}
use Rattle.calls.proofs.prefix.Goals as goal

pub returns-in-Some : goal.returns-in-Some
returns-in-Some c = let s = c.args in let e = c.number_of-call.ensures in λ out.
    gives_bound (matcher_of s.x.now) s.stars (elems_of s.q) (elems_of s.receiver) (number_of (elems_of s.c)) s.s out c.in-Some.slot c.bind.result
    (rw (← e) (sym c.takes_self.ensures ∙ c.if-takes_self.true)) (sym c.in-Some.ensures.value) (rw (← e, ← c.self_kind.ensures) (c.bind.ensures (length out)))

pub returns-in_default : goal.returns-in_default
returns-in_default c = let s = c.args in let e = c.number_of-call.ensures in λ out.
    gives_unbound (matcher_of s.x.now) s.stars (elems_of s.q) (elems_of s.receiver) (number_of (elems_of s.c)) s.s out
    (rw (← e) (sym c.takes_self.ensures ∙ c.if-takes_self.true)) (sym c.in_default.ensures.value)

pub returns-else-takes_self : goal.returns-else-takes_self
returns-else-takes_self c = let s = c.args in let e = c.number_of-call.ensures in λ out.
    gives_no_self (matcher_of s.x.now) s.stars (elems_of s.q) (elems_of s.receiver) (number_of (elems_of s.c)) s.s out
    (rw (← e) (sym c.takes_self.ensures ∙ c.if-takes_self.false))
