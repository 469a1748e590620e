-- `FormsLeft::get` meets its contract.
use Rattle.std.proofs.Common.{rules, ◌∙◌}
use borrow.Author.Tests.{tests}
use Rattle.std.proofs.lemmas.Iterator.{YieldsList-from_slice}
use Rattle.std.proofs.lemmas.Iterator.Consumers.{YieldsList-from_filter, nth_from_yields_List}
use Rattle.rules.specs.Forms.{passing, flag}
use Rattle.rules.proofs.forms.FormsLeft.get.Goals as goal

pub returns : goal.returns
unfolding passing
returns c = let s = c.self.inside in
    rw (← c.self.view_is) (c.copied.ensures ∙ nth_from_yields_List _ _ _ c.nth.ensures.ran (YieldsList-from_filter _ (flag s.is_left) (YieldsList-from_slice s.to_come.now (cc)) c.filter.ensures.closure (λ x b q k. search (rules, tests))))
