-- `facts::index::Facts::is_steady` meets its contract.
use mathlib.Core.Path.{sym, ◌∙◌}
use native.Mathlib.Omega.{arith}
use Rattle.facts.proofs.IndexLaws.{index_steady, steady_stops, steady_goes, steady_end}
use Rattle.facts.proofs.index.Facts.is_steady.Goals as goal

pub returns-then-key-next : goal.returns-then-key-next
returns-then-key-next c = let l = c.loop-entry in rw (← c.self.view_is) (sym (l.invariant ∙ steady_stops l.next _ l.entry-index (omega arith) _ c.is_later_key.ensures
    c.if-key-next.true) ∙ index_steady _ _ _ c.self.invariant)

pub loop-entry-preserved : goal.loop-entry-preserved
loop-entry-preserved c = let l = c.loop-entry in l.invariant ∙ steady_goes l.next _ l.entry-index (omega arith) _ c.is_later_key.ensures
    c.if-key-next.false

pub returns : goal.returns
returns c = let l = c.loop-entry in rw (← c.self.view_is) (sym (l.invariant ∙ steady_end l.next _ l.entry-index (omega arith)) ∙ index_steady _ _ _
    c.self.invariant)
