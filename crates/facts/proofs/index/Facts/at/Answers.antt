-- `facts::index::Facts::at` meets its contract.
use mathlib.Core.Path.{sym, ap, ◌∙◌}
use native.Mathlib.Omega.{arith}
use Rattle.std.specs.Prelude.{Some}
use Rattle.std.proofs.lemmas.Option.{slice_get_past}
use Rattle.facts.specs.Facts.{facts_of}
use Rattle.facts.proofs.FactLaws.{get_fact}
use Rattle.facts.proofs.IndexLaws.{index_length}
use Rattle.facts.proofs.index.Facts.at.Goals as goal

pub returns-then-place-self : goal.returns-then-place-self
returns-then-place-self c = let s = c.self.inside in rw (← c.self.view_is) (ap Some (rw c.tail.ensures at c.read.ensures) ∙ sym (get_fact s.words.now c.args.place (omega (arith, index_length _ _ _ c.self.invariant))))

pub returns : goal.returns
returns c = let s = c.self.inside in rw (← c.self.view_is) (sym (slice_get_past (facts_of s.words.now) c.args.place (omega (arith, index_length _ _ _ c.self.invariant))))
