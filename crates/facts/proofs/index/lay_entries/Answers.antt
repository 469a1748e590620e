-- `facts::index::lay_entries` meets its contract.
use mathlib.Core.Path.{◌≡◌, sym, ◌∙◌}
use Prim.Native.Nat.{◌*◌}
use native.Mathlib.Omega.{arith}
use lib.ListN.{drop}
use Rattle.facts.specs.Facts.{fact_at, facts_of}
use Rattle.facts.specs.Keys.{entries_from, key_of}
use Rattle.facts.proofs.FactLaws.{facts_from, in_range}
use Rattle.facts.proofs.IndexLaws.{entries-more, entries_end}
use Rattle.facts.proofs.index.lay_entries.Goals as goal

pub key_of-requires : goal.key_of-requires
key_of-requires c = rw (c.read-fact.ensures, c.tail.ensures) (in_range c.args.words.now c.loop-place.place (omega arith) c.requires.2)

pub loop-place-preserved : goal.loop-place-preserved
loop-place-preserved c = let p = c.loop-place in let l = c.args.words.now in let v : c.key_of.result ≡ key_of (fact_at (drop (4 * p.place) l)) = rw (c.read-fact.ensures, c.tail.ensures) at c.key_of.ensures.0 in entries-more (entries_from 0 (facts_of l)) p.entries p.place _ (fact_at (drop (4 * p.place) l)) (facts_of l) (facts_from l p.place (omega arith)) (rw v) (omega arith) p.invariant

pub returns : goal.returns
returns c = let p = c.loop-place in sym (p.invariant ∙ entries_end p.entries p.place (facts_of c.args.words.now) (omega arith) (omega arith))
