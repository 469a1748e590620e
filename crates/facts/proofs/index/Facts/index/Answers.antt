-- `facts::index::Facts::index` meets its contract.
use mathlib.Core.Path.{ap, ◌∙◌}
use native.Mathlib.Omega.{arith}
use lib.ListN.{length}
use lib.Seq.{length-take-le}
use Rattle.sorting.specs.Sorted.{sort}
use Rattle.sorting.proofs.Laws.{length-sort, sort_rising}
use Prim.Native.Nat.{◌/◌}
use Rattle.facts.specs.Facts.{facts_of}
use Rattle.facts.specs.Keys.{index_of}
use Rattle.facts.proofs.IndexLaws.{length-entries}
use Rattle.facts.proofs.FactLaws.{length_facts}
use Rattle.facts.proofs.index.Facts.index.Goals as goal

pub lay_entries-requires : goal.lay_entries-requires
lay_entries-requires c =
    let a = c.args in (
      omega (arith, length_facts a.words.now, length-take-le (length a.words.now / 4) a.index.entries.now c.requires.few.1),
      omega (arith, length-take-le (length a.words.now / 4) a.index.entries.now c.requires.few.1),
      c.requires.low,
    )

pub lay_starts-requires : goal.lay_starts-requires
lay_starts-requires c =
    let l = c.args.words.now in
    let n = ap length c.sort.ensures ∙ length-sort c.lay_entries.new.entries ∙ ap length c.lay_entries.ensures ∙ length-entries 0 (facts_of l) in
    (rw c.sort.ensures (sort_rising c.lay_entries.new.entries), omega (arith, n, length_facts l, c.requires.few), c.requires.starts_len)

pub invariant_of-result : goal.invariant_of-result
unfolding index_of
invariant_of-result c =
    let l = c.args.words.now in record {
      few = omega (arith, length_facts l);
      low = c.requires.low;
      sorted = c.sort.ensures ∙ ap sort c.lay_entries.ensures;
      begins = c.lay_starts.ensures;
    }
