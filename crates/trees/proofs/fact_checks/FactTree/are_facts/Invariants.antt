-- `trees::fact_checks::are_facts` meets its contract.
use mathlib.Core.Path.{◌≡◌}
use Rattle.std.specs.Slice.Iter.{chunks_exact_rest, chunks_exact_size}
use Prim.Native.Nat.{◌%◌}
use lib.ListN.{length}
use Rattle.syntax.specs.Views.{tree_of}
use Rattle.facts.proofs.FactLaws.{all_facts}
use Rattle.trees.proofs.fact_checks.FactTree.are_facts.Given as goal

abbrev pub invariant-loop-part : goal.invariant-loop-part
invariant-loop-part l =
    (chunks_exact_size l.part-iterator ≡ 4) × (length (chunks_exact_rest l.part-iterator) % 4 ≡ 0)
    × (all_facts l.self.owner (tree_of l.self.tree) l.self.bytes l.words ≡ all_facts l.self.owner (tree_of l.self.tree) l.self.bytes (chunks_exact_rest l.part-iterator))
