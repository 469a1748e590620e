-- `fragments::directory::add_up` meets its contract.
use Rattle.std.proofs.Common.{◌≡◌}
use Rattle.std.specs.Slice.Iter.{chunks_exact_rest, chunks_exact_size}
use Rattle.fragments.specs.Directory.{row_count, add_up}
use Rattle.fragments.proofs.directory.add_up.Given as goal

abbrev pub invariant-loop-row : goal.invariant-loop-row
invariant-loop-row l =
    record {
      left : add_up (row_count l.directory) l.directory l.words l.bytes ≡ add_up (row_count (chunks_exact_rest l.row-iterator)) (chunks_exact_rest l.row-iterator) l.left.0 l.left.1;
      size : chunks_exact_size l.row-iterator ≡ 27;
    }
