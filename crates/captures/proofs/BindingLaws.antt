-- The range of a part's first element fits a binding.
-- Assumes nothing.
use mathlib.Core.List.{List}
use Prim.Native.Nat.{ℕ, ◌<◌}
use native.Mathlib.Omega.{arith}
use lib.ListN.{length}
use Rattle.words.proofs.TestLaws.{low_or}
use Rattle.syntax.specs.Trees.{elems}
use Rattle.syntax.specs.Accessors.{range_of}
use Rattle.syntax.proofs.TreeLaws.{elems_end}
use Rattle.syntax.proofs.AccessorLaws.{range_is}
use Rattle.syntax.specs.declared.parts.Part.{Part}
use Rattle.syntax.specs.Views.{elems_of}

low_range : (i : ℕ) (l : List ℕ) → ((range_of (elems i l)).start < 4294967296) × ((range_of (elems i l)).end < 4294967296)
low_range i l = low_or (length l) 3
    (λ h. rw (elems_end i l h) (omega arith, omega arith))
    (λ h. rw (range_is i l h) (omega arith, omega arith))

pub start_fits : (p : Part) → (range_of (elems_of p)).start < 4294967296
start_fits p = (low_range p.number p.words.now).0

pub end_fits : (p : Part) → (range_of (elems_of p)).end < 4294967296
end_fits p = (low_range p.number p.words.now).1
