-- Buffers of one length.
-- Assumes nothing.
use mathlib.Core.Path.{◌≡◌}
use mathlib.Core.List.{List}
use Prim.Native.Nat.{ℕ, ◌≤◌}
use native.Mathlib.Omega.{arith}
use lib.ListN.{length, drop_of_length-le}
use borrow.Author.Tests.{le-leb}
use Rattle.words.specs.Buffer.{used_of, filled}

-- buffers of one length that are used whole are filled alike
pub filled_alike : (d e bs : List ℕ) → length e ≡ length d → length d ≤ 1048576 → filled e bs ≡ filled d bs
filled_alike d e bs l h =
    let u : used_of (length d) ≡ length d = rw (le-leb (length d) 1048576 h) in
    rw (l, u, drop_of_length-le e {i = length d} (omega arith), drop_of_length-le d {i = length d} (omega arith))
