-- `facts::index::lay_starts` meets its contract: the starts of the elements passed are laid, and the place is not behind the next one's.
use mathlib.Core.Path.{◌≡◌}
use Prim.Native.Nat.{ℕ, ◌*◌, ◌<◌, ◌≤◌}
use lib.ListN.{length, get_or}
use Rattle.sorting.specs.Sorted.{below}
use Rattle.facts.proofs.index.lay_starts.Given as goal

abbrev pub invariant-loop-element : goal.invariant-loop-element
invariant-loop-element l =
    (length l.starts ≡ length l.fn.starts)
    × (l.place ≤ below (l.element * 70368744177664) l.index)
    × ((e : ℕ) → e < l.element → get_or l.starts e 0 ≡ below (e * 70368744177664) l.index)
