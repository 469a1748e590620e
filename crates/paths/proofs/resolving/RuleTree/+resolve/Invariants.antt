-- `resolve_siblings` and `resolve_element` meet their contracts. The measure is twice the part's length, and one more for siblings.
use mathlib.Core.Path.{◌≡◌}
use mathlib.Core.List.{List}
use Prim.Native.Nat.{◌+◌, ◌*◌, ◌≤◌}
use lib.ListN.{length}
use Rattle.errors.specs.Refusals.{Outcome}
use Rattle.syntax.specs.Views.{elems_of, IsWithin}
use Rattle.paths.specs.Tables.{AtSiblings}
use Rattle.paths.specs.Trees.{side_of}
use Rattle.paths.specs.declared.resolving.Noted.{Noted}
use Rattle.paths.proofs.resolving.RuleTree.+resolve.Given as goal

abbrev pub decreases-resolve_siblings : goal.decreases-resolve_siblings
decreases-resolve_siblings l = 2 * length l.part.words.now + 1

abbrev pub decreases-resolve_element : goal.decreases-resolve_element
decreases-resolve_element l = 2 * length l.c.words.now

abbrev pub invariant-resolve_siblings-loop-c : goal.invariant-resolve_siblings-loop-c
invariant-resolve_siblings-loop-c l = IsWithin l.c-iterator l.part × (length l.c-iterator.words.now ≤ length l.part.words.now) × (length l.notes ≡ length l.initial.notes)
    × ((r : Outcome) (end : List Noted) → AtSiblings (side_of l.self) (elems_of l.c-iterator) l.parent l.grandparent r l.notes end → AtSiblings (side_of l.self) (elems_of l.part) l.parent l.grandparent r l.initial.notes end)
