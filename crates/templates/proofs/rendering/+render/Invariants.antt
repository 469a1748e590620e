-- `render_node_children` and `render_node_or_token` meet their contracts. The measure is twice the part's length, and one more for siblings.
use mathlib.Core.Path.{◌≡◌}
use mathlib.Core.List.{List, ◌++◌}
use Prim.Native.Nat.{ℕ, ◌+◌, ◌*◌, ◌≤◌}
use lib.ListN.{length, take}
use Rattle.syntax.specs.Trees.{size}
use Rattle.syntax.specs.Views.{elems_of, IsWithin}
use Rattle.paths.specs.Steps.{root_of}
use Rattle.templates.specs.Pieces.{template_of, render}
use Rattle.templates.specs.Rendering.{only_of, mode_of, AreLow}
use Rattle.templates.proofs.rendering.+render.Given as goal

abbrev pub decreases-render_node_children : goal.decreases-render_node_children
decreases-render_node_children l = 2 * length l.part.words.now + 1

abbrev pub decreases-render_node_or_token : goal.decreases-render_node_or_token
decreases-render_node_or_token l = 2 * length l.c.words.now

abbrev pub invariant-render_node_children-loop-c : goal.invariant-render_node_children-loop-c
invariant-render_node_children-loop-c l = record {
  inside : IsWithin l.c-iterator l.part;
  shorter : length l.c-iterator.words.now ≤ length l.part.words.now;
  same : length l.out ≡ length l.initial.out;
  few : l.count + size (elems_of l.c-iterator) ≤ size (elems_of l.part);
  low : AreLow (elems_of l.c-iterator);
  laid : (rs : List ℕ) → l.receiver ≡ only_of rs
      → take l.count l.out ++ render (template_of l.resolved.side (root_of l.resolved)) (mode_of l.nameless) rs (elems_of l.c-iterator)
      ≡ render (template_of l.resolved.side (root_of l.resolved)) (mode_of l.nameless) rs (elems_of l.part);
}
