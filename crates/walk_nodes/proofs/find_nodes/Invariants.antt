-- `walk_nodes::find_nodes` meets its contract: what matches before the next node is found.
use mathlib.Core.Path.{◌≡◌}
use Prim.Native.Nat.{◌+◌, ◌-◌, ◌/◌, ◌<◌}
use lib.ListN.{length}
use Rattle.std.proofs.Common.{option_copied, unwrap_or, IfSome}
use Rattle.syntax.specs.Trees.{size}
use Rattle.syntax.specs.Views.{tree_of}
use Rattle.matcher.specs.Matcher.{matcher_of}
use Rattle.walk_nodes.proofs.NodeLaws.{FoundBefore}
use Rattle.walk_nodes.proofs.find_nodes.Given as goal

abbrev pub invariant-loop-next : goal.invariant-loop-next
invariant-loop-next l = (length l.out ≡ length l.initial.out)
    × IfSome l.next (λ node. node < length l.x.tree.words.now / 3)
    × FoundBefore (matcher_of l.x) (length l.pattern.words.now + length l.x.tree.words.now) (tree_of l.pattern) (option_copied l.template) l.range l.rule l.initial.found l.next l.found

abbrev pub decreases-loop-next : goal.decreases-loop-next
decreases-loop-next l = size (tree_of l.x.tree) - unwrap_or l.next (size (tree_of l.x.tree))
