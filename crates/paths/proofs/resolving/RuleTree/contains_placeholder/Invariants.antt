-- `contains_placeholder` meets its contract.
use mathlib.Core.Path.{◌≡◌}
use Rattle.syntax.specs.Views.{elems_of}
use Rattle.paths.specs.Names.{contains_placeholder}
use Rattle.paths.specs.Trees.{side_of}
use Rattle.paths.proofs.resolving.RuleTree.contains_placeholder.Given as goal

abbrev pub invariant-loop-path : goal.invariant-loop-path
invariant-loop-path l = contains_placeholder (side_of l.self).placeholders l.self.code.now (elems_of l.siblings) ≡ contains_placeholder (side_of l.self).placeholders l.self.code.now (elems_of l.path-iterator.siblings)
