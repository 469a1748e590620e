-- `contains_type_arguments` meets its contract.
use mathlib.Core.Path.{◌≡◌}
use Rattle.syntax.specs.Views.{elems_of}
use Rattle.paths.specs.Names.{contains_type_arguments}
use Rattle.paths.proofs.names.contains_type_arguments.Given as goal

abbrev pub invariant-loop-path : goal.invariant-loop-path
invariant-loop-path l = contains_type_arguments (elems_of l.siblings) ≡ contains_type_arguments (elems_of l.path-iterator.siblings)
