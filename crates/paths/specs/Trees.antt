-- What the code's tree of a rule is.
-- Assumes nothing.
use Rattle.parsing.specs.Vars.{vars_of}
use Rattle.paths.specs.Steps.{Side, side_by, SideTree}
use Rattle.paths.specs.declared.resolving.RuleTree.{RuleTree}

abbrev pub side_of : RuleTree → Side
side_of x = side_by x.pattern.now.text.now (vars_of x.pattern.now) x.code.now x.facts

abbrev pub side_tree : RuleTree → SideTree
side_tree x = record { side = side_of x; words = x.tree.words.now }
