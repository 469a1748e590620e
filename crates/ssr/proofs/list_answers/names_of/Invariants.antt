-- `exports::names_of` meets its contract. The names so far are those of the placeholders so far.
use Rattle.std.proofs.Common.{◌≡◌, map, take}
use Rattle.parsing.specs.Patterns.{placeholders_of, vars_at}
use Rattle.ssr.specs.Lists.{padded_to, no_name, name_of}
use Rattle.ssr.proofs.list_answers.names_of.Given as goal

abbrev pub invariant-loop-i : goal.invariant-loop-i
invariant-loop-i l = l.names ≡ padded_to 8 no_name (map name_of (vars_at (take l.i (placeholders_of l.pattern.placeholders))))
