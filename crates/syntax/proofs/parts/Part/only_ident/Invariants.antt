-- `syntax::parts::Part::only_ident` meets its contract.
use mathlib.Core.Path.{◌≡◌}
use lib.ListN.{length}
use Rattle.syntax.specs.Views.{elems_of, IsWithin}
use Rattle.syntax.specs.Accessors.{only_ident}
use Rattle.syntax.proofs.parts.Part.only_ident.Given as goal

abbrev pub invariant-loop-c : goal.invariant-loop-c
invariant-loop-c l = (only_ident (elems_of l.c) ≡ only_ident (elems_of l.self)) × IsWithin l.c l.self

abbrev pub decreases-loop-c : goal.decreases-loop-c
decreases-loop-c l = length l.c.words.now
