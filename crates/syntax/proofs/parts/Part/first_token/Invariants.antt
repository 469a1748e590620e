-- `syntax::parts::Part::first_token` meets its contract.
use mathlib.Core.Path.{◌≡◌}
use lib.ListN.{length}
use Rattle.syntax.specs.Views.{elems_of, IsWithin}
use Rattle.syntax.specs.Accessors.{first_token}
use Rattle.syntax.proofs.parts.Part.first_token.Given as goal

abbrev pub invariant-loop-c : goal.invariant-loop-c
invariant-loop-c l = (first_token (elems_of l.c) ≡ first_token (elems_of l.self)) × IsWithin l.c l.self

abbrev pub decreases-loop-c : goal.decreases-loop-c
decreases-loop-c l = length l.c.words.now
