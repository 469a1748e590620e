-- `only_token` meets its contract. The lone token of what is left behind the one that was met is that of the part.
use mathlib.Core.Path.{◌≡◌}
use lib.ListN.{length}
use Rattle.syntax.specs.Views.{elems_of}
use Rattle.templates.specs.Pieces.{tokens_of}
use Rattle.templates.specs.Rendering.{only_of}
use Rattle.templates.proofs.TokenLaws.{tokens_in, only_after}
use Rattle.templates.proofs.receivers.only_token.Given as goal

abbrev pub invariant-loop-c : goal.invariant-loop-c
invariant-loop-c l = only_after l.only (tokens_in l.c.number l.c.words.now) ≡ only_of (tokens_of (elems_of l.part))

abbrev pub decreases-loop-c : goal.decreases-loop-c
decreases-loop-c l = length l.c.words.now
