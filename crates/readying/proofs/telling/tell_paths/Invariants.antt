-- `readying::telling::tell_paths` meets its contract: the pieces passed are told.
use Rattle.std.proofs.Common.{◌≡◌, map, ◌++◌, take, drop}
use Rattle.readying.specs.Ready.{told}
use Rattle.readying.proofs.telling.tell_paths.Given as goal

abbrev pub invariant-loop-piece : goal.invariant-loop-piece
invariant-loop-piece l = l.pieces ≡ map (told l.facts l.module) (take l.piece-index l.initial.pieces) ++ drop l.piece-index l.initial.pieces
