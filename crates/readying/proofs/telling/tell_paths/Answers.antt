-- `readying::telling::tell_paths` meets its contract.
use Rattle.std.proofs.Common.{arith}
use Rattle.std.proofs.lemmas.List.{get_or_default}
use Rattle.std.proofs.lemmas.List.Edits.{map_over_more}
use Rattle.readying.specs.Ready.{told}
use Rattle.readying.proofs.telling.tell_paths.Goals as goal

pub loop-piece-preserved : goal.loop-piece-preserved
loop-piece-preserved c = let a = c.args in let l = c.loop-piece in
    rw c.told.ensures (map_over_more (told a.facts.now a.module) a.pieces.now l.pieces l.piece-index _ (omega (arith, c.loop-piece-test.true)) l.invariant (get_or_default l.pieces l.piece-index _ _ (omega (arith, c.loop-piece-test.true, l.auto.pieces))))
