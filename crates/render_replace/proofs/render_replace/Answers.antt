-- `render_replace::render_replace` meets its contract.
use Rattle.std.proofs.Common.{rules}
use Rattle.render_replace.proofs.RunLaws.{begins_turn, text_left}
use Rattle.render_replace.proofs.render_replace.Goals as goal

pub render_rows-requires : goal.render_rows-requires
render_rows-requires g c = let p = c.requires.shown in
    (search rules, (search rules, (c.requires.at_hand, (c.requires.fits.0, (p.0, begins_turn _ _ c.args.frames.now _ (search rules) (search rules) _ _ _ p.1 p.2 (search rules) c.requires.fits.1)))))

pub returns-clause-text_left : goal.returns-clause-text_left
returns-clause-text_left g c = text_left _ _ c.args.frames.now _ (search rules) (search rules) _ c.args.out.now _ _ (search rules) c.requires.fits.1 c.render_rows.ensures.run_left
