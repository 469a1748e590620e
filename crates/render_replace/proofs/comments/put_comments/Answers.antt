-- `render_replace::comments::put_comments` meets its contract.
use Rattle.std.proofs.Common.{rules}
use Rattle.render_replace.proofs.CommentLaws.{comments_fit}
use Rattle.render_replace.proofs.comments.put_comments.Goals as goal

pub returns-then-noted-out : goal.returns-then-noted-out
returns-then-noted-out g c = comments_fit _ _ _ c.requires.1 _ _ c.match_number-state.ensures.gives _ _ (search rules) c.noted_in-noted.ensures c.if-noted-out.true
