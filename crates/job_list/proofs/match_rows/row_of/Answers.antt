-- `match_rows::row_of` meets its contract.
use Rattle.job_list.proofs.RowLaws.{row_failed, row_matched}
use Rattle.job_list.proofs.match_rows.row_of.Goals as goal

pub returns-in-None : goal.returns-in-None
returns-in-None c = λ a end g. row_failed a end c.args.node c.args.rule c.args.module (rw c.in-None.is at g)

pub returns-in-Some : goal.returns-in-Some
returns-in-Some c = λ a end g. row_matched a c.in-Some.state end c.args.node c.args.rule c.args.module (rw c.in-Some.is at g)
