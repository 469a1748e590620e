-- `job_list::write_checked` meets its contract.
use Rattle.std.proofs.Common.{rules as goal_rules}
use Rattle.job_list.proofs.ListLaws.{few_keys}
use Rattle.job_list.proofs.write_checked.Goals as goal

pub write_in-requires-2 : goal.write_in-requires-2
write_in-requires-2 g c = (search goal_rules, (search goal_rules, ((few_keys _ _ _ _ _ c.args.job.now.checked, search goal_rules), c.requires)))
