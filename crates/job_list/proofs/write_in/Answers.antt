-- `job_list::write_in` meets its contract.
use native.Mathlib.Omega.{arith}
use Rattle.std.proofs.Common.{rules as goal_rules}
use Rattle.job_checks.specs.Checks.{job_in}
use Rattle.job_list.specs.Rows.{world_in}
use Rattle.job_list.proofs.ListLaws.{is_shown, lists}
use Rattle.job_list.proofs.write_in.Goals as goal

pub write_edits-requires : goal.write_edits-requires
write_edits-requires g c = (
  search goal_rules,
  (
    search goal_rules,
    (
      c.requires.fits,
      (
        world_in (job_in c.args.job.now.given) c.nest_candidates.new.rows,
        is_shown _ _ _ _ _ c.args.job.now.checked _ c.nest_candidates.ensures,
        omega (arith, c.nest_candidates.auto.rows, c.requires.few.0),
      ),
    ),
  ),
)

pub returns-clause-value : goal.returns-clause-value
returns-clause-value g c =
    (lists _ _ _ _ _ c.args.job.now.checked _ c.nest_candidates.ensures c.args.out.now c.write_edits.new.out c.write_edits.result c.write_edits.ensures).0

pub returns-clause-out_after : goal.returns-clause-out_after
returns-clause-out_after g c =
    (lists _ _ _ _ _ c.args.job.now.checked _ c.nest_candidates.ensures c.args.out.now c.write_edits.new.out c.write_edits.result c.write_edits.ensures).1
