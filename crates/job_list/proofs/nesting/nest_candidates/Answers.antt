-- `nesting::nest_candidates` meets its contract.
use mathlib.Core.Path.{◌∙◌}
use Rattle.job_list.proofs.ShownLaws.{may_nest, may_link, rows_of}
use Rattle.job_list.proofs.nesting.nest_candidates.Goals as goal

pub nest_and_remove_collisions-requires-clause-candidates : goal.nest_and_remove_collisions-requires-clause-candidates
nest_and_remove_collisions-requires-clause-candidates g c =
    may_nest _ _ _ _ _ c.args.job.now.checked _ (c.gather_all.auto.rows ∙ c.requires) c.gather_all.ensures

pub link_rows-requires-clause-few : goal.link_rows-requires-clause-few
link_rows-requires-clause-few g c =
    (may_link _ _ _ _ _ c.args.job.now.checked _ (c.gather_all.auto.rows ∙ c.requires) c.gather_all.ensures _ c.nest_and_remove_collisions.ensures).0

pub returns : goal.returns
returns g c =
    rows_of _ _ _ _ _ c.args.job.now.checked _ (c.gather_all.auto.rows ∙ c.requires) c.gather_all.ensures _ c.nest_and_remove_collisions.ensures _ c.link_rows.ensures
