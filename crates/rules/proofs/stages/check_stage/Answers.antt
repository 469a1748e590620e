-- `rules::stages::check_stage` meets its contract.
use Rattle.std.proofs.Common.{rules, ◌∙◌}
use borrow.Author.Tests.{tests}
use Rattle.std.proofs.lemmas.Iterator.Consumers.{fold_from_yields_List, YieldsList-from_first}
use Rattle.errors.specs.Refusals.{ok, lowest_of}
use Rattle.fragments.specs.Pairs.{pairs_in}
use Rattle.rules.specs.Stages.{pair_stage, stage_outcome}
use Rattle.rules.proofs.StageLaws.{fold_lowest}
use Rattle.rules.proofs.stages.check_stage.Goals as goal

pub returns : goal.returns
unfolding stage_outcome
returns c = let f = pair_stage c.args.stage in let ps = pairs_in c.args.pairs.now in
    fold_from_yields_List _ (λ b x. lowest_of b (f x)) ok _ c.fold.ensures.ran (YieldsList-from_first (λ x. x) (λ it. it) ps (cc)) (λ b x r q k. search (rules, tests)) ∙ fold_lowest f ps
