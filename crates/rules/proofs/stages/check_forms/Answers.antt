-- `rules::stages::check_forms` meets its contract.
use Rattle.std.proofs.Common.{rules, ◌∙◌}
use borrow.Author.Tests.{tests}
use Rattle.std.proofs.lemmas.Iterator.{YieldsList-from_slice}
use Rattle.std.proofs.lemmas.Iterator.Consumers.{fold_from_yields_List}
use Rattle.errors.specs.Refusals.{ok, lowest_of}
use Rattle.fragments.specs.Forms.{five}
use Rattle.rules.specs.Stages.{form_outcome}
use Rattle.rules.proofs.StageLaws.{fold_lowest}
use Rattle.rules.proofs.stages.check_forms.Goals as goal

pub returns : goal.returns
returns c = let a = c.args in let f = form_outcome a.fact_bytes a.pair.now a.side a.code.is_right a.code.bytes in
    fold_from_yields_List _ (λ b x. lowest_of b (f x)) ok _ c.fold.ensures.ran (YieldsList-from_slice (five (λ x. x)) (cc)) (λ b x r q k. search (rules, tests)) ∙ fold_lowest f (five (λ x. x))
