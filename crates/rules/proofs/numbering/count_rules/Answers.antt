-- `rules::numbering::count_rules` meets its contract.
use Rattle.std.proofs.Common.{rules, tests, ◌∙◌, sym, length}
use Rattle.std.proofs.lemmas.Iterator.{YieldsList-from_map}
use Rattle.std.proofs.lemmas.Iterator.Consumers.{YieldsList-from_first, sum_by_from_yields_List}
use Rattle.fragments.specs.Pairs.{Pair, pairs_in}
use Rattle.rules.specs.Forms.{forms_left}
use Rattle.rules.proofs.RuleLaws.{count_sum}
use Rattle.rules.proofs.numbering.count_rules.Goals as goal

pub returns : goal.returns
returns c =
    let ps = pairs_in c.args.pairs.now in
    let left = λ (p : Pair). length (forms_left p) in
    sum_by_from_yields_List left ps _ c.sum.result c.sum.ensures.ran (YieldsList-from_map _ left (YieldsList-from_first (λ x. x) (λ it. it) ps (cc)) (cc) (λ x r q k. search (rules, tests))) ∙ sym (count_sum 0 ps)
