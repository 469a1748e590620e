-- `parses::is_node_range` meets its contract.
use Rattle.std.proofs.Common.{sym, ◌∙◌, rules}
use borrow.Author.Tests.{tests}
use Rattle.std.proofs.lemmas.Iterator.{YieldsList-from_slice}
use Rattle.std.proofs.lemmas.Iterator.Search.{any_from_yields_List}
use Rattle.parses.specs.Ranges.{range_at, is_from}
use Rattle.parses.proofs.RangeLaws.{any_ranges}
use Rattle.parses.proofs.is_node_range.Goals as goal

pub returns : goal.returns
returns c =
    let test = is_from c.args.start c.args.end in
    any_from_yields_List (λ w. test (range_at w)) _ _ c.any.result c.any.ensures.ran (YieldsList-from_slice c.args.ranges.now cc) (λ x b q k. search (rules, tests))
    ∙ sym (any_ranges test c.args.ranges.now)
