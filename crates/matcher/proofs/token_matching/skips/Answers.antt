-- `matcher::token_matching::skips` meets its contract.
use Rattle.std.proofs.Common.{rules}
use borrow.Author.Tests.{tests}
use Rattle.std.proofs.lemmas.Iterator.{YieldsList-from_slice}
use Rattle.std.proofs.lemmas.Iterator.Search.{any_from_yields_List}
use Rattle.matcher.specs.Tokens.{is_pair}
use Rattle.matcher.proofs.token_matching.skips.Goals as goal

pub returns : goal.returns
returns c =
    any_from_yields_List (λ q. is_pair q c.args.kind c.args.next) _ _ c.any.result c.any.ensures.ran (YieldsList-from_slice c.args.sheet.now cc) (λ x b q k. search (rules, tests))
