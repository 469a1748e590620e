-- `job_checks::parse_checks::are_ranges` meets its contract.
use Rattle.std.proofs.Common.{◌≡◌, sym, ◌∙◌, rules, arith, ◌%◌, length}
use borrow.Author.Tests.{tests}
use Rattle.std.proofs.lemmas.Iterator.{YieldsList-from_slice}
use Rattle.std.proofs.lemmas.Iterator.Search.{all_from_yields_List}
use Rattle.parses.specs.Ranges.{is_range}
use Rattle.job_checks.proofs.RangeLaws.{ranges_even}
use Rattle.job_checks.proofs.parse_checks.are_ranges.Goals as goal
use Rattle.job_checks.proofs.parse_checks.are_ranges.Goals.{After-all}

-- no word is left over
even : (c : After-all) → length c.args.words.now % 2 ≡ 0
even c = let e : length c.as_chunks.result.1.now ≡ 0 = search (rules, tests) in omega (arith, e, c.as_chunks.ensures.back_len)

pub returns-then-is_empty : goal.returns-then-is_empty
returns-then-is_empty c =
    all_from_yields_List (is_range c.args.n) _ _ c.all.result c.all.ensures.ran (YieldsList-from_slice c.as_chunks.result.0.now cc) (λ x b q k. search (rules, tests))
    ∙ rw c.as_chunks.ensures.front (sym (ranges_even c.args.n c.args.words.now (even c)))
