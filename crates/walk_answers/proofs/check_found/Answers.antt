-- `walk_answers::check_found` meets its contract.
use Rattle.std.proofs.Common.{sym, ap, ◌∙◌, rules, arith}
use lib.Seq.{length-take-le}
use Rattle.candidates.specs.Candidates.{candidate_count}
use Rattle.job_checks.specs.Checks.{job_on}
use Rattle.walk_nodes.specs.WalkCandidates.{words_of}
use Rattle.walk_answers.specs.Walk.{walk_in}
use Rattle.walk_answers.proofs.ListLaws.{count-words}
use Rattle.walk_answers.proofs.CheckLaws.{few_matches}
use Rattle.walk_answers.proofs.FoundLaws.{few_found, list_found, checked_found}
use Rattle.walk_answers.proofs.check_found.Goals as goal

pub returns-in_err-parses-clause-value : goal.returns-in_err-parses-clause-value
returns-in_err-parses-clause-value g c =
    let few = few_found c.args.given c.len.result c.args.found.now c.requires.matches c.len.ensures.value c.len.ensures.few in
    let k = sym c.in_err-parses.ensures ∙ few_matches (walk_in c.args.given) (sym c.requires.walkable.passed) few in search (rules, k)

pub order_candidates-requires : goal.order_candidates-requires
order_candidates-requires g c =
    length-take-le _ c.args.keys.now (omega (arith, c.len.ensures.few, c.fits-keys)) ∙ c.len.ensures.value
    ∙ sym (ap candidate_count c.words-candidates.ensures ∙ count-words c.args.found.now)

pub invariant_of-result : goal.invariant_of-result
invariant_of-result g c =
    let few = few_found c.args.given c.len.result c.args.found.now c.requires.matches c.len.ensures.value c.len.ensures.few in record {
      checked = checked_found c.args.given c.words-candidates.result.now (c.words-candidates.ensures ∙ ap words_of c.requires.matches) _ _ _ _
          c.requires.walkable few c.in_ok-parses.ensures.1 c.in_ok-parses.ensures.0 c.order_candidates.ensures;
    }

pub returns-clause-value : goal.returns-clause-value
returns-clause-value g c =
    let few = few_found c.args.given c.len.result c.args.found.now c.requires.matches c.len.ensures.value c.len.ensures.few in
    sym c.in_ok-parses.ensures.0 ∙ few_matches (walk_in c.args.given) (sym c.requires.walkable.passed) few

pub returns-clause-found_job : goal.returns-clause-found_job
returns-clause-found_job g c =
    let words = c.words-candidates.ensures ∙ ap words_of c.requires.matches in record {
      is = ap (job_on c.args.given) words;
      list = list_found c.args.given c.words-candidates.result.now words;
    }
