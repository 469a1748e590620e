-- `candidates::are_named` meets its contract.
use Rattle.std.proofs.Common.{rules, tests, ◌∙◌, sym}
use Rattle.std.proofs.lemmas.Iterator.Search.{all_from_yields_List}
use Rattle.syntax.specs.Views.{tree_of}
use Rattle.candidates.specs.Candidates.{candidates_of, is_named}
use Rattle.candidates.proofs.Loops.{chunks_candidates, all_named}
use Rattle.candidates.proofs.are_named.Goals as goal

pub returns : goal.returns
returns c =
    let test = is_named (tree_of c.args.tree) c.args.rules in
    all_from_yields_List test _ _ c.all.result c.all.ensures.ran (chunks_candidates c.chunks.result c.chunks.ensures.size) (λ x b q k. search (rules, tests))
    ∙ rw c.chunks.ensures.rest (sym (all_named (tree_of c.args.tree) c.args.rules (candidates_of c.args.candidates.now)))
