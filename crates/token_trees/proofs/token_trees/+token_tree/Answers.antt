-- Where a run stops, a subtree there is matched first, and then the placeholder is bound.
use native.Mathlib.Omega.{arith}
use Rattle.matcher.specs.Matcher.{matcher_of}
use Rattle.token_trees.proofs.TokenTreeLaws.{First, no_subtree, subtree, run_stops}
use Rattle.token_trees.proofs.token_trees.+token_tree.Goals.{run_turn-in-Node+in_ok-t-in-Node, run_turn-in-Token}
use Rattle.token_trees.proofs.token_trees.+token_tree.Goals as goal

pub run_turn-returns-clause-turn_of : goal.run_turn-returns-clause-turn_of
run_turn-returns-clause-turn_of t c =
    let first : First (matcher_of c.args.x.now) c.args.p c.args.c c.args.s c.args.out.now c.run_from-run.result c.match-kind.t c.match-kind.out =
    elim c.match-kind.branch [ run_turn-in-Node+in_ok-t-in-Node w ↦ grind (arith, subtree) | run_turn-in-Token w ↦ grind (arith, no_subtree) ] in
    run_stops (matcher_of c.args.x.now) c.args.slot c.args.p c.rest.result c.args.c c.args.s c.args.out.now c.run_from-run.result c.rest.ensures.value c.run_from-run.ensures.value
    c.rest-2.result c.rest-rest.result c.match-kind.t c.bind-2.result c.match-kind.out c.rest-rest.ensures.value (omega (arith, c.rest-2.ensures.shorter, c.skip_trivia-q.ensures.result_in_bounds, c.run_from-run.ensures.p_in_bounds, c.rest.ensures.shorter))
    (omega (arith, c.rest-rest.ensures.shorter, c.run_from-run.ensures.c_in_bounds)) c.bind-2.ensures c.in-Some.kind c.skip_trivia-q.result first c.in-Some.is c.skip_trivia-q.ensures.value c.rest-2.ensures.value
