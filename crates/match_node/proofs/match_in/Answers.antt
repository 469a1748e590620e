-- `match_node::match_in` meets its contract.
use Rattle.checks.specs.Given.{given_in, file_in}
use Rattle.match_node.proofs.AskedLaws.{match_asked, match_refused}
use Rattle.match_node.proofs.match_in.Goals as goal

pub returns-in-Ok-clause-value : goal.returns-in-Ok-clause-value
returns-in-Ok-clause-value g c = let a = c.args in let e = c.in-Ok.ensures in let k = c.in-Ok.accepted in
    (match_asked a.rules (given_in a.file) a.question.rule a.question.range a.question.node a.out.now _ _ k.rules (file_in k.file) e.given e.value c.requires.out_len c.match_asked.ensures).0

pub returns-in-Ok-clause-out_after : goal.returns-in-Ok-clause-out_after
returns-in-Ok-clause-out_after g c = let a = c.args in let e = c.in-Ok.ensures in let k = c.in-Ok.accepted in
    (match_asked a.rules (given_in a.file) a.question.rule a.question.range a.question.node a.out.now _ _ k.rules (file_in k.file) e.given e.value c.requires.out_len c.match_asked.ensures).1

pub returns-in-Err-clause-value : goal.returns-in-Err-clause-value
returns-in-Err-clause-value g c = let a = c.args in
    (match_refused a.rules (given_in a.file) a.question.rule a.question.range a.question.node a.out.now _ _ c.in-Err.refusal c.in-Err.ensures.value c.refuse.ensures.value c.refuse.ensures.out_after).0

pub returns-in-Err-clause-out_after : goal.returns-in-Err-clause-out_after
returns-in-Err-clause-out_after g c = let a = c.args in
    (match_refused a.rules (given_in a.file) a.question.rule a.question.range a.question.node a.out.now _ _ c.in-Err.refusal c.in-Err.ensures.value c.refuse.ensures.value c.refuse.ensures.out_after).1
