-- `rule_paths::passed::PassedPair::facts` meets its contract.
use Rattle.rule_paths.proofs.NeedLaws.{tree_facts, room_for_facts}
use Rattle.rule_paths.proofs.passed.PassedPair.facts.Goals as goal

pub returns-clause-of_tree : goal.returns-clause-of_tree
returns-clause-of_tree g c = let i = c.self in rw (c.facts.ensures, ← i.view_is) (tree_facts i.inside.fact_bytes i.inside.pair c.args.side c.args.form i.invariant.passed (rw i.view_is c.requires))

pub returns-clause-fit : goal.returns-clause-fit
returns-clause-fit g c = let i = c.self in rw c.facts.ensures (room_for_facts i.inside.fact_bytes i.inside.pair c.args.side c.args.form i.invariant.passed (rw i.view_is c.requires) g.row.N i.invariant.room)
