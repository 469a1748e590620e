-- `rule_paths::passed::PassedPair::tree` meets its contract.
use Rattle.rule_paths.proofs.NeedLaws.{tree_formed, room_for_tree}
use Rattle.rule_paths.proofs.passed.PassedPair.tree.Goals as goal

pub new-requires : goal.new-requires
new-requires g c = let i = c.self in rw c.tree.ensures (tree_formed i.inside.fact_bytes i.inside.pair c.args.side c.args.form i.invariant.passed (rw i.view_is c.requires))

pub returns-clause-fits : goal.returns-clause-fits
returns-clause-fits g c = let i = c.self in rw (c.new.ensures, c.tree.ensures) (room_for_tree i.inside.fact_bytes i.inside.pair c.args.side c.args.form i.invariant.passed (rw i.view_is c.requires) g.row.N i.invariant.room)
