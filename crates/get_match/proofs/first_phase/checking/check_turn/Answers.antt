-- A node has its three words.
use Rattle.std.proofs.Common.{sym, ◌∙◌}
use Rattle.syntax.specs.Views.{elems_of}
use Rattle.syntax.proofs.SiblingLaws.{some_node, long_some}
use Rattle.get_match.proofs.first_phase.checking.check_turn.Goals as goal

pub check_nodes-requires : goal.check_nodes-requires
check_nodes-requires c =
    let q = c.skip_trivia-q.result in (long_some q.number q.words.now (some_node (elems_of q) (sym c.is_node.ensures ∙ c.if-not-is_node.false)), c.requires)
