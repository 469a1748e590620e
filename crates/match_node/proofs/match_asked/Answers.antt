-- `match_node::match_asked` meets its contract.
use Rattle.match_node.proofs.AskedLaws.{no_rule, bad_range, no_node, is_asked}
use Rattle.match_node.proofs.match_asked.Goals as goal

pub returns-in_default : goal.returns-in_default
returns-in_default g c = no_rule _ _ _ _ _ _ _ _ c.refuse.ensures.value c.refuse.ensures.out_after c.in_default.ensures

pub returns-then-is_reversed : goal.returns-then-is_reversed
returns-then-is_reversed g c = let r = c.refuse-then-is_reversed.ensures in bad_range _ _ _ _ _ _ _ _ r.value r.out_after c.in-Some.rule c.in-Some.ensures c.if-is_reversed.ensures

pub returns-then-not-is_node_at : goal.returns-then-not-is_node_at
returns-then-not-is_node_at g c = let r = c.refuse-then-not-is_node_at.ensures in no_node _ _ _ _ _ _ _ _ r.value r.out_after c.in-Some.rule c.in-Some.ensures c.if-not-is_node_at.ensures

pub returns : goal.returns
returns g c = let m = c.match_rule-state in
    is_asked _ _ _ _ _ _ _ _ c.in-Some.rule m.result m.new.out c.in-Some.ensures c.if-is_reversed.ensures c.if-not-is_node_at.ensures m.ensures.gives
    c.answer.ensures.value c.answer.ensures.out_after
