-- `render_template` meets its contract.
use Rattle.std.proofs.Common.{ap, length, arith}
use Rattle.syntax.specs.Trees.{size}
use Rattle.syntax.proofs.FormedLaws.{few, whole}
use Rattle.syntax.proofs.ViewLaws.{size_is}
use Rattle.templates.proofs.RenderLaws.{tree_low}
use Rattle.templates.proofs.rendering.render_template.Goals as goal

pub render_node_children-requires : goal.render_node_children-requires
render_node_children-requires c =
    let t = c.tree.result in
    let n = ap length c.tree.ensures in
    record {
      room = record {
        few = omega (arith, few t.words.now t.formed, whole t.words.now t.formed, ap length c.root.ensures.words_value, c.root.ensures.result_number);
        low = rw c.root.ensures.value (tree_low t.words.now t.formed);
        within = omega (arith, n, ap size c.root.ensures.value, size_is 0 t.words.now, c.requires);
      };
    }

pub returns-clause-out_len_unchanged : goal.returns-clause-out_len_unchanged
returns-clause-out_len_unchanged c =
    let t = c.tree.result in
    let n = ap length c.tree.ensures in
    (c.render_node_children.ensures.out_len_unchanged, omega (arith, n, ap size c.root.ensures.value, size_is 0 t.words.now, c.render_node_children.ensures.few))
