-- `is_tree_text` meets its contract.
use Rattle.std.proofs.Common.{sym, ap, ◌∙◌}
use Rattle.words.specs.Texts.{same_text}
use Rattle.rust_code.specs.Segments.{segments}
use Rattle.rust_code.proofs.CodeLaws.{list_few, tree_segments}
use Rattle.rust_code.proofs.tree_text.is_tree_text.Goals as goal

pub trimmed-requires : goal.trimmed-requires
trimmed-requires c = list_few c.args.list.words.now c.args.list.text.now c.requires

pub returns : goal.returns
returns c =
    let t = c.args.list.text.now in
    let r = c.trimmed.result in
    λ es h k. c.is_code_of.ensures ∙ ap (λ x. same_text x c.args.code.now) (ap (segments t r.end r.start) (sym k) ∙ sym (tree_segments c.args.list.words.now t es r c.trimmed.ensures c.requires h))
