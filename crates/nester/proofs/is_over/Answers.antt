-- `nester::is_over` meets its contract.
use Rattle.syntax.specs.Views.{elems_of}
use Rattle.nester.proofs.Lines.{over_span}
use Rattle.nester.proofs.is_over.Goals as goal

pub returns : goal.returns
returns c =
    let a = c.args in
    over_span a.tree.words.now a.tree.formed a.i a.j c.width.result (elems_of c.at.result) c.requires.i_bound c.requires.j_bound c.at.ensures.value c.width.ensures.value
