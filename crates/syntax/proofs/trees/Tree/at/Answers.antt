-- `syntax::trees::Tree::at` meets its contract.
use mathlib.Core.Path.{◌≡◌, ◌∙◌}
use Prim.Native.Nat.{◌*◌}
use lib.ListN.{drop}
use native.Mathlib.Omega.{arith}
use Rattle.syntax.proofs.FormedLaws.{formed_is}
use Rattle.syntax.proofs.ViewLaws.{at_is}
use Rattle.syntax.proofs.trees.Tree.at.Goals as goal

pub returns-clause-value : goal.returns-clause-value
returns-clause-value c =
    let w = c.args.self.words.now in let b = c.behind in let m = c.min.result in
    let n : b.result.number ≡ m = omega (arith, b.ensures.result_number, c.root.ensures.result_number) in
    let e : b.result.words.now ≡ drop (m * 3) w = b.ensures.words_value ∙ rw c.root.ensures.words_value in
    rw (n, e) (at_is w c.args.number (formed_is w c.args.self.formed) m c.len.result c.len.ensures.by_words c.min.ensures)
