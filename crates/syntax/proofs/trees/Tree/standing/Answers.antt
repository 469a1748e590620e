-- `syntax::trees::Tree::standing` meets its contract.
use mathlib.Core.Path.{◌≡◌, ap, subst, ◌∙◌}
use Prim.Native.Nat.{◌*◌}
use lib.ListN.{drop}
use native.Mathlib.Omega.{arith}
use Rattle.syntax.specs.Parts.{span}
use Rattle.syntax.proofs.Ancestors.{Reached, reach_start, reach-next, reach-below, reach_end, no_standing}
use Rattle.syntax.proofs.FormedLaws.{formed_is}
use Rattle.syntax.proofs.trees.Tree.standing.Goals as goal

pub returns-then-len-number : goal.returns-then-len-number
returns-then-len-number c = let w = c.args.self.words.now in no_standing w c.args.number (formed_is w c.args.self.formed) (omega (arith, c.if-len-number.true, c.len.ensures.by_words))

pub loop-at-init : goal.loop-at-init
loop-at-init c = let w = c.args.self.words.now in (reach_start w c.args.number (formed_is w c.args.self.formed) (omega (arith, c.if-len-number.false, c.len.ensures.by_words)), omega arith)

pub loop-at-preserved-then-next-number : goal.loop-at-preserved-then-next-number
loop-at-preserved-then-next-number c = let w = c.args.self.words.now in let l = c.loop-at in let sp : c.span_of.result ≡ span (drop (l.at * 3) w) = c.span_of.ensures ∙ ap span c.tail.ensures in (rw sp (reach-next w c.args.number l.depth l.parent l.at c.loop-at-test.true l.invariant.0 (rw sp at c.if-next-number.true)), omega (arith, l.invariant.1))

pub loop-at-preserved : goal.loop-at-preserved
loop-at-preserved c = let w = c.args.self.words.now in let l = c.loop-at in let sp : c.span_of.result ≡ span (drop (l.at * 3) w) = c.span_of.ensures ∙ ap span c.tail.ensures in (reach-below w c.args.number l.depth l.parent l.at c.loop-at-test.true l.invariant.0 (rw sp at c.if-next-number.false), omega (arith, l.invariant.1))

pub returns : goal.returns
returns c = let w = c.args.self.words.now in let l = c.loop-at in let n = c.args.number in let e : l.at ≡ n = omega (arith, l.invariant.0.low, c.loop-at-test.false) in reach_end w n l.depth l.parent (subst (λ x. Reached w n l.depth l.parent x) e l.invariant.0)
