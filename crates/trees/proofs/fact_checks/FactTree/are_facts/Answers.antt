-- `trees::fact_checks::are_facts` meets its contract.
use mathlib.Core.Path.{sym, ◌∙◌}
use native.Mathlib.Omega.{arith}
use Rattle.syntax.specs.Views.{tree_of}
use Rattle.trees.proofs.FactLaws.{words_uneven, all_more, all_stop, even_more, all_end}
use Rattle.trees.proofs.fact_checks.FactTree.are_facts.Goals as goal

pub returns-then-words-ne0 : goal.returns-then-words-ne0
returns-then-words-ne0 c = rw (words_uneven c.args.words.now c.if-words-ne0.true)

pub returns-then-not-is_fact : goal.returns-then-not-is_fact
returns-then-not-is_fact c = let a = c.args in let l = c.loop-part.invariant in let s = c.in-Some.ensures.steps.1 in sym (l.2 ∙ all_stop a.self.owner (tree_of a.self.tree) a.self.bytes _ _ _ s.0 (s.1 ∙ l.0) (sym c.is_fact.ensures ∙ c.if-not-is_fact.true))

pub loop-part-preserved : goal.loop-part-preserved
loop-part-preserved c = let a = c.args in let l = c.loop-part.invariant in let s = c.in-Some.ensures.steps in (
  s.0 ∙ l.0,
  even_more a.self.owner (tree_of a.self.tree) a.self.bytes _ _ _ s.1.0 (s.1.1 ∙ l.0) l.1,
  l.2 ∙ all_more a.self.owner (tree_of a.self.tree) a.self.bytes _ _ _ s.1.0 (s.1.1 ∙ l.0) (sym c.is_fact.ensures ∙ c.if-not-is_fact.false),
)

pub returns : goal.returns
returns c = let a = c.args in let l = c.loop-part.invariant in sym (l.2 ∙ all_end a.self.owner (tree_of a.self.tree) a.self.bytes _ (omega (arith, c.in-None.ensures.steps.1.0, l.0)))
