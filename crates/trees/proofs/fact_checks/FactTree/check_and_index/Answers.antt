-- `trees::fact_checks::check_and_index` meets its contract.
use mathlib.Core.Path.{refl, sym, ◌∙◌}
use native.Mathlib.Omega.{arith}
use Rattle.facts.proofs.ListLaws.{list_low}
use Rattle.syntax.proofs.FormedLaws.{formed_is}
use Rattle.trees.proofs.ListLaws.{list_many, list_other, list_whole}
use Rattle.trees.proofs.fact_checks.FactTree.check_and_index.Goals as goal

pub returns-then-words-gt-MAX_FACTS-clause-refused : goal.returns-then-words-gt-MAX_FACTS-clause-refused
returns-then-words-gt-MAX_FACTS-clause-refused c = let a = c.args in (refl, list_many a.self.owner a.self.tree.words.now a.self.bytes a.words.now (omega arith))

pub returns-then-not-are_facts-clause-refused : goal.returns-then-not-are_facts-clause-refused
returns-then-not-are_facts-clause-refused c = let a = c.args in (refl, list_other a.self.owner a.self.tree.words.now a.self.bytes a.words.now (sym c.are_facts.ensures ∙ c.if-not-are_facts.true))

pub index-facts-requires-clause-low : goal.index-facts-requires-clause-low
index-facts-requires-clause-low c = let a = c.args in list_low a.self.owner a.self.tree.words.now a.self.bytes a.words.now (formed_is _ a.self.tree.formed) (sym c.are_facts.ensures ∙ c.if-not-are_facts.false)

pub returns-then-is_steady-clause-accepted : goal.returns-then-is_steady-clause-accepted
returns-then-is_steady-clause-accepted c = let a = c.args in let s = rw c.index-facts.ensures at c.is_steady.ensures in (c.index-facts.ensures, list_whole a.self.owner a.self.tree.words.now a.self.bytes a.words.now (omega arith) (sym c.are_facts.ensures ∙ c.if-not-are_facts.false) ∙ sym s ∙ c.if-is_steady.true)

pub returns-else-is_steady-clause-refused : goal.returns-else-is_steady-clause-refused
returns-else-is_steady-clause-refused c = let a = c.args in let s = rw c.index-facts.ensures at c.is_steady.ensures in (refl, list_whole a.self.owner a.self.tree.words.now a.self.bytes a.words.now (omega arith) (sym c.are_facts.ensures ∙ c.if-not-are_facts.false) ∙ sym s ∙ c.if-is_steady.false)
