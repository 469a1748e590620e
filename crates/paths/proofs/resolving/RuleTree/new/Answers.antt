-- `new` meets its contract.
use Rattle.syntax.proofs.FormedLaws.{formed_is}
use Rattle.paths.proofs.TableLaws.{has_few, has_low}
use Rattle.paths.proofs.resolving.RuleTree.new.Goals as goal

pub index-facts-requires-clause-few : goal.index-facts-requires-clause-few
index-facts-requires-clause-few c = let t = c.args.tree in (has_few t.words.now c.args.facts.now (formed_is t.words.now t.formed) c.requires.has_facts, c.requires.index_len)

pub index-facts-requires-clause-low : goal.index-facts-requires-clause-low
index-facts-requires-clause-low c = let t = c.args.tree in has_low t.words.now c.args.facts.now (formed_is t.words.now t.formed) c.requires.has_facts
