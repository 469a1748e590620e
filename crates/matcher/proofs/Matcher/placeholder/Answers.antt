-- `matcher::Matcher::placeholder` meets its contract.
use mathlib.Core.Path.{sym, ◌∙◌}
use Rattle.matcher.specs.Matcher.{matcher_of}
use Rattle.matcher.proofs.PlaceholderLaws.{placeholder_is}
use Rattle.matcher.proofs.Matcher.placeholder.Goals as goal

pub returns-clause-value : goal.returns-clause-value
returns-clause-value c = c.slot_at.ensures.value ∙ sym (placeholder_is (matcher_of c.args.self.now) c.args.p (sym c.is_empty.ensures.value ∙ c.if-is_empty.false))
