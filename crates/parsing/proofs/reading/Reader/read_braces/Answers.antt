-- `Reader::read_braces` meets its contract.
use Rattle.std.proofs.Common.{ap, ◌∙◌, length, arith}
use Rattle.std.proofs.lemmas.Result.{err_from_is_err_and}
use borrow.Author.Tests.{ne_eqb}
use Rattle.parsing.specs.Reading.{brace}
use Rattle.parsing.proofs.Laws.{ends, ident_is, first_inside}
use Rattle.parsing.proofs.reading.Reader.read_braces.Goals as goal

pub returns-in_default-clause-read : goal.returns-in_default-clause-read
returns-in_default-clause-read c = λ acc. rw c.in_default.ensures.steps.0 (ends c.args.self.now.text.now acc (brace c.args.start))

pub returns-in_err-nots-clause-read : goal.returns-in_err-nots-clause-read
returns-in_err-nots-clause-read c =
    let e = err_from_is_err_and c.from_residual.result c.from_residual.ensures.1 in
    rw (e.1, e.2) (λ acc. first_inside c.args.self.now.text.now acc _ _ c.in-Some.first c.args.start c.in-Some.ensures.steps ∙ c.in_err-nots.ensures.read _ acc)

pub returns-then-first-ne-IDENT-clause-read : goal.returns-then-first-ne-IDENT-clause-read
returns-then-first-ne-IDENT-clause-read c = λ acc.
    first_inside c.args.self.now.text.now acc _ _ c.in-Some.first c.args.start c.in-Some.ensures.steps ∙ c.in_ok-nots.ensures.read.1 acc _
    ∙ rw (ne_eqb _ _ c.if-first-ne-IDENT.true)

pub returns-clause-read : goal.returns-clause-read
returns-clause-read c = (
  omega (arith, ap length c.in-Some.ensures.steps, c.in_ok-nots.ensures.read.0),
  λ acc. first_inside c.args.self.now.text.now acc _ _ c.in-Some.first c.args.start c.in-Some.ensures.steps ∙ c.in_ok-nots.ensures.read.1 acc _
      ∙ rw (ident_is c.in-Some.first c.if-first-ne-IDENT.false),
)
