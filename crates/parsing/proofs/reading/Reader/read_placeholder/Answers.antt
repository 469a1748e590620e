-- `Reader::read_placeholder` meets its contract.
use Rattle.std.proofs.Common.{ap, ◌∙◌, length, arith}
use borrow.Author.Tests.{ne_eqb}
use Rattle.errors.specs.declared.Refusal.TheVariants.{NeitherNameNorBrace}
use Rattle.parsing.specs.Reading.{dollar, brace}
use Rattle.parsing.proofs.Laws.{goes, stops, ends, follows, placeholder_later}
use Rattle.parsing.proofs.reading.Reader.read_placeholder.Goals as goal

pub returns-in_default-clause-read : goal.returns-in_default-clause-read
returns-in_default-clause-read c = λ acc. rw c.in_default.ensures.steps.0 (ends c.args.self.now.text.now acc (dollar c.args.start))

pub returns-in-1-clause-read : goal.returns-in-1-clause-read
returns-in-1-clause-read c =
    let token = c.in-Some.token in (
      rw c.new.ensures (omega (arith, ap length c.in-Some.ensures.steps)),
      λ acc. rw c.in-Some.ensures.steps (follows c.args.self.now.text.now acc (dollar c.args.start) token _ ∙ rw (c.new.ensures, c.in-1.is)),
    )

pub returns-in-9-clause-read : goal.returns-in-9-clause-read
returns-in-9-clause-read c =
    let token = c.in-Some.token in
    placeholder_later c.args.self.now.text.now _ _ _ (dollar c.args.start) (brace c.args.start) c.read_braces.result
    (omega (arith, ap length c.in-Some.ensures.steps))
    (λ acc. rw c.in-Some.ensures.steps (goes c.args.self.now.text.now acc (dollar c.args.start) token _ acc (brace c.args.start) (rw c.in-9.is)))
    c.read_braces.ensures.read

pub returns-in_default-kind-clause-read : goal.returns-in_default-kind-clause-read
returns-in_default-kind-clause-read c = λ acc.
    let token = c.in-Some.token in
    rw c.in-Some.ensures.steps (stops c.args.self.now.text.now acc (dollar c.args.start) token _ NeitherNameNorBrace (rw (ne_eqb token.kind 1 (λ e. omega arith), ne_eqb token.kind 9 (λ e. omega arith))))
