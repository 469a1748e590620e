-- `Reader::read_constraints` meets its contract.
use Rattle.std.proofs.Common.{ap, ◌∙◌, [], ◌∷◌, length, length-append, arith, zero-add, append_assoc}
use Rattle.std.proofs.lemmas.Result.{err_from_is_err_and}
use borrow.Author.Tests.{ne_eqb}
use Rattle.errors.specs.declared.Refusal.TheVariants.{UnexpectedToken}
use Rattle.parsing.specs.Reading.{inside, constraint}
use Rattle.parsing.specs.Patterns.{nots_of}
use Rattle.parsing.specs.Steps.{mores}
use Rattle.parsing.proofs.Laws.{goes, stops, ends, follows}
use Rattle.parsing.proofs.reading.Reader.read_constraints.Goals as goal

pub returns-in_err-read_constraint-in-10-clause-read : goal.returns-in_err-read_constraint-in-10-clause-read
returns-in_err-read_constraint-in-10-clause-read c =
    let t = c.args.self.now.text.now in
    let l = c.loop-token in
    let e = err_from_is_err_and c.from_residual.result c.from_residual.ensures.1 in
    let r = rw l.invariant.text at c.in_err-read_constraint-in-10.ensures.read in
    rw (e.1, e.2) (λ p acc. let q = mores p (nots_of l.nots) in
    l.invariant.read acc p ∙ rw c.in-Some.ensures.steps (goes t acc (inside q) c.in-Some.token _ acc (constraint q 0) (rw c.in-10.is)) ∙ r q 0 acc)

pub loop-token-preserved : goal.loop-token-preserved
loop-token-preserved c =
    let t = c.args.self.now.text.now in
    let l = c.loop-token in
    let m = c.in_ok-read_constraint-in-10 in
    let r = rw l.invariant.text at m.ensures.read in
    record {
      text = m.ensures.text ∙ l.invariant.text;
      few = omega (arith, l.invariant.few, ap length c.in-Some.ensures.steps, r.0, ap length c.push.ensures, length-append (nots_of l.nots) (m.field-0 ∷ []));
      read = λ acc p. let q = mores p (nots_of l.nots) in
          l.invariant.read acc p ∙ rw c.in-Some.ensures.steps (goes t acc (inside q) c.in-Some.token _ acc (constraint q 0) (rw c.in-10.is)) ∙ r.1 q 0 acc
          ∙ rw (c.push.ensures, zero-add _) (rw (append_assoc p.nots (nots_of l.nots) _));
    }

pub returns-in-6-clause-read : goal.returns-in-6-clause-read
returns-in-6-clause-read c =
    let t = c.args.self.now.text.now in
    let l = c.loop-token in (
      omega (arith, l.invariant.few, ap length c.in-Some.ensures.steps),
      λ acc p. l.invariant.read acc p ∙ rw c.in-Some.ensures.steps (follows t acc (inside (mores p (nots_of l.nots))) c.in-Some.token _ ∙ rw c.in-6.is),
    )

pub returns-in_default-kind-clause-read : goal.returns-in_default-kind-clause-read
returns-in_default-kind-clause-read c =
    let t = c.args.self.now.text.now in
    let l = c.loop-token in
    λ p acc. l.invariant.read acc p ∙ rw c.in-Some.ensures.steps (stops t acc (inside (mores p (nots_of l.nots))) c.in-Some.token _ UnexpectedToken (rw (ne_eqb c.in-Some.token.kind 10 (λ e. omega arith), ne_eqb c.in-Some.token.kind 6 (λ e. omega arith))))

pub returns-clause-read : goal.returns-clause-read
returns-clause-read c =
    let l = c.loop-token in
    λ p acc. l.invariant.read acc p ∙ rw c.in_default.ensures.steps.0 (ends c.args.self.now.text.now acc (inside (mores p (nots_of l.nots))))
