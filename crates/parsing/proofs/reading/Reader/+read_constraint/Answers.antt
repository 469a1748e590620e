-- `Reader::read_constraint` meets its contract.
use Rattle.std.proofs.Common.{◌+◌, refl, sym, ap, ◌∙◌, length, arith, add-zero}
use Rattle.std.proofs.lemmas.Result.{err_from_is_err_and}
use Rattle.words.specs.Texts.{open_text, close_text}
use Rattle.errors.specs.declared.Refusal.TheVariants.{UnsupportedConstraint}
use Rattle.parsing.specs.Reading.{constraint, not_open, closed, closing}
use Rattle.parsing.proofs.Laws.{stops, ends, passes, misses, begins_kind, begins_not, negates, closing_next}
use Rattle.parsing.proofs.reading.Reader.+read_constraint.Goals as goal

pub returns-in_default-clause-read : goal.returns-in_default-clause-read
returns-in_default-clause-read m c = λ p n acc. rw c.in_default.ensures.steps.0 (ends c.args.self.now.text.now acc (constraint p n))

pub returns-in_err-read_kind-clause-read : goal.returns-in_err-read_kind-clause-read
returns-in_err-read_kind-clause-read m c =
    let e = err_from_is_err_and c.from_residual.result c.from_residual.ensures.1 in
    rw (e.1, e.2) (λ p n acc. begins_kind c.args.self.now.text.now acc _ _ c.in-Some.token c.in-Some.ensures.steps (sym c.says.ensures ∙ c.if-says.true) p n
    ∙ c.in_err-read_kind.ensures.read p n acc)

pub returns-then-says-clause-read : goal.returns-then-says-clause-read
returns-then-says-clause-read m c = (
  omega (arith, ap length c.in-Some.ensures.steps, c.in_ok-read_kind.ensures.read.0),
  λ p n acc. begins_kind c.args.self.now.text.now acc _ _ c.in-Some.token c.in-Some.ensures.steps (sym c.says.ensures ∙ c.if-says.true) p n
      ∙ c.in_ok-read_kind.ensures.read.1 p n acc ∙ rw (add-zero n),
)

pub returns-in_err-pass-clause-read : goal.returns-in_err-pass-clause-read
returns-in_err-pass-clause-read m c =
    let t = c.args.self.now.text.now in
    let e = err_from_is_err_and c.from_residual-in_err-pass.result c.from_residual-in_err-pass.ensures.1 in
    rw (e.1, e.2) (λ p n acc. begins_not t acc _ _ c.in-Some.token c.in-Some.ensures.steps (sym c.says.ensures ∙ c.if-says.false) (sym c.says-2.ensures ∙ c.if-says-2.true) p n
    ∙ misses t acc (not_open p n) open_text _ _ c.in_err-pass.ensures.read refl (λ t h. rw h))

pub returns-in_err-nots-clause-read : goal.returns-in_err-nots-clause-read
returns-in_err-nots-clause-read m c =
    let t = c.args.self.now.text.now in
    let e = err_from_is_err_and c.from_residual-in_err-nots.result c.from_residual-in_err-nots.ensures.1 in
    let r = rw c.in_ok-pass.ensures.text at c.in_err-nots.ensures.read in
    rw (e.1, e.2) (λ p n acc. negates t acc _ _ _ c.in-Some.token c.in-Some.ensures.steps (sym c.says.ensures ∙ c.if-says.false) (sym c.says-2.ensures ∙ c.if-says-2.true) c.in_ok-pass.ensures.read p n
    ∙ r p (n + 1) acc)

pub returns-in_err-pass-2-clause-read : goal.returns-in_err-pass-2-clause-read
returns-in_err-pass-2-clause-read m c =
    let t = c.args.self.now.text.now in
    let j = c.in_ok-nots.nots in
    let e = err_from_is_err_and c.from_residual-in_err-pass-2.result c.from_residual-in_err-pass-2.ensures.1 in
    let r = rw c.in_ok-pass.ensures.text at c.in_ok-nots.ensures.read in
    let q = rw (c.in_ok-nots.ensures.text, c.in_ok-pass.ensures.text) at c.in_err-pass-2.ensures.read in
    rw (e.1, e.2) (λ p n acc. negates t acc _ _ _ c.in-Some.token c.in-Some.ensures.steps (sym c.says.ensures ∙ c.if-says.false) (sym c.says-2.ensures ∙ c.if-says-2.true) c.in_ok-pass.ensures.read p n
    ∙ r.1 p (n + 1) acc ∙ rw (closing_next p n j) (misses t acc (closing p (n + (j + 1)) n) close_text _ _ q refl (λ t h. rw h)))

pub returns-then-says-2-clause-read : goal.returns-then-says-2-clause-read
returns-then-says-2-clause-read m c =
    let t = c.args.self.now.text.now in
    let j = c.in_ok-nots.nots in
    let r = rw c.in_ok-pass.ensures.text at c.in_ok-nots.ensures.read in
    let q = rw (c.in_ok-nots.ensures.text, c.in_ok-pass.ensures.text) at c.in_ok-pass-2.ensures.read in (
      omega (arith, ap length c.in-Some.ensures.steps, ap length c.in_ok-pass.ensures.read.1, r.0, ap length q.1),
      λ p n acc. negates t acc _ _ _ c.in-Some.token c.in-Some.ensures.steps (sym c.says.ensures ∙ c.if-says.false) (sym c.says-2.ensures ∙ c.if-says-2.true) c.in_ok-pass.ensures.read p n
          ∙ r.1 p (n + 1) acc ∙ rw (closing_next p n j) (passes t acc (closing p (n + (j + 1)) n) close_text _ _ (closed p (n + (j + 1)) n) q (λ t h. rw h)),
    )

pub returns-clause-read : goal.returns-clause-read
returns-clause-read m c = λ p n acc.
    rw c.in-Some.ensures.steps (stops c.args.self.now.text.now acc (constraint p n) c.in-Some.token _ UnsupportedConstraint (rw (sym c.says.ensures ∙ c.if-says.false, sym c.says-2.ensures ∙ c.if-says-2.false)))
