-- `Reader::read_kind` meets its contract.
use Rattle.std.proofs.Common.{◌≡◌, refl, sym, ap, ◌∙◌, true, false, length, arith}
use Rattle.std.proofs.lemmas.Result.{err_from_is_err_and}
use borrow.Author.Tests.{ne_eqb}
use Rattle.words.specs.Texts.{open_text, close_text, literal_text}
use Rattle.errors.specs.declared.Refusal.TheVariants.{NoKindIdent, UnknownKind}
use Rattle.parsing.specs.Reading.{kind_open, kind_name, kind_close, closed, is_text}
use Rattle.parsing.proofs.Laws.{stops, ends, passes, misses, named_inside}
use Rattle.parsing.proofs.reading.Reader.read_kind.Goals as goal

pub returns-in_err-pass-clause-read : goal.returns-in_err-pass-clause-read
returns-in_err-pass-clause-read c =
    let e = err_from_is_err_and c.from_residual.result c.from_residual.ensures.1 in
    rw (e.1, e.2) (λ p n acc. misses c.args.self.now.text.now acc (kind_open p n) open_text _ _ c.in_err-pass.ensures.read refl (λ t h. rw h))

pub returns-in_default-clause-read : goal.returns-in_default-clause-read
returns-in_default-clause-read c = λ p n acc.
    let t = c.args.self.now.text.now in
    passes t acc (kind_open p n) open_text _ _ (kind_name p n) c.in_ok-pass.ensures.read (λ t h. rw h)
    ∙ rw c.in_default.ensures.steps.0 (ends t acc (kind_name p n))

pub returns-then-name-ne-IDENT-clause-read : goal.returns-then-name-ne-IDENT-clause-read
returns-then-name-ne-IDENT-clause-read c = λ p n acc.
    let t = c.args.self.now.text.now in
    passes t acc (kind_open p n) open_text _ _ (kind_name p n) c.in_ok-pass.ensures.read (λ t h. rw h)
    ∙ rw c.in-Some.ensures.steps (stops t acc (kind_name p n) c.in-Some.name _ NoKindIdent (rw (ne_eqb _ _ c.if-name-ne-IDENT.true)))

pub returns-in_err-pass-2-clause-read : goal.returns-in_err-pass-2-clause-read
returns-in_err-pass-2-clause-read c =
    let t = c.args.self.now.text.now in
    let name = c.in-Some.name in
    let e = err_from_is_err_and c.from_residual-in_err-pass-2.result c.from_residual-in_err-pass-2.ensures.1 in
    let r = rw c.in_ok-pass.ensures.text at c.in_err-pass-2.ensures.read in
    rw (e.1, e.2) (λ p n acc. named_inside t acc _ _ _ name c.in_ok-pass.ensures.read c.in-Some.ensures.steps c.if-name-ne-IDENT.false p n
    ∙ misses t acc (kind_close p n name) close_text _ _ r refl (λ t h. rw h))

pub returns-then-says-clause-read : goal.returns-then-says-clause-read
returns-then-says-clause-read c =
    let t = c.args.self.now.text.now in
    let name = c.in-Some.name in
    let r = rw c.in_ok-pass.ensures.text at c.in_ok-pass-2.ensures.read in
    let l : is_text t name literal_text ≡ true = rw (ap (λ x. x.now) (c.in_ok-pass-2.ensures.text ∙ c.in_ok-pass.ensures.text)) at (sym c.says.ensures ∙ c.if-says.true) in (
      omega (arith, ap length c.in_ok-pass.ensures.read.1, ap length c.in-Some.ensures.steps, ap length r.1),
      λ p n acc. named_inside t acc _ _ _ name c.in_ok-pass.ensures.read c.in-Some.ensures.steps c.if-name-ne-IDENT.false p n
          ∙ passes t acc (kind_close p n name) close_text _ _ (closed p n n) r (λ t h. rw (h, l)),
    )

pub returns-clause-read : goal.returns-clause-read
returns-clause-read c = λ p n acc.
    let t = c.args.self.now.text.now in
    let name = c.in-Some.name in
    let r = rw c.in_ok-pass.ensures.text at c.in_ok-pass-2.ensures.read in
    let l : is_text t name literal_text ≡ false = rw (ap (λ x. x.now) (c.in_ok-pass-2.ensures.text ∙ c.in_ok-pass.ensures.text)) at (sym c.says.ensures ∙ c.if-says.false) in
    named_inside t acc _ _ _ name c.in_ok-pass.ensures.read c.in-Some.ensures.steps c.if-name-ne-IDENT.false p n
    ∙ rw r.1 (stops t acc (kind_close p n name) r.0 _ UnknownKind (rw (r.2, l)))
