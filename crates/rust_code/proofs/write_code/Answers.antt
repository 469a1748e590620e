-- `write_code` meets its contract.
use Rattle.std.proofs.Common.{◌≡◌, sym, ap, ◌∙◌, length}
use Rattle.parsing.specs.Reading.{reading}
use Rattle.parsing.specs.Vars.{vars_of}
use Rattle.parsing.proofs.ListLaws.{was_read}
use Rattle.rust_code.specs.RawCode.{raw_code, code_answer, code_bytes}
use Rattle.rust_code.specs.Segments.{segments}
use Rattle.rust_code.proofs.Laws.{written}
use Rattle.rust_code.proofs.CodeLaws.{code_segments}
use Rattle.rust_code.proofs.write_code.Goals as goal

pub returns-clause-value : goal.returns-clause-value
returns-clause-value c =
    let w = c.args.list.words.now in
    let t = c.args.list.text.now in
    let d = c.args.out.now in
    let x = was_read (reading w t) (vars_of c.in_ok-pattern.pattern) c.in_ok-pattern.ensures.value in
    let e : segments t (length t) 0 (vars_of c.in_ok-pattern.pattern) ≡ raw_code t x.elements = sym (code_segments w t x.elements c.in_ok-pattern.ensures.formed x.is ∙ ap (segments t (length t) 0) x.shows) in
    c.ok_or.ensures.value ∙ (written d (raw_code t x.elements) c.lay_code.result c.lay_code.new.out (rw (c.in_ok-pattern.ensures.text, e) at c.lay_code.ensures)).0 ∙ sym (ap (code_answer (length d) t) x.is)

pub returns-clause-bytes : goal.returns-clause-bytes
returns-clause-bytes c =
    let w = c.args.list.words.now in
    let t = c.args.list.text.now in
    let d = c.args.out.now in
    let x = was_read (reading w t) (vars_of c.in_ok-pattern.pattern) c.in_ok-pattern.ensures.value in
    let e : segments t (length t) 0 (vars_of c.in_ok-pattern.pattern) ≡ raw_code t x.elements = sym (code_segments w t x.elements c.in_ok-pattern.ensures.formed x.is ∙ ap (segments t (length t) 0) x.shows) in
    rw c.ok_or.ensures.value ((written d (raw_code t x.elements) c.lay_code.result c.lay_code.new.out (rw (c.in_ok-pattern.ensures.text, e) at c.lay_code.ensures)).1 ∙ sym (ap (code_bytes (length d) t) x.is))
