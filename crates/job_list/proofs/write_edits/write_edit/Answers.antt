-- `write_edits::write_edit` meets its contract.
use mathlib.Core.Path.{◌≡◌, ap, ◌∙◌}
use Prim.Native.Nat.{ℕ, ◌-◌}
use native.Mathlib.Omega.{arith}
use Rattle.std.proofs.Common.{rules}
use Rattle.words.specs.Buffer.{laid_if_room}
use Rattle.edits.specs.Edits.{edit_words}
use Rattle.nester.specs.Rows.{row_at}
use Rattle.job_list.specs.Lists.{node_start, node_end}
use Rattle.job_list.proofs.EditLaws.{begins_behind, put_same, all_same, event_left, done_left}
use Rattle.job_list.proofs.write_edits.write_edit.Goals as goal

pub returns-in_err-behind-clause-out_unchanged : goal.returns-in_err-behind-clause-out_unchanged
returns-in_err-behind-clause-out_unchanged g c = let a = c.args in let p = c.put in let r = c.render_replace in
    let head = c.head_of-head.result in
    let b = begins_behind a.out.now a.at c.in_ok-begin.begin (search rules) in (
      r.ensures.out_unchanged.0 ∙ p.auto.out,
      all_same a.out.now p.new.out r.new.out a.at c.in_ok-begin.begin (omega (arith, b.0))
          (put_same a.out.now p.new.out a.at (edit_words head.start head.end head.length) p.ensures.out_after) r.ensures.out_unchanged.1,
    )

pub returns-in_err-behind-clause-edit_left : goal.returns-in_err-behind-clause-edit_left
returns-in_err-behind-clause-edit_left g c = let a = c.args in let r = c.render_replace in
    let b = begins_behind a.out.now a.at c.in_ok-begin.begin (search rules) in
    event_left a.handed.now a.k a.at (search rules) r.new.out c.in_ok-begin.begin b.0 c.requires.shown.2 c.in_err-behind.field-0.0 r.result _ (search rules) (search rules) r.ensures.text_left

pub returns-clause-out_unchanged : goal.returns-clause-out_unchanged
returns-clause-out_unchanged g c = let a = c.args in let p = c.put in let r = c.render_replace in let q = c.put-2 in
    let head = c.head_of-head.result in
    let b = begins_behind a.out.now a.at c.in_ok-begin.begin (search rules) in (
      q.auto.out ∙ r.ensures.out_unchanged.0 ∙ p.auto.out,
      put_same r.new.out q.new.out a.at (edit_words head.start head.end (c.in_ok-behind.behind - c.in_ok-begin.begin)) q.ensures.out_after
          ∙ all_same a.out.now p.new.out r.new.out a.at c.in_ok-begin.begin (omega (arith, b.0))
          (put_same a.out.now p.new.out a.at (edit_words head.start head.end head.length) p.ensures.out_after) r.ensures.out_unchanged.1,
    )

pub returns-clause-edit_left : goal.returns-clause-edit_left
returns-clause-edit_left g c = let a = c.args in let p = c.put in let r = c.render_replace in let q = c.put-2 in
    let head = c.head_of-head.result in
    let n = c.in_ok-behind.behind - c.in_ok-begin.begin in
    let row = row_at a.handed.now.rows a.k in
    let b = begins_behind a.out.now a.at c.in_ok-begin.begin (search rules) in
    let s : head.start ≡ node_start a.handed.now.file.words row.node = search rules in
    let e : head.end ≡ node_end a.handed.now.file.words row.node = search rules in
    let w = q.ensures.out_after
    ∙ (ap (λ (x : ℕ). laid_if_room r.new.out a.at (edit_words x head.end n)) s
    ∙ ap (λ (x : ℕ). laid_if_room r.new.out a.at (edit_words (node_start a.handed.now.file.words row.node) x n)) e) in
    done_left a.handed.now a.k a.at (search rules) r.new.out q.new.out c.in_ok-begin.begin c.in_ok-behind.behind b.0
    (omega (arith, b.1, r.ensures.out_unchanged.0, p.auto.out)) c.requires.shown.2 w r.result (search rules) r.ensures.text_left
