-- `nester::nest_and_remove_collisions` meets its contract.
use Rattle.std.proofs.Common.{◌≡◌, arith, rules}
use Rattle.syntax.specs.Views.{tree_of}
use Rattle.syntax.proofs.FormedLaws.{formed_is}
use Rattle.nester.specs.declared.Nesting.TheVariants.{NotKept, Outermost}
use Rattle.nester.specs.Rows.{row_at}
use Rattle.nester.proofs.Lines.{tree_laws}
use Rattle.nester.proofs.RowSteps.{passed_none, given_after, passed_by, passed_next, last_none, last_by, last_here, last_stays, clear_before}
use Rattle.nester.proofs.nest_and_remove_collisions.Goals as goal
use Rattle.nester.proofs.nest_and_remove_collisions.Goals.{then-eq+then-eq-2, then-eq+else-eq-2, else-eq}

pub loop-i-init : goal.loop-i-init
loop-i-init c = record { passed = passed_none (tree_of c.args.tree) c.args.rows.now; last = last_none (tree_of c.args.tree) c.args.rows.now }

pub settle-state-requires-clause-first_le_n : goal.settle-state-requires-clause-first_le_n
settle-state-requires-clause-first_le_n c =
    let l = c.loop-i in
    let given = given_after (tree_of c.args.tree) c.args.rows.now c.requires.candidates c.requires.by_index l.i c.loop-i-test.true l.rows l.invariant.passed in
    (l.invariant.last.before, clear_before (tree_of c.args.tree) (tree_laws c.args.tree.words.now (formed_is c.args.tree.words.now c.args.tree.formed)) l.rows l.i l.last (omega arith) given l.invariant.last)

pub loop-i-preserved : goal.loop-i-preserved
loop-i-preserved c =
    let t = tree_of c.args.tree in
    let before = c.args.rows.now in
    let l = c.loop-i in
    let r = row_at l.rows l.i in
    let lt = c.loop-i-test.true in
    elim c.if-eq.branch [
      | then-eq+then-eq-2 w ↦ (
          let m : r.state ≡ NotKept = search (rules, w.if-eq.true, c.eq.ensures) in
          let e : w.settle-state.result ≡ Outermost = search (rules, w.if-eq-2.true, w.eq-then-eq.ensures) in
          let o = w.settle-state.ensures in
          rw (w.rows-is, w.last-is) (record {
            passed = passed_next t before c.requires.candidates c.requires.by_index l.i lt l.rows l.invariant.passed w.settle-state.result o m;
            last = last_here t l.rows l.i w.settle-state.result (omega arith) o e;
          }))
      | then-eq+else-eq-2 w ↦ (
          let m : r.state ≡ NotKept = search (rules, w.if-eq.true, c.eq.ensures) in
          let o = w.settle-state.ensures in
          rw (w.rows-is, w.last-is) (record {
            passed = passed_next t before c.requires.candidates c.requires.by_index l.i lt l.rows l.invariant.passed w.settle-state.result o m;
            last = last_stays t l.rows l.i w.settle-state.result (omega arith) l.last l.invariant.last;
          }))
      | else-eq w ↦ (
          let m : r.state ≡ NotKept → ⊥ = λ e. search (rules, e, w.if-eq.false, c.eq.ensures) in
          rw (w.rows-is, w.last-is) (record {
            passed = passed_by t before c.requires.candidates c.requires.by_index l.i lt l.rows l.invariant.passed m;
            last = last_by t l.rows l.last l.i l.invariant.last;
          }))
    ]
