-- `nester::settle` meets its contract.
use Rattle.std.proofs.Common.{◌≡◌, ℕ, List, sym, ap, subst, ◌∙◌, arith}
use Rattle.std.proofs.lemmas.Bool.{false≢true}
use Rattle.words.specs.declared.texts.Range.{Range}
use Rattle.syntax.specs.Trees.{Elems, tree}
use Rattle.syntax.specs.Accessors.{range_of, element_at, by_itself}
use Rattle.syntax.specs.Views.{elems_of, tree_of}
use Rattle.syntax.proofs.ViewLaws.{range_itself}
use Rattle.nester.specs.Nest.{holder}
use Rattle.nester.specs.Rows.{row_at}
use Rattle.nester.proofs.Settling.{Coming, coming_from, coming_past, coming_in, settles_lost, settles}
use Rattle.nester.proofs.settle.Goals as goal
use Rattle.nester.proofs.settle.Goals.{then-meets+in-Some, else-meets}

-- the range of an element by itself
ranged : (l : List ℕ) (n : ℕ) (c : Elems) → c ≡ by_itself (element_at n (tree l)) → (r : Range) → r ≡ range_of c → r ≡ range_of (element_at n (tree l))
ranged l n c e r f = f ∙ ap range_of e ∙ range_itself (element_at n (tree l))

pub loop-i-init : goal.loop-i-init
loop-i-init c = coming_from (tree_of c.args.tree) c.args.rows.now c.requires.candidates c.args.n c.requires.n_bound c.requires.held c.args.first c.requires.first_le_n.0 c.requires.first_le_n.1

pub returns-in-None : goal.returns-in-None
returns-in-None c =
    let rows = c.args.rows.now in
    let l = c.loop-i in
    let rg = ranged c.args.tree.words.now (row_at rows c.args.n).node (elems_of c.element.result) c.element.ensures.value c.range-range.result c.range-range.ensures in
    let q = ap (λ (r : Range). holder (row_at rows l.i).bindings r.start r.end) (sym rg) ∙ sym c.in-None.ensures.value in
    settles_lost (tree_of c.args.tree) rows c.requires.candidates c.args.n c.requires.n_bound c.requires.held l.place l.i c.loop-i-test.true l.invariant (c.meets.ensures.0 c.if-meets.true) q

pub loop-i-preserved : goal.loop-i-preserved
loop-i-preserved c =
    let rows = c.args.rows.now in
    let l = c.loop-i in
    let rg = ranged c.args.tree.words.now (row_at rows c.args.n).node (elems_of c.element.result) c.element.ensures.value c.range-range.result c.range-range.ensures in
    elim c.if-meets.branch [
      | then-meets+in-Some w' ↦ (
          let q = ap (λ (r : Range). holder (row_at rows l.i).bindings r.start r.end) (sym rg) ∙ sym w'.in-Some.ensures.value in
          rw w'.place-is (coming_in (tree_of c.args.tree) rows c.requires.candidates c.args.n c.requires.n_bound c.requires.held l.place l.i c.loop-i-test.true l.invariant w'.in-Some.slot (c.meets.ensures.0 w'.if-meets.true) q))
      | else-meets w' ↦ (
          rw w'.place-is (coming_past (tree_of c.args.tree) rows c.requires.candidates c.args.n c.requires.n_bound c.requires.held l.place l.i c.loop-i-test.true l.invariant (λ m. false≢true (sym w'.if-meets.false ∙ c.meets.ensures.1 m))))
    ]

pub returns : goal.returns
returns c =
    let l = c.loop-i in
    let rows = c.args.rows.now in
    let e : l.i ≡ c.args.n = omega (arith, l.auto.i-end c.requires.first_le_n.0, c.loop-i-test.false) in
    settles (tree_of c.args.tree) rows c.requires.candidates c.args.n c.requires.n_bound c.requires.held l.place
    (subst (λ (i : ℕ). Coming (tree_of c.args.tree) rows c.args.n l.place i) e l.invariant)
