-- An element whose head is none of a node of the kinds is none of these nodes.
use Rattle.std.proofs.Common.{◌≡◌, ℕ, ◌-◌, ◌*◌, ◌/◌, false, List, length, sym, ap, ◌∙◌, true≢false, arith, length-drop}
use Rattle.words.specs.Fields.{word_at}
use Rattle.words.proofs.TestLaws.{never, low_or}
use Rattle.syntax.specs.Accessors.{element_at, node_in}
use Rattle.syntax.specs.Views.{tree_of}
use Rattle.syntax.proofs.FormedLaws.{formed_is}
use Rattle.get_match.proofs.ScanLaws.{head_is_lem, three_behind}
use Rattle.get_match.proofs.first_phase.kinds.find.Goals as goal

pub loop-c-preserved : goal.loop-c-preserved
loop-c-preserved c = let l = c.loop-c in let a = c.args in let w = a.tree.words.now in
    let n : length l.c.now ≡ length w - l.e * 3 = ap length l.invariant.left ∙ length-drop (l.e * 3) w in
    let here : node_in a.kinds.low a.kinds.high (element_at l.e (tree_of a.tree)) ≡ false = never _ (λ t. let h = head_is_lem w a.kinds.low a.kinds.high l.e (formed_is w a.tree.formed) t in
    true≢false (sym (c.is_head.ensures h.kind (ap (λ (q : List ℕ). word_at q 0 / 65536) l.invariant.left ∙ h.head) h.small h.from h.to) ∙ c.if-is_head.false)) in record {
      left = three_behind w l.c.now l.e l.invariant.left;
      from = omega (arith, l.invariant.from);
      to = omega (arith, n, c.in-len3-up.len_at_least);
      passed = λ i h k. low_or i l.e (λ lower. l.invariant.passed i h lower) (λ same. let z : i ≡ l.e = omega (arith, same, k) in rw z here);
    }
