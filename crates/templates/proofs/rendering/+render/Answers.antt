-- `render_node_children` and `render_node_or_token` meet their contracts.
use Rattle.std.proofs.Common.{◌≡◌, sym, ap, ◌∙◌, length, arith, ◌<◌, ◌≤◌, ◌-◌, List, ◌++◌, take, Bool}
use mathlib.Core.Bool.{◌&&◌}
use mathlib.Core.List.{append-nil}
use native.Mathlib.Nat.{le_refl}
use lib.ListN.{set, length-set}
use borrow.Rule.Slice.PartMut.{mid_len, same_len_mid}
use Rattle.syntax.specs.declared.parts.Part.{Part}
use Rattle.syntax.specs.Trees.{size}
use Rattle.syntax.specs.Accessors.{children, by_itself}
use Rattle.syntax.specs.Siblings.{kind_of}
use Rattle.syntax.specs.Views.{elems_of}
use Rattle.paths.specs.Steps.{root_of}
use Rattle.templates.specs.declared.Piece.{Piece}
use Rattle.templates.specs.declared.Piece.TheVariants.{Path}
use Rattle.templates.specs.Pieces.{Template, template_of, receiver_below}
use Rattle.templates.proofs.RenderLaws.{render_none, token_pieces, path_pieces, node_pieces, first_laid, laid_behind, laid_path, next_laid, few_elements, size_whole, size_below, size_found, low_rest, there, one_there, room_children, room_found, room_first, first_there}
use Rattle.templates.proofs.rendering.+render.Goals as goal

-- ---- an element

pub render_node_or_token-bounds-out-0 : goal.render_node_or_token-bounds-out-0
render_node_or_token-bounds-out-0 t c = let r = c.requires.room in let h : 0 < length c.args.out.now = omega (arith, one_there c.args.c r.1, r.0.within) in h

pub render_node_or_token-returns-then-is_token-clause-few : goal.render_node_or_token-returns-then-is_token-clause-few
render_node_or_token-returns-then-is_token-clause-few t c = one_there c.args.c c.requires.room.1

pub render_node_or_token-returns-then-is_token-clause-laid : goal.render_node_or_token-returns-then-is_token-clause-laid
render_node_or_token-returns-then-is_token-clause-laid t c = λ rs e.
    let r = c.requires.room in let a = c.args in
    first_laid c.render_token.result a.out.now (omega (arith, one_there a.c r.1, r.0.within))
    ∙ rw (c.render_token.ensures rs e) (sym (token_pieces (template_of a.resolved.now.side (root_of a.resolved.now)) a.nameless rs a.c.number a.c.words.now r.1 (sym c.is_token.ensures ∙ c.if-is_token.true)))

pub render_node_or_token-bounds-out-0-then-refers_to_definition : goal.render_node_or_token-bounds-out-0-then-refers_to_definition
render_node_or_token-bounds-out-0-then-refers_to_definition t c = let r = c.requires.room in let h : 0 < length c.args.out.now = omega (arith, one_there c.args.c r.1, r.0.within) in h

pub render_node_or_token-slice_bounds-render_node_children-count : goal.render_node_or_token-slice_bounds-render_node_children-count
render_node_or_token-slice_bounds-render_node_children-count t c = let r = c.requires.room in omega (arith, length-set {A = Piece}, one_there c.args.c r.1, r.0.within)

pub render_node_or_token-slice_bounds-render_node_children-start : goal.render_node_or_token-slice_bounds-render_node_children-start
render_node_or_token-slice_bounds-render_node_children-start t c = let r = c.requires.room in let h : 1 ≤ length (set c.args.out.now 0 (Path c.args.c.number)) = omega (arith, length-set c.args.out.now 0 (Path c.args.c.number), one_there c.args.c r.1, r.0.within) in h

pub render_node_or_token-render_node_children-requires : goal.render_node_or_token-render_node_children-requires
render_node_or_token-render_node_children-requires t c =
    let r = c.requires.room in let s = c.first_child-segment in let d = c.children in
    (omega (arith, r.1, s.ensures.shorter, d.ensures.shorter), room_found c.args.c c.args.out.now r.0 r.1 d.result s.result _ d.ensures.result_in_bounds s.ensures.result_in_bounds d.ensures.value s.ensures.value (omega (arith, length-set c.args.out.now 0 (Path c.args.c.number), mid_len 1 _ (set c.args.out.now 0 (Path c.args.c.number)) (le_refl _))))

pub render_node_or_token-overflow_add-result : goal.render_node_or_token-overflow_add-result
render_node_or_token-overflow_add-result t c =
    let r = c.requires.room in
    omega (arith, c.render_node_children.ensures.few, ap size c.children.ensures.value, ap (λ x. size (children x)) c.first_child-segment.ensures.value, size_found 3 3 (children (elems_of c.args.c)), size_below (elems_of c.args.c) (there c.args.c r.1), size_whole (elems_of c.args.c), few_elements c.args.c r.0.few)

pub render_node_or_token-returns-then-refers_to_definition-clause-few : goal.render_node_or_token-returns-then-refers_to_definition-clause-few
render_node_or_token-returns-then-refers_to_definition-clause-few t c =
    let r = c.requires.room in let a = c.args in
    omega (arith, c.render_node_children.ensures.few, ap size c.children.ensures.value, ap (λ x. size (children x)) c.first_child-segment.ensures.value, size_found 3 3 (children (elems_of a.c)), size_below (elems_of a.c) (there a.c r.1))

pub render_node_or_token-returns-then-refers_to_definition-clause-laid : goal.render_node_or_token-returns-then-refers_to_definition-clause-laid
render_node_or_token-returns-then-refers_to_definition-clause-laid t c = λ rs e.
    let r = c.requires.room in let a = c.args in let w = c.render_node_children in let set0 = set a.out.now 0 (Path a.c.number) in
    let x : Template = template_of a.resolved.now.side (root_of a.resolved.now) in
    let n = rw (c.one.ensures.low, c.one.ensures.high) at (ap (λ (q : Bool). a.nameless && q) (sym c.is_node_in.ensures) ∙ c.if-nameless-is_node_in.false) in
    let few = length-set a.out.now 0 (Path a.c.number) in
    let s1 = size_below (elems_of a.c) (there a.c r.1) in
    laid_path (Path a.c.number) _ w.result a.out.now w.new.out _ (omega (arith, one_there a.c r.1, r.0.within))
    (omega (arith, w.ensures.out_len_unchanged, mid_len 1 _ set0 (le_refl _), few, w.ensures.few, ap size c.children.ensures.value, ap (λ y. size (children y)) c.first_child-segment.ensures.value, size_found 3 3 (children (elems_of a.c)), s1, r.0.within))
    (w.ensures.laid (receiver_below (kind_of (elems_of a.c)) (children (elems_of a.c)) rs) (c.receiver_below-below.ensures rs e))
    ∙ rw (c.children.ensures.value, c.first_child-segment.ensures.value)
    (sym (path_pieces x a.nameless rs a.c.number a.c.words.now r.1 (sym c.is_token.ensures ∙ c.if-is_token.false) n (sym c.refers_to_definition.ensures ∙ c.if-refers_to_definition.true)))

pub render_node_or_token-render_node_children-requires-2 : goal.render_node_or_token-render_node_children-requires-2
render_node_or_token-render_node_children-requires-2 t c =
    let r = c.requires.room in let d = c.children-2 in
    (omega (arith, r.1, d.ensures.shorter), room_children c.args.c c.args.out.now r.0 r.1 d.result d.ensures.result_in_bounds d.ensures.value)

pub render_node_or_token-returns-clause-few : goal.render_node_or_token-returns-clause-few
render_node_or_token-returns-clause-few t c =
    let r = c.requires.room in let a = c.args in
    omega (arith, c.render_node_children-2.ensures.few, ap size c.children-2.ensures.value, size_below (elems_of a.c) (there a.c r.1))

pub render_node_or_token-returns-clause-laid : goal.render_node_or_token-returns-clause-laid
render_node_or_token-returns-clause-laid t c = λ rs e.
    let r = c.requires.room in let a = c.args in
    let x : Template = template_of a.resolved.now.side (root_of a.resolved.now) in
    let n = rw (c.one.ensures.low, c.one.ensures.high) at (ap (λ (q : Bool). a.nameless && q) (sym c.is_node_in.ensures) ∙ c.if-nameless-is_node_in.false) in
    c.render_node_children-2.ensures.laid (receiver_below (kind_of (elems_of a.c)) (children (elems_of a.c)) rs) (c.receiver_below-below.ensures rs e)
    ∙ rw c.children-2.ensures.value
    (sym (node_pieces x a.nameless rs a.c.number a.c.words.now r.1 (sym c.is_token.ensures ∙ c.if-is_token.false) n (sym c.refers_to_definition.ensures ∙ c.if-refers_to_definition.false)))

-- ---- siblings

pub render_node_children-render_node_or_token-count-requires : goal.render_node_children-render_node_or_token-count-requires
render_node_children-render_node_or_token-count-requires t c =
    let l = c.loop-c in let v = l.invariant in let s = c.in-Some.ensures.steps in
    let len : length c.in-Some.c.words.now ≡ length l.c-iterator.words.now = ap (λ (p : Part). length p.words.now) s.0 in
    (omega (arith, len, v.shorter), (room_first c.args.part c.in-Some.c l.c-iterator c.args.out.now _ l.count s.0 v.inside v.low v.few c.requires.room (omega (arith, v.same, v.few, c.requires.room.within, mid_len l.count (length l.out) l.out (le_refl _))), first_there c.in-Some.c l.c-iterator s.0 s.1))

pub render_node_children-overflow_add-count : goal.render_node_children-overflow_add-count
render_node_children-overflow_add-count t c =
    let l = c.loop-c in let s = c.in-Some.ensures.steps in
    let one : size (by_itself (elems_of c.in-Some.c)) ≡ size (by_itself (elems_of l.c-iterator)) = ap (λ (p : Part). size (by_itself (elems_of p))) s.0 in
    omega (arith, one, c.render_node_or_token-count.ensures.few, size_whole (elems_of l.c-iterator), l.invariant.few, few_elements c.args.part c.requires.room.few)

pub render_node_children-loop-c-preserved : goal.render_node_children-loop-c-preserved
render_node_children-loop-c-preserved t c =
    let l = c.loop-c in let v = l.invariant in let s = c.in-Some.ensures.steps in let w = c.render_node_or_token-count in let a = c.args in
    let one : size (by_itself (elems_of c.in-Some.c)) ≡ size (by_itself (elems_of l.c-iterator)) = ap (λ (p : Part). size (by_itself (elems_of p))) s.0 in
    let two = size_whole (elems_of l.c-iterator) in
    let mid = mid_len l.count (length l.out) l.out (le_refl _) in
    record {
      inside = (omega (arith, s.3.0, v.inside.0), omega (arith, s.3.1, v.inside.1));
      shorter = omega (arith, s.4, v.shorter);
      same = same_len_mid l.count _ l.out w.new.out w.ensures.out_len_unchanged ∙ v.same;
      few = omega (arith, one, two, w.ensures.few, v.few, ap size s.2);
      low = rw s.2 (low_rest (elems_of l.c-iterator) v.low);
      laid = λ rs e.
          let x : Template = template_of a.resolved.now.side (root_of a.resolved.now) in
          let m = laid_behind l.count (length l.out - l.count) w.result l.out w.new.out
          (omega (arith, v.few, v.same, c.requires.room.within)) (omega (arith, one, two, mid, w.ensures.few, w.ensures.out_len_unchanged, v.few, v.same, c.requires.room.within)) in
          next_laid x a.nameless rs (elems_of l.c-iterator) (elems_of c.next.new.self) (take l.count l.out) _ _ s.1 s.2
          (m ∙ ap (λ (qs : List Piece). take l.count l.out ++ qs) (rw s.0 at (w.ensures.laid rs e))) (v.laid rs e);
    }

pub render_node_children-returns-clause-laid : goal.render_node_children-returns-clause-laid
render_node_children-returns-clause-laid t c = λ rs e.
    let l = c.loop-c in let a = c.args in
    let n = render_none (template_of a.resolved.now.side (root_of a.resolved.now)) a.nameless rs (elems_of l.c-iterator) c.in-None.ensures.steps.0 in
    sym (append-nil (take l.count l.out)) ∙ ap (λ ps. take l.count l.out ++ ps) (sym n) ∙ l.invariant.laid rs e
