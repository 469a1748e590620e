-- `resolve_siblings` and `resolve_element` meet their contracts.
use Rattle.std.proofs.Common.{◌≡◌, sym, ap, ◌∙◌, length, arith}
use Rattle.std.proofs.lemmas.Result.{err_from_is_err_and}
use Rattle.syntax.specs.declared.parts.Part.{Part}
use Rattle.syntax.specs.Views.{elems_of}
use Rattle.syntax.proofs.AccessorLaws.{number_is}
use Rattle.paths.specs.Trees.{side_of}
use Rattle.paths.proofs.WalkLaws.{room_there, room_within, room_below, siblings_end, siblings_stop, siblings_then, element_skips, element_resolves}
use Rattle.paths.proofs.resolving.RuleTree.+resolve.Goals as goal

pub resolve_element-resolve_siblings-requires : goal.resolve_element-resolve_siblings-requires
resolve_element-resolve_siblings-requires t c =
    let room = c.requires.room in
    (omega (arith, room.1, c.children.ensures.shorter), room_below _ _ _ c.children.result c.args.c c.call_number.result c.children.ensures.result_in_bounds room.1 c.call_number.ensures room.0)

pub resolve_element-returns-in-Skips-clause-at_element : goal.resolve_element-returns-in-Skips-clause-at_element
resolve_element-returns-in-Skips-clause-at_element t c =
    let a = c.args in
    element_skips (side_of a.self.now) a.parent a.grandparent (elems_of a.c) a.notes.now a.notes.now (sym c.step.ensures.value ∙ c.in-Skips.is)

pub resolve_element-returns-in-Resolves-clause-at_element : goal.resolve_element-returns-in-Resolves-clause-at_element
resolve_element-returns-in-Resolves-clause-at_element t c =
    let a = c.args in
    let n = number_is a.c.number a.c.words.now c.requires.room.1 in
    element_resolves (side_of a.self.now) a.parent a.grandparent (elems_of a.c) a.notes.now c.note_call.new.notes c.in-Resolves.place (sym c.step.ensures.value ∙ c.in-Resolves.is)
    (rw n (c.note_call.ensures.paths_after ∙ c.note_path.ensures.paths_after))
    (λ g d. rw (n, ← c.flags_at.ensures, ← c.note_path.ensures.calls_after) (c.note_call.ensures.calls_after g d))

pub resolve_siblings-resolve_element-requires : goal.resolve_siblings-resolve_element-requires
resolve_siblings-resolve_element-requires t c =
    let l = c.loop-c in
    let s = c.in-Some.ensures.steps in
    let len : length c.in-Some.c.words.now ≡ length l.c-iterator.words.now = ap (λ (p : Part). length p.words.now) s.0 in
    (omega (arith, len, l.invariant.1), room_there _ _ l.notes c.in-Some.c l.c-iterator s.0 s.1 (room_within _ _ c.args.notes.now l.c-iterator c.args.part l.notes l.invariant.0 l.invariant.2 c.requires.room))

pub resolve_siblings-loop-c-preserved : goal.resolve_siblings-loop-c-preserved
resolve_siblings-loop-c-preserved t c =
    let l = c.loop-c in
    let s = c.in-Some.ensures.steps in
    let e = c.in_ok-resolve_element.ensures in (
      (omega (arith, s.3.0, l.invariant.0.0), omega (arith, s.3.1, l.invariant.0.1)),
      omega (arith, s.4, l.invariant.1),
      e.notes_len_unchanged ∙ l.invariant.2,
      λ r end w. l.invariant.3 r end (siblings_then _ _ _ (elems_of l.c-iterator) l.notes c.resolve_element.new.notes s.1 (elems_of c.next.new.self) s.2 (rw s.0 at e.at_element) r end w),
    )

pub resolve_siblings-returns-in_err-resolve_element-clause-at_siblings : goal.resolve_siblings-returns-in_err-resolve_element-clause-at_siblings
resolve_siblings-returns-in_err-resolve_element-clause-at_siblings t c =
    let l = c.loop-c in
    let s = c.in-Some.ensures.steps in
    let e = err_from_is_err_and c.from_residual.result c.from_residual.ensures.1 in
    rw (e.1, e.2) (l.invariant.3 _ _ (siblings_stop _ _ _ (elems_of l.c-iterator) l.notes c.resolve_element.new.notes s.1 _ (rw s.0 at c.in_err-resolve_element.ensures.at_element)))

pub resolve_siblings-returns-clause-at_siblings : goal.resolve_siblings-returns-clause-at_siblings
resolve_siblings-returns-clause-at_siblings t c =
    let l = c.loop-c in
    l.invariant.3 _ l.notes (siblings_end _ _ _ (elems_of l.c-iterator) l.notes l.notes c.in-None.ensures.steps.0)
