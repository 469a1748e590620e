-- The functions of `matching::attempt_match` end: their measure is five times the words of both sides, and a rank.
use mathlib.Core.Path.{◌≡◌}
use mathlib.Core.Bool.{true}
use Prim.Native.Nat.{ℕ, ◌≤◌}
use lib.ListN.{length}
use Rattle.std.proofs.Common.{Option, Some, None}
use Rattle.syntax.specs.Views.{elems_of}
use Rattle.syntax.specs.declared.parts.Part.{Part}
use Rattle.captures.specs.Turns.{GoesOn}
use Rattle.matcher.specs.Matcher.{matcher_of}
use Rattle.matching.specs.StartingOver.{is_silent}
use Rattle.matching.specs.Matching.{enough, SequencesGive, ArgumentsGive, ByNameGives, MeasuredGives, Stands}
use Rattle.matching.proofs.OverLaws.{Tail}
use Rattle.matching.proofs.attempt_match.+node.Given as goal

-- both sides of what is measured, where it is
abbrev noted_measure : Part → Option Part → ℕ
noted_measure q None = 0
noted_measure q (Some c) = enough 4 q c

abbrev pub decreases-node : goal.decreases-node
decreases-node l = enough 2 l.p l.c

abbrev pub decreases-by_kind : goal.decreases-by_kind
decreases-by_kind l = enough 1 l.p l.c

abbrev pub decreases-turn : goal.decreases-turn
decreases-turn l = enough 3 l.p l.c

abbrev pub decreases-sequences : goal.decreases-sequences
decreases-sequences l = enough 4 l.p l.c

abbrev pub decreases-opt : goal.decreases-opt
decreases-opt l = enough 3 l.p l.c

abbrev pub decreases-path : goal.decreases-path
decreases-path l = enough 0 l.p l.c

abbrev pub decreases-segments : goal.decreases-segments
decreases-segments l = enough 0 l.p l.c

abbrev pub decreases-record_field_list : goal.decreases-record_field_list
decreases-record_field_list l = enough 0 l.p l.c

abbrev pub decreases-ufcs_to_ufcs : goal.decreases-ufcs_to_ufcs
decreases-ufcs_to_ufcs l = enough 0 l.p l.c

abbrev pub decreases-ufcs_to_method_call : goal.decreases-ufcs_to_method_call
decreases-ufcs_to_method_call l = enough 1 l.p l.c

abbrev pub decreases-receiver : goal.decreases-receiver
decreases-receiver l = enough 0 l.p l.c

abbrev pub decreases-arguments : goal.decreases-arguments
decreases-arguments l = enough 4 l.p l.c

abbrev pub decreases-by_name : goal.decreases-by_name
decreases-by_name l = enough 5 l.lists.p l.lists.c

abbrev pub decreases-field : goal.decreases-field
decreases-field l = enough 4 l.lists.p l.lists.c

abbrev pub decreases-measured : goal.decreases-measured
decreases-measured l = enough 5 l.lists.p l.lists.c

abbrev pub decreases-laid : goal.decreases-laid
decreases-laid l = enough 5 l.lists.p l.lists.c

abbrev pub decreases-noted : goal.decreases-noted
decreases-noted l = noted_measure l.q l.found

abbrev pub invariant-by_name-loop-q : goal.invariant-by_name-loop-q
invariant-by_name-loop-q l = record {
  p_short : length l.q-iterator.words.now ≤ length l.lists.p.words.now;
  long : length l.out ≡ length l.initial.out;
  goes_on : GoesOn (ByNameGives l.leaves (matcher_of l.x) l.lists) (ByNameGives l.leaves (matcher_of l.x) l.lists) l.lists.p l.lists.c l.initial.t l.initial.out
      (record { p = l.q-iterator; c = l.beside; state = l.t }) l.out;
}

abbrev pub invariant-measured-loop-q : goal.invariant-measured-loop-q
invariant-measured-loop-q l = record {
  p_short : length l.t.p.words.now ≤ length l.lists.p.words.now;
  c_short : length l.t.c.words.now ≤ length l.lists.c.words.now;
  long : length l.out ≡ length l.initial.out;
  silent : is_silent l.t.state l.out ≡ true;
  tail : Tail (elems_of l.lists.c) (elems_of l.t.c);
  goes_on : GoesOn (MeasuredGives l.before (matcher_of l.x) l.lists) (MeasuredGives true (matcher_of l.x) l.lists) l.lists.p l.lists.c l.fn.s l.initial.out l.t l.out;
}

abbrev pub decreases-measured-loop-q : goal.decreases-measured-loop-q
decreases-measured-loop-q l = length l.t.c.words.now

abbrev pub invariant-laid-loop-q : goal.invariant-laid-loop-q
invariant-laid-loop-q l = record {
  p_short : length l.t.p.words.now ≤ length l.lists.p.words.now;
  c_short : length l.t.c.words.now ≤ length l.lists.c.words.now;
  long : length l.out ≡ length l.initial.out;
  lays : l.t.state.lays ≡ true;
  tail : Tail (elems_of l.lists.c) (elems_of l.t.c);
  stands : Stands l.before (matcher_of l.x) l.lists l.t.p l.end l.t.state l.out;
  goes_on : GoesOn (SequencesGive (matcher_of l.x)) (SequencesGive (matcher_of l.x)) l.lists.p l.lists.c l.fn.s l.initial.out l.t l.out;
}

abbrev pub decreases-laid-loop-q : goal.decreases-laid-loop-q
decreases-laid-loop-q l = length l.t.c.words.now

abbrev pub invariant-sequences-loop-t : goal.invariant-sequences-loop-t
invariant-sequences-loop-t l = record {
  p_short : length l.t.p.words.now ≤ length l.p.words.now;
  c_short : length l.t.c.words.now ≤ length l.c.words.now;
  long : length l.out ≡ length l.initial.out;
  goes_on : GoesOn (SequencesGive (matcher_of l.x)) (SequencesGive (matcher_of l.x)) l.p l.c l.fn.s l.initial.out l.t l.out;
}

abbrev pub decreases-sequences-loop-t : goal.decreases-sequences-loop-t
decreases-sequences-loop-t l = length l.t.c.words.now

abbrev pub invariant-arguments-loop-z : goal.invariant-arguments-loop-z
invariant-arguments-loop-z l = record {
  p_short : length l.t.p.words.now ≤ length l.p.words.now;
  c_short : length l.t.c.words.now ≤ length l.c.words.now;
  long : length l.out ≡ length l.initial.out;
  goes_on : GoesOn (ArgumentsGive (matcher_of l.x)) (ArgumentsGive (matcher_of l.x)) l.p l.c l.fn.s l.initial.out l.t l.out;
}

abbrev pub decreases-arguments-loop-z : goal.decreases-arguments-loop-z
decreases-arguments-loop-z l = length l.t.c.words.now
