-- The functions of `matching::attempt_match`, which call each other, meet their contracts.
use mathlib.Core.Path.{◌≡◌, refl, sym, ap, subst, ◌∙◌}
use mathlib.Core.Bool.{true, false, ◌&&◌}
use Prim.Native.Nat.{◌+◌, ◌-◌, ◌≤◌}
use native.Mathlib.Omega.{arith}
use lib.Dec.{leb}
use lib.ListN.{length}
use Rattle.std.proofs.Common.{Some, None, rules}
use Rattle.words.proofs.TestLaws.{and_both}
use Rattle.syntax.specs.Trees.{Elems}
use Rattle.syntax.specs.Accessors.{some}
use Rattle.syntax.specs.Views.{elems_of}
use Rattle.syntax.proofs.SiblingLaws.{some_node, long_some}
use Rattle.captures.specs.declared.State.{State}
use Rattle.captures.specs.declared.Turn.{Turn}
use Rattle.captures.proofs.TurnLaws.{goes_first, goes_further, goes_end}
use Rattle.matcher.specs.Matcher.{matcher_of}
use Rattle.record_fields.specs.Order.{AsksFor}
use Rattle.matching.specs.StartingOver.{is_silent, meets}
use Rattle.matching.specs.Matching.{ArgumentsGive, SequencesGive, MeasuredGives}
use Rattle.matching.proofs.NodeLaws.{node_bound, node_barred}
use Rattle.matching.proofs.TurnLaws.{went_trivia, went_token}
use Rattle.matching.proofs.LoopLaws.{arguments_left, arguments_turn, sequence_done, sequence_left}
use Rattle.matching.proofs.OverLaws.{Tail, whole, further}
use Rattle.matching.proofs.PairLaws.{Paired, paired}
use Rattle.matching.proofs.MeasuredLaws.{measured_done, measured_left, measured_stops, measured_turn, measured_fails, measured_pair, pair_silent, turn_silent}
use Rattle.matching.proofs.NameLaws.{record_asked, record_unasked, record_fails, record_measured, record_laid, still_silent, still_lays, stands_first}
use Rattle.matching.proofs.LaidLaws.{never_fails, place_before, order_turn, turn_lays, stands_turn, stands_pair, pair_length, laid_goes}
use Rattle.matching.proofs.CallLaws.{method_plain, method_fails, method_receiver, receiver_fails, receiver_matches}
use Rattle.matching.proofs.attempt_match.+node.Goals as goal

pub node-returns-then-allows-clause-node_gives : goal.node-returns-then-allows-clause-node_gives
node-returns-then-allows-clause-node_gives t c =
    node_bound (matcher_of c.args.x.now) c.args.p c.args.c c.args.s c.args.out.now c.requires.in_bounds.0 c.in-Some.slot (sym c.in-Some.ensures.value) c.bind.result
    c.is_node_in.result (cc (c.is_node_in.ensures, c.one.ensures.low, c.one.ensures.high)) (sym c.allows.ensures ∙ c.if-allows.true) c.bind.ensures

pub node-returns-in-Some-clause-node_gives : goal.node-returns-in-Some-clause-node_gives
node-returns-in-Some-clause-node_gives t c =
    node_barred (matcher_of c.args.x.now) c.args.p c.args.c c.args.s c.args.out.now c.requires.in_bounds.0 c.in-Some.slot (sym c.in-Some.ensures.value)
    c.is_node_in.result (cc (c.is_node_in.ensures, c.one.ensures.low, c.one.ensures.high)) (sym c.allows.ensures ∙ c.if-allows.false)

pub turn-returns-then-is_token_in-clause-went : goal.turn-returns-then-is_token_in-clause-went
turn-returns-then-is_token_in-clause-went t c =
    went_trivia (matcher_of c.args.x.now) c.args.p c.skip_trivia-q.result c.args.c c.rest.result c.args.s c.args.out.now c.skip_trivia-q.ensures.value c.rest.ensures.value
    c.record_ignored_comments.result c.record_ignored_comments.new.out (sym c.is_token_in.ensures ∙ c.if-is_token_in.true) c.record_ignored_comments.ensures.leads

pub turn-returns-then-is_token-clause-went : goal.turn-returns-then-is_token-clause-went
turn-returns-then-is_token-clause-went t c =
    went_token (matcher_of c.args.x.now) c.args.p c.skip_trivia-q.result c.args.c c.rest-then-is_token.result c.args.s c.args.out.now c.skip_trivia-q.ensures.value c.rest-then-is_token.ensures.value
    c.in_ok-attempt_match_token.field-0 (sym c.is_token.ensures ∙ c.if-is_token.true) c.in_ok-attempt_match_token.ensures

pub turn-node-requires : goal.turn-node-requires
turn-node-requires t c =
    let q = c.skip_trivia-q.result in
    let long : 3 ≤ length q.words.now = long_some q.number q.words.now (some_node (elems_of q) (sym c.is_node.ensures ∙ c.if-not-is_node.false)) in
    (omega (arith, c.skip_trivia-q.ensures.result_in_bounds), (long, (c.requires.in_bounds)))

pub arguments-returns-else-is_empty-2-clause-arguments_give : goal.arguments-returns-else-is_empty-2-clause-arguments_give
arguments-returns-else-is_empty-2-clause-arguments_give t c =
    let k : some (elems_of c.find_expression-z.result) ≡ false = search rules in
    let h : some (elems_of c.find_expression-y.result) ≡ true = search rules in
    let x = matcher_of c.args.x.now in
    goes_end (ArgumentsGive x) (ArgumentsGive x) c.args.p c.args.c c.args.s c.args.out.now c.loop-z.t c.loop-z.out None c.loop-z.out c.loop-z.invariant.goes_on
    (arguments_left x c.loop-z.t.p c.loop-z.t.c c.find_expression-y.result c.find_expression-z.result c.loop-z.t.state c.loop-z.out c.find_expression-y.ensures.value c.find_expression-z.ensures.value k h)

pub arguments-loop-z-preserved : goal.arguments-loop-z-preserved
arguments-loop-z-preserved t c =
    let k : some (elems_of c.find_expression-z.result) ≡ true = search rules in
    let x = matcher_of c.args.x.now in record {
      p_short = omega (arith, c.rest.ensures.shorter, c.find_expression-y.ensures.result_in_bounds);
      c_short = omega (arith, c.rest-in-loop-z.ensures.shorter, c.find_expression-z.ensures.result_in_bounds);
      long = c.in_ok-opt.ensures.out_len_unchanged ∙ c.loop-z.invariant.long;
      goes_on = goes_further (ArgumentsGive x) (ArgumentsGive x) (ArgumentsGive x) c.args.p c.args.c c.args.s c.args.out.now c.loop-z.t (record { p = c.rest.result; c = c.rest-in-loop-z.result; state = c.in_ok-opt.field-0 }) c.loop-z.out c.opt.new.out c.loop-z.invariant.goes_on
          (arguments_turn x c.loop-z.t.p c.loop-z.t.c c.find_expression-y.result c.find_expression-z.result c.loop-z.t.state c.loop-z.out c.find_expression-y.ensures.value c.find_expression-z.ensures.value k
          (omega (arith, c.find_expression-y.ensures.result_in_bounds)) (omega (arith, c.find_expression-z.ensures.result_in_bounds)) (record { p = c.rest.result; c = c.rest-in-loop-z.result; state = c.in_ok-opt.field-0 }) c.opt.new.out c.in_ok-opt.field-0
          c.in_ok-opt.ensures.opt_gives refl c.rest.ensures.value c.rest-in-loop-z.ensures.value c.rest.ensures.shorter c.rest-in-loop-z.ensures.shorter);
    }

pub measured-loop-q-init : goal.measured-loop-q-init
measured-loop-q-init t c = record {
  p_short = omega arith;
  c_short = omega arith;
  long = refl;
  silent = c.requires.out_value;
  tail = whole;
  goes_on = goes_first (MeasuredGives true (matcher_of c.args.x.now) c.args.lists) c.args.lists.p c.args.lists.c c.args.s c.args.out.now;
}

pub measured-node-requires : goal.measured-node-requires
measured-node-requires t c =
    let pair : Paired (matcher_of c.args.x.now) c.args.lists c.loop-q.before c.goes_on-before.result (elems_of c.skip_trivia-q.result) (elems_of c.loop-q.t.c) = paired (matcher_of c.args.x.now) c.args.lists c.loop-q.before c.goes_on-before.result (elems_of c.skip_trivia-q.result) (elems_of c.loop-q.t.c) c.goes_on-before.ensures c.goes_on-before.result c.asked-asked.result (λ a. a) c.asked-asked.ensures c.loop-q.invariant.tail (sym c.meets.ensures ∙ c.if-meets.true) in (
      omega (arith, c.skip_trivia-q.ensures.result_in_bounds, c.loop-q.invariant.p_short, c.loop-q.invariant.c_short),
      (long_some c.skip_trivia-q.result.number c.skip_trivia-q.result.words.now (some_node (elems_of c.skip_trivia-q.result) pair.node), long_some c.loop-q.t.c.number c.loop-q.t.c.words.now pair.there),
    )

pub measured-returns-in_err-u-clause-measured_gives : goal.measured-returns-in_err-u-clause-measured_gives
measured-returns-in_err-u-clause-measured_gives t c =
    rw c.from_residual.ensures (goes_end (MeasuredGives c.loop-q.before (matcher_of c.args.x.now) c.args.lists) (MeasuredGives true (matcher_of c.args.x.now) c.args.lists) c.args.lists.p c.args.lists.c c.args.s c.args.out.now c.loop-q.t c.loop-q.out None c.node.new.out c.loop-q.invariant.goes_on
    (measured_fails (matcher_of c.args.x.now) c.args.lists c.loop-q.before c.loop-q.t.p c.skip_trivia-q.result c.loop-q.t.c c.loop-q.t.state c.loop-q.out c.skip_trivia-q.ensures.value c.goes_on-before.result c.goes_on-before.ensures (paired (matcher_of c.args.x.now) c.args.lists c.loop-q.before c.goes_on-before.result (elems_of c.skip_trivia-q.result) (elems_of c.loop-q.t.c) c.goes_on-before.ensures c.goes_on-before.result c.asked-asked.result (λ a. a) c.asked-asked.ensures c.loop-q.invariant.tail (sym c.meets.ensures ∙ c.if-meets.true)) c.node.new.out (omega (arith, c.skip_trivia-q.ensures.result_in_bounds)) c.in_err-u.ensures.node_gives))

pub measured-loop-q-preserved-then-meets : goal.measured-loop-q-preserved-then-meets
measured-loop-q-preserved-then-meets t c =
    let u : Turn = record { p = c.rest.result; c = c.rest-then-meets.result; state = c.count_again.result } in
    let pair : Paired (matcher_of c.args.x.now) c.args.lists c.loop-q.before c.goes_on-before.result (elems_of c.skip_trivia-q.result) (elems_of c.loop-q.t.c) = paired (matcher_of c.args.x.now) c.args.lists c.loop-q.before c.goes_on-before.result (elems_of c.skip_trivia-q.result) (elems_of c.loop-q.t.c) c.goes_on-before.ensures c.goes_on-before.result c.asked-asked.result (λ a. a) c.asked-asked.ensures c.loop-q.invariant.tail (sym c.meets.ensures ∙ c.if-meets.true) in record {
      p_short = omega (arith, c.rest.ensures.shorter, c.skip_trivia-q.ensures.result_in_bounds, c.loop-q.invariant.p_short);
      c_short = omega (arith, c.rest-then-meets.ensures.shorter, c.loop-q.invariant.c_short);
      long = c.in_ok-u.ensures.out_len_unchanged ∙ c.loop-q.invariant.long;
      silent = pair_silent (matcher_of c.args.x.now) c.args.lists c.loop-q.before c.loop-q.t.p c.skip_trivia-q.result c.loop-q.t.c c.loop-q.t.state c.loop-q.out c.skip_trivia-q.ensures.value c.goes_on-before.result c.goes_on-before.ensures pair c.in_ok-u.u c.node.new.out c.in_ok-u.ensures.node_gives c.loop-q.invariant.silent u c.count_again.ensures;
      tail = subst (λ (y : Elems). Tail (elems_of c.args.lists.c) y) (sym c.rest-then-meets.ensures.value) (further (elems_of c.loop-q.t.c) c.loop-q.invariant.tail);
      goes_on = goes_further (MeasuredGives c.goes_on-before.result (matcher_of c.args.x.now) c.args.lists) (MeasuredGives c.loop-q.before (matcher_of c.args.x.now) c.args.lists) (MeasuredGives true (matcher_of c.args.x.now) c.args.lists) c.args.lists.p c.args.lists.c c.args.s c.args.out.now c.loop-q.t u c.loop-q.out c.node.new.out c.loop-q.invariant.goes_on
          (measured_pair (matcher_of c.args.x.now) c.args.lists c.loop-q.before c.loop-q.t.p c.skip_trivia-q.result c.loop-q.t.c c.loop-q.t.state c.loop-q.out c.skip_trivia-q.ensures.value c.goes_on-before.result c.goes_on-before.ensures pair c.in_ok-u.u c.node.new.out c.in_ok-u.ensures.node_gives c.loop-q.invariant.silent u c.count_again.ensures
          (omega (arith, c.skip_trivia-q.ensures.result_in_bounds, c.loop-q.invariant.p_short)) c.loop-q.invariant.c_short (omega (arith, c.skip_trivia-q.ensures.result_in_bounds)) c.rest.ensures.value c.rest-then-meets.ensures.value c.rest.ensures.shorter c.rest-then-meets.ensures.shorter);
    }

pub measured-returns-in_err-t-clause-measured_gives : goal.measured-returns-in_err-t-clause-measured_gives
measured-returns-in_err-t-clause-measured_gives t c =
    rw c.from_residual-in_err-t.ensures (goes_end (MeasuredGives c.loop-q.before (matcher_of c.args.x.now) c.args.lists) (MeasuredGives true (matcher_of c.args.x.now) c.args.lists) c.args.lists.p c.args.lists.c c.args.s c.args.out.now c.loop-q.t c.loop-q.out None c.turn.new.out c.loop-q.invariant.goes_on
    (measured_stops (matcher_of c.args.x.now) c.args.lists c.loop-q.before c.loop-q.t.p c.skip_trivia-q.result c.loop-q.t.c c.loop-q.t.state c.loop-q.out c.skip_trivia-q.ensures.value c.turn.new.out c.in_err-t.ensures.turn_of))

pub measured-loop-q-preserved : goal.measured-loop-q-preserved
measured-loop-q-preserved t c =
    let w = c.in_ok-t.ensures in record {
      p_short = omega (arith, w.steps, c.loop-q.invariant.p_short);
      c_short = omega (arith, w.steps, c.loop-q.invariant.c_short);
      long = w.out_len_unchanged ∙ c.loop-q.invariant.long;
      silent = turn_silent c.loop-q.t.p c.loop-q.t.c c.loop-q.t.state c.loop-q.out c.in_ok-t.t c.turn.new.out w.went c.loop-q.invariant.silent;
      tail = subst (λ (y : Elems). Tail (elems_of c.args.lists.c) y) (sym w.went.code) (further (elems_of c.loop-q.t.c) c.loop-q.invariant.tail);
      goes_on = goes_further (MeasuredGives c.goes_on-before.result (matcher_of c.args.x.now) c.args.lists) (MeasuredGives c.loop-q.before (matcher_of c.args.x.now) c.args.lists) (MeasuredGives true (matcher_of c.args.x.now) c.args.lists) c.args.lists.p c.args.lists.c c.args.s c.args.out.now c.loop-q.t c.in_ok-t.t c.loop-q.out c.turn.new.out c.loop-q.invariant.goes_on
          (measured_turn (matcher_of c.args.x.now) c.args.lists c.loop-q.before c.loop-q.t.p c.skip_trivia-q.result c.loop-q.t.c c.loop-q.t.state c.loop-q.out c.skip_trivia-q.ensures.value c.goes_on-before.result c.goes_on-before.ensures c.asked-asked.result c.asked-asked.ensures (sym c.meets.ensures ∙ c.if-meets.false) c.in_ok-t.t c.turn.new.out w.went w.turn_of);
    }

pub measured-returns-then-is_empty-clause-measured_gives : goal.measured-returns-then-is_empty-clause-measured_gives
measured-returns-then-is_empty-clause-measured_gives t c =
    let k : some (elems_of c.loop-q.t.c) ≡ false = search rules in
    let h : some (elems_of c.skip_trivia.result) ≡ false = search rules in
    goes_end (MeasuredGives c.loop-q.before (matcher_of c.args.x.now) c.args.lists) (MeasuredGives true (matcher_of c.args.x.now) c.args.lists) c.args.lists.p c.args.lists.c c.args.s c.args.out.now c.loop-q.t c.loop-q.out (Some c.loop-q.t.state) c.loop-q.out c.loop-q.invariant.goes_on (measured_done (matcher_of c.args.x.now) c.args.lists c.loop-q.before c.loop-q.t.p c.skip_trivia.result c.loop-q.t.c c.loop-q.t.state c.loop-q.out c.skip_trivia.ensures.value k h)

pub measured-returns-clause-measured_gives : goal.measured-returns-clause-measured_gives
measured-returns-clause-measured_gives t c =
    let k : some (elems_of c.loop-q.t.c) ≡ false = search rules in
    let h : some (elems_of c.skip_trivia.result) ≡ true = search rules in
    goes_end (MeasuredGives c.loop-q.before (matcher_of c.args.x.now) c.args.lists) (MeasuredGives true (matcher_of c.args.x.now) c.args.lists) c.args.lists.p c.args.lists.c c.args.s c.args.out.now c.loop-q.t c.loop-q.out None c.loop-q.out c.loop-q.invariant.goes_on (measured_left (matcher_of c.args.x.now) c.args.lists c.loop-q.before c.loop-q.t.p c.skip_trivia.result c.loop-q.t.c c.loop-q.t.state c.loop-q.out c.skip_trivia.ensures.value k h)

pub laid-loop-q-init : goal.laid-loop-q-init
laid-loop-q-init t c = record {
  p_short = omega arith;
  c_short = omega arith;
  long = refl;
  lays = c.requires.lays_value;
  tail = whole;
  stands = c.requires.stands;
  goes_on = goes_first (SequencesGive (matcher_of c.args.x.now)) c.args.lists.p c.args.lists.c c.args.s c.args.out.now;
}

pub laid-returns-in_err-m-clause-sequences_give : goal.laid-returns-in_err-m-clause-sequences_give
laid-returns-in_err-m-clause-sequences_give t c =
    let asked : AsksFor (c.goes_on-before.result && leb c.loop-q.t.state.noted (length c.loop-q.out)) (matcher_of c.args.x.now) c.args.lists (elems_of c.skip_trivia-q.result) (elems_of c.loop-q.t.c) c.asked-asked.result = c.asked-asked.ensures in
    never_fails (matcher_of c.args.x.now) c.args.lists c.loop-q.before c.goes_on-before.result c.loop-q.t.p c.skip_trivia-q.result c.loop-q.t.c c.loop-q.t.state c.loop-q.out c.loop-q.end c.loop-q.invariant.stands c.skip_trivia-q.ensures.value c.goes_on-before.ensures c.asked-asked.result asked c.found_here.result c.found_here.ensures c.loop-q.invariant.tail (omega (arith, c.skip_trivia-q.ensures.result_in_bounds, c.loop-q.invariant.p_short)) c.loop-q.invariant.c_short _ c.noted.new.out c.in_err-m.ensures.noted_gives

pub laid-lay_again-requires : goal.laid-lay_again-requires
laid-lay_again-requires t c =
    let asked : AsksFor (c.goes_on-before.result && leb c.loop-q.t.state.noted (length c.loop-q.out)) (matcher_of c.args.x.now) c.args.lists (elems_of c.skip_trivia-q.result) (elems_of c.loop-q.t.c) c.asked-asked.result = c.asked-asked.ensures in
    let both = and_both c.meets.result c.fits.result c.if-meets-fits.true in
    let place : c.in_ok-m.m.noted ≤ c.loop-q.t.state.noted = place_before (matcher_of c.args.x.now) c.args.lists c.loop-q.before c.goes_on-before.result c.loop-q.t.p c.skip_trivia-q.result c.loop-q.t.c c.loop-q.t.state c.loop-q.out c.loop-q.end c.loop-q.invariant.stands c.skip_trivia-q.ensures.value c.goes_on-before.ensures c.asked-asked.result asked c.found_here.result c.found_here.ensures c.loop-q.invariant.tail (omega (arith, c.skip_trivia-q.ensures.result_in_bounds, c.loop-q.invariant.p_short)) c.loop-q.invariant.c_short c.in_ok-m.m c.noted.new.out c.in_ok-m.ensures.noted_gives (sym c.meets.ensures ∙ both.0) in
    let fits = c.fits.ensures.from_le_end both.1 in
    (omega (arith, place, fits), omega (arith, fits))

pub laid-loop-q-preserved-then-meets-fits : goal.laid-loop-q-preserved-then-meets-fits
laid-loop-q-preserved-then-meets-fits t c =
    let asked : AsksFor (c.goes_on-before.result && leb c.loop-q.t.state.noted (length c.loop-q.out)) (matcher_of c.args.x.now) c.args.lists (elems_of c.skip_trivia-q.result) (elems_of c.loop-q.t.c) c.asked-asked.result = c.asked-asked.ensures in
    let both = and_both c.meets.result c.fits.result c.if-meets-fits.true in
    let meet : meets c.asked-asked.result (elems_of c.loop-q.t.c) ≡ true = sym c.meets.ensures ∙ both.0 in
    let fits = c.fits.ensures.from_le_end both.1 in
    let u : Turn = record { p = c.rest.result; c = c.rest-then-meets-fits.result; state = c.moved.result } in
    let fit : (c.loop-q.end ≤ c.in_ok-m.m.noted) × (c.loop-q.t.state.noted + (c.in_ok-m.m.noted - c.loop-q.end) ≤ length c.noted.new.out) = fits in record {
      p_short = omega (arith, c.rest.ensures.shorter, c.skip_trivia-q.ensures.result_in_bounds, c.loop-q.invariant.p_short);
      c_short = omega (arith, c.rest-then-meets-fits.ensures.shorter, c.loop-q.invariant.c_short);
      long = pair_length (matcher_of c.args.x.now) c.args.lists c.loop-q.before c.goes_on-before.result c.loop-q.t.p c.skip_trivia-q.result c.loop-q.t.c c.loop-q.t.state c.loop-q.out c.loop-q.end c.loop-q.invariant.stands c.skip_trivia-q.ensures.value c.goes_on-before.ensures c.asked-asked.result asked c.found_here.result c.found_here.ensures c.loop-q.invariant.tail (omega (arith, c.skip_trivia-q.ensures.result_in_bounds, c.loop-q.invariant.p_short)) c.loop-q.invariant.c_short c.in_ok-m.m c.noted.new.out c.in_ok-m.ensures.noted_gives meet c.loop-q.invariant.lays fit u c.lay_again.new.out c.moved.ensures c.lay_again.ensures c.rest.ensures.value c.rest-then-meets-fits.ensures.value ∙ c.loop-q.invariant.long;
      lays = ap (λ (v : State). v.lays) c.moved.ensures;
      tail = subst (λ (y : Elems). Tail (elems_of c.args.lists.c) y) (sym c.rest-then-meets-fits.ensures.value) (further (elems_of c.loop-q.t.c) c.loop-q.invariant.tail);
      stands = stands_pair (matcher_of c.args.x.now) c.args.lists c.loop-q.before c.goes_on-before.result c.loop-q.t.p c.skip_trivia-q.result c.loop-q.t.c c.loop-q.t.state c.loop-q.out c.loop-q.end c.loop-q.invariant.stands c.skip_trivia-q.ensures.value c.goes_on-before.ensures c.asked-asked.result asked c.found_here.result c.found_here.ensures c.loop-q.invariant.tail (omega (arith, c.skip_trivia-q.ensures.result_in_bounds, c.loop-q.invariant.p_short)) c.loop-q.invariant.c_short c.in_ok-m.m c.noted.new.out c.in_ok-m.ensures.noted_gives meet c.loop-q.invariant.lays fit u c.lay_again.new.out c.moved.ensures c.lay_again.ensures c.rest.ensures.value c.rest-then-meets-fits.ensures.value;
      goes_on = goes_further (SequencesGive (matcher_of c.args.x.now)) (SequencesGive (matcher_of c.args.x.now)) (SequencesGive (matcher_of c.args.x.now)) c.args.lists.p c.args.lists.c c.args.s c.args.out.now c.loop-q.t u c.loop-q.out c.lay_again.new.out c.loop-q.invariant.goes_on
          (laid_goes (matcher_of c.args.x.now) c.args.lists c.loop-q.before c.goes_on-before.result c.loop-q.t.p c.skip_trivia-q.result c.loop-q.t.c c.loop-q.t.state c.loop-q.out c.loop-q.end c.loop-q.invariant.stands c.skip_trivia-q.ensures.value c.goes_on-before.ensures c.asked-asked.result asked c.found_here.result c.found_here.ensures c.loop-q.invariant.tail (omega (arith, c.skip_trivia-q.ensures.result_in_bounds, c.loop-q.invariant.p_short)) c.loop-q.invariant.c_short c.in_ok-m.m c.noted.new.out c.in_ok-m.ensures.noted_gives meet c.loop-q.invariant.lays fit u c.lay_again.new.out c.moved.ensures c.lay_again.ensures c.rest.ensures.value c.rest-then-meets-fits.ensures.value
          (omega (arith, c.skip_trivia-q.ensures.result_in_bounds)) c.rest.ensures.shorter c.rest-then-meets-fits.ensures.shorter);
    }

pub laid-loop-q-preserved : goal.laid-loop-q-preserved
laid-loop-q-preserved t c =
    let asked : AsksFor (c.goes_on-before.result && leb c.loop-q.t.state.noted (length c.loop-q.out)) (matcher_of c.args.x.now) c.args.lists (elems_of c.skip_trivia-q.result) (elems_of c.loop-q.t.c) c.asked-asked.result = c.asked-asked.ensures in
    let w = c.in_ok-t.ensures in record {
      p_short = omega (arith, w.steps, c.loop-q.invariant.p_short);
      c_short = omega (arith, w.steps, c.loop-q.invariant.c_short);
      long = w.out_len_unchanged ∙ c.in_ok-m.ensures.out_len_unchanged ∙ c.loop-q.invariant.long;
      lays = turn_lays (matcher_of c.args.x.now) c.args.lists c.loop-q.before c.goes_on-before.result c.loop-q.t.p c.skip_trivia-q.result c.loop-q.t.c c.loop-q.t.state c.loop-q.out c.loop-q.end c.loop-q.invariant.stands c.skip_trivia-q.ensures.value c.goes_on-before.ensures c.asked-asked.result asked c.found_here.result c.found_here.ensures c.loop-q.invariant.tail (omega (arith, c.skip_trivia-q.ensures.result_in_bounds, c.loop-q.invariant.p_short)) c.loop-q.invariant.c_short c.in_ok-m.m c.noted.new.out c.in_ok-m.ensures.noted_gives c.in_ok-t.t c.turn.new.out c.loop-q.invariant.lays w.went;
      tail = subst (λ (y : Elems). Tail (elems_of c.args.lists.c) y) (sym w.went.code) (further (elems_of c.loop-q.t.c) c.loop-q.invariant.tail);
      stands = stands_turn (matcher_of c.args.x.now) c.args.lists c.loop-q.before c.goes_on-before.result c.loop-q.t.p c.skip_trivia-q.result c.loop-q.t.c c.loop-q.t.state c.loop-q.out c.loop-q.end c.loop-q.invariant.stands c.skip_trivia-q.ensures.value c.goes_on-before.ensures c.asked-asked.result asked c.found_here.result c.found_here.ensures c.loop-q.invariant.tail (omega (arith, c.skip_trivia-q.ensures.result_in_bounds, c.loop-q.invariant.p_short)) c.loop-q.invariant.c_short c.in_ok-m.m c.noted.new.out c.in_ok-m.ensures.noted_gives c.in_ok-t.t c.turn.new.out w.went;
      goes_on = goes_further (SequencesGive (matcher_of c.args.x.now)) (SequencesGive (matcher_of c.args.x.now)) (SequencesGive (matcher_of c.args.x.now)) c.args.lists.p c.args.lists.c c.args.s c.args.out.now c.loop-q.t c.in_ok-t.t c.loop-q.out c.turn.new.out c.loop-q.invariant.goes_on
          (order_turn (matcher_of c.args.x.now) c.args.lists c.loop-q.before c.goes_on-before.result c.loop-q.t.p c.skip_trivia-q.result c.loop-q.t.c c.loop-q.t.state c.loop-q.out c.loop-q.end c.loop-q.invariant.stands c.skip_trivia-q.ensures.value c.goes_on-before.ensures c.asked-asked.result asked c.found_here.result c.found_here.ensures c.loop-q.invariant.tail (omega (arith, c.skip_trivia-q.ensures.result_in_bounds, c.loop-q.invariant.p_short)) c.loop-q.invariant.c_short c.in_ok-m.m c.noted.new.out c.in_ok-m.ensures.noted_gives c.in_ok-t.t c.turn.new.out w.turn_of);
    }

pub laid-returns-then-is_empty-clause-sequences_give : goal.laid-returns-then-is_empty-clause-sequences_give
laid-returns-then-is_empty-clause-sequences_give t c =
    let k : some (elems_of c.loop-q.t.c) ≡ false = search rules in
    let h : some (elems_of c.skip_trivia.result) ≡ false = search rules in
    goes_end (SequencesGive (matcher_of c.args.x.now)) (SequencesGive (matcher_of c.args.x.now)) c.args.lists.p c.args.lists.c c.args.s c.args.out.now c.loop-q.t c.loop-q.out (Some c.loop-q.t.state) c.loop-q.out c.loop-q.invariant.goes_on (sequence_done (matcher_of c.args.x.now) c.loop-q.t.p c.skip_trivia.result c.loop-q.t.c c.loop-q.t.state c.loop-q.out c.skip_trivia.ensures.value k h)

pub laid-returns-clause-sequences_give : goal.laid-returns-clause-sequences_give
laid-returns-clause-sequences_give t c =
    let k : some (elems_of c.loop-q.t.c) ≡ false = search rules in
    let h : some (elems_of c.skip_trivia.result) ≡ true = search rules in
    goes_end (SequencesGive (matcher_of c.args.x.now)) (SequencesGive (matcher_of c.args.x.now)) c.args.lists.p c.args.lists.c c.args.s c.args.out.now c.loop-q.t c.loop-q.out None c.loop-q.out c.loop-q.invariant.goes_on (sequence_left (matcher_of c.args.x.now) c.loop-q.t.p c.skip_trivia.result c.loop-q.t.c c.loop-q.t.state c.loop-q.out c.skip_trivia.ensures.value k h)

pub receiver-returns-in_err-t-clause-receiver_gives : goal.receiver-returns-in_err-t-clause-receiver_gives
receiver-returns-in_err-t-clause-receiver_gives t c =
    rw c.from_residual-in_err-t.ensures (receiver_fails (matcher_of c.args.x.now) c.args.p c.args.c c.args.s c.args.out.now c.in_ok-stars.stars (sym c.in_ok-stars.ensures) c.arguments_of.result c.find_expression-q.result c.receiver_of-z.result c.arguments_of.ensures.value c.find_expression-q.ensures.value c.receiver_of-z.ensures.value
    c.arguments_of.ensures.shorter (omega (arith, c.find_expression-q.ensures.result_in_bounds)) (omega (arith, c.receiver_of-z.ensures.result_in_bounds)) c.requires.in_bounds.0 c.opt.new.out c.in_err-t.ensures.opt_gives)

pub receiver-returns-clause-receiver_gives : goal.receiver-returns-clause-receiver_gives
receiver-returns-clause-receiver_gives t c =
    receiver_matches (matcher_of c.args.x.now) c.args.p c.args.c c.args.s c.args.out.now c.in_ok-stars.stars (sym c.in_ok-stars.ensures) c.arguments_of.result c.find_expression-q.result c.receiver_of-z.result c.arguments_of.ensures.value c.find_expression-q.ensures.value c.receiver_of-z.ensures.value
    c.arguments_of.ensures.shorter (omega (arith, c.find_expression-q.ensures.result_in_bounds)) (omega (arith, c.receiver_of-z.ensures.result_in_bounds)) c.requires.in_bounds.0 c.in_ok-t.t c.prefix.result c.opt.new.out c.in_ok-t.ensures.opt_gives c.prefix.ensures

pub record_field_list-returns-in_err-t-clause-record_gives : goal.record_field_list-returns-in_err-t-clause-record_gives
record_field_list-returns-in_err-t-clause-record_gives t c =
    rw c.from_residual.ensures (record_fails (matcher_of c.args.x.now) c.args.p c.args.c c.args.s c.args.out.now (record { p = c.children.result; c = c.children-2.result }) c.children.ensures.value c.children-2.ensures.value c.children.ensures.shorter c.children-2.ensures.shorter c.requires.in_bounds.0 c.requires.in_bounds.1
    c.starts_over-over.result (is_silent c.args.s c.args.out.now) c.starts_over-over.ensures refl c.by_name.new.out c.in_err-t.ensures.by_name_gives)

pub record_field_list-returns-then-are_asked-clause-record_gives : goal.record_field_list-returns-then-are_asked-clause-record_gives
record_field_list-returns-then-are_asked-clause-record_gives t c =
    record_asked (matcher_of c.args.x.now) c.args.p c.args.c c.args.s c.args.out.now (record { p = c.children.result; c = c.children-2.result }) c.children.ensures.value c.children-2.ensures.value c.children.ensures.shorter c.children-2.ensures.shorter c.requires.in_bounds.0 c.requires.in_bounds.1
    c.starts_over-over.result (is_silent c.args.s c.args.out.now) c.starts_over-over.ensures refl c.if-not-over.true c.in_ok-t.t c.by_name.new.out c.in_ok-t.ensures.by_name_gives (sym c.are_asked.ensures ∙ c.if-are_asked.true)

pub record_field_list-returns-then-not-over-clause-record_gives : goal.record_field_list-returns-then-not-over-clause-record_gives
record_field_list-returns-then-not-over-clause-record_gives t c =
    record_unasked (matcher_of c.args.x.now) c.args.p c.args.c c.args.s c.args.out.now (record { p = c.children.result; c = c.children-2.result }) c.children.ensures.value c.children-2.ensures.value c.children.ensures.shorter c.children-2.ensures.shorter c.requires.in_bounds.0 c.requires.in_bounds.1
    c.starts_over-over.result (is_silent c.args.s c.args.out.now) c.starts_over-over.ensures refl c.if-not-over.true c.in_ok-t.t c.by_name.new.out c.in_ok-t.ensures.by_name_gives (sym c.are_asked.ensures ∙ c.if-are_asked.false)

pub record_field_list-measured-requires : goal.record_field_list-measured-requires
record_field_list-measured-requires t c = (
  omega (arith, c.children.ensures.shorter, c.children-2.ensures.shorter, c.requires.in_bounds),
  still_silent (matcher_of c.args.x.now) c.args.p c.args.c c.args.s c.args.out.now (record { p = c.children.result; c = c.children-2.result }) c.children.ensures.value c.children-2.ensures.value c.children.ensures.shorter c.children-2.ensures.shorter c.requires.in_bounds.0 c.requires.in_bounds.1
      c.starts_over-over.result (is_silent c.args.s c.args.out.now) c.starts_over-over.ensures refl c.if-not-over.false c.in_ok-t.t c.by_name.new.out c.in_ok-t.ensures.by_name_gives c.if-silent.true,
)

pub record_field_list-returns-then-silent-clause-record_gives : goal.record_field_list-returns-then-silent-clause-record_gives
record_field_list-returns-then-silent-clause-record_gives t c =
    record_measured (matcher_of c.args.x.now) c.args.p c.args.c c.args.s c.args.out.now (record { p = c.children.result; c = c.children-2.result }) c.children.ensures.value c.children-2.ensures.value c.children.ensures.shorter c.children-2.ensures.shorter c.requires.in_bounds.0 c.requires.in_bounds.1
    c.starts_over-over.result (is_silent c.args.s c.args.out.now) c.starts_over-over.ensures refl c.if-not-over.false c.in_ok-t.t c.by_name.new.out c.in_ok-t.ensures.by_name_gives c.if-silent.true c.measured.result c.measured.new.out c.measured.ensures.measured_gives

pub record_field_list-laid-requires : goal.record_field_list-laid-requires
record_field_list-laid-requires t c = (
  omega (arith, c.children.ensures.shorter, c.children-2.ensures.shorter, c.requires.in_bounds),
  (
    still_lays (matcher_of c.args.x.now) c.args.p c.args.c c.args.s c.args.out.now (record { p = c.children.result; c = c.children-2.result }) c.children.ensures.value c.children-2.ensures.value c.children.ensures.shorter c.children-2.ensures.shorter c.requires.in_bounds.0 c.requires.in_bounds.1
        c.starts_over-over.result (is_silent c.args.s c.args.out.now) c.starts_over-over.ensures refl c.if-not-over.false c.in_ok-t.t c.by_name.new.out c.in_ok-t.ensures.by_name_gives c.if-silent.false,
    stands_first (matcher_of c.args.x.now) c.args.p c.args.c c.args.s c.args.out.now (record { p = c.children.result; c = c.children-2.result }) c.children.ensures.value c.children-2.ensures.value c.children.ensures.shorter c.children-2.ensures.shorter c.requires.in_bounds.0 c.requires.in_bounds.1
        c.starts_over-over.result (is_silent c.args.s c.args.out.now) c.starts_over-over.ensures refl c.if-not-over.false c.in_ok-t.t c.by_name.new.out c.in_ok-t.ensures.by_name_gives c.if-silent.false,
  ),
)

pub record_field_list-returns-clause-record_gives : goal.record_field_list-returns-clause-record_gives
record_field_list-returns-clause-record_gives t c =
    record_laid (matcher_of c.args.x.now) c.args.p c.args.c c.args.s c.args.out.now (record { p = c.children.result; c = c.children-2.result }) c.children.ensures.value c.children-2.ensures.value c.children.ensures.shorter c.children-2.ensures.shorter c.requires.in_bounds.0 c.requires.in_bounds.1
    c.starts_over-over.result (is_silent c.args.s c.args.out.now) c.starts_over-over.ensures refl c.if-not-over.false c.in_ok-t.t c.by_name.new.out c.in_ok-t.ensures.by_name_gives c.if-silent.false c.laid.result c.laid.new.out c.laid.ensures.sequences_give

pub ufcs_to_method_call-returns-then-not-takes_receiver-clause-method_call_gives : goal.ufcs_to_method_call-returns-then-not-takes_receiver-clause-method_call_gives
ufcs_to_method_call-returns-then-not-takes_receiver-clause-method_call_gives t c =
    method_plain (matcher_of c.args.x.now) c.args.p c.args.c c.first_child-y.result c.first_child-z.result c.args.s c.args.out.now c.first_child-y.ensures.value c.first_child-z.ensures.value
    (rw (c.is_empty.ensures.value, c.is_empty-2.ensures.value) at c.if-is_empty.false) (sym c.same_function.ensures ∙ c.if-not-same_function.false) c.children-ps.result c.children-cs.result c.children-ps.ensures.value c.children-cs.ensures.value
    c.first_child-y.ensures.shorter c.first_child-z.ensures.shorter c.children-ps.ensures.shorter c.children-cs.ensures.shorter c.requires.in_bounds.0 c.arguments.result c.arguments.new.out (sym c.takes_receiver.ensures ∙ c.if-not-takes_receiver.true) c.arguments.ensures.arguments_give

pub ufcs_to_method_call-returns-in_err-t-clause-method_call_gives : goal.ufcs_to_method_call-returns-in_err-t-clause-method_call_gives
ufcs_to_method_call-returns-in_err-t-clause-method_call_gives t c =
    rw c.from_residual.ensures (method_fails (matcher_of c.args.x.now) c.args.p c.args.c c.first_child-y.result c.first_child-z.result c.args.s c.args.out.now c.first_child-y.ensures.value c.first_child-z.ensures.value
    (rw (c.is_empty.ensures.value, c.is_empty-2.ensures.value) at c.if-is_empty.false) (sym c.same_function.ensures ∙ c.if-not-same_function.false) c.children-ps.result c.children-cs.result c.children-ps.ensures.value c.children-cs.ensures.value
    c.first_child-y.ensures.shorter c.first_child-z.ensures.shorter c.children-ps.ensures.shorter c.children-cs.ensures.shorter c.requires.in_bounds.0 (sym c.takes_receiver.ensures ∙ c.if-not-takes_receiver.false) c.receiver.new.out c.in_err-t.ensures.receiver_gives)

pub ufcs_to_method_call-returns-clause-method_call_gives : goal.ufcs_to_method_call-returns-clause-method_call_gives
ufcs_to_method_call-returns-clause-method_call_gives t c =
    method_receiver (matcher_of c.args.x.now) c.args.p c.args.c c.first_child-y.result c.first_child-z.result c.args.s c.args.out.now c.first_child-y.ensures.value c.first_child-z.ensures.value
    (rw (c.is_empty.ensures.value, c.is_empty-2.ensures.value) at c.if-is_empty.false) (sym c.same_function.ensures ∙ c.if-not-same_function.false) c.children-ps.result c.children-cs.result c.children-ps.ensures.value c.children-cs.ensures.value
    c.first_child-y.ensures.shorter c.first_child-z.ensures.shorter c.children-ps.ensures.shorter c.children-cs.ensures.shorter c.requires.in_bounds.0 (sym c.takes_receiver.ensures ∙ c.if-not-takes_receiver.false) c.in_ok-t.t c.receiver.new.out c.rest.result c.find_expression.result c.arguments-2.result c.arguments-2.new.out c.in_ok-t.ensures.receiver_gives
    c.find_expression.ensures.value c.rest.ensures.value (omega (arith, c.find_expression.ensures.result_in_bounds)) c.rest.ensures.shorter c.arguments-2.ensures.arguments_give
