-- `parse_pattern` meets its contract.
use Rattle.std.proofs.Common.{refl, sym, ap, ◌∙◌, length, arith}
use Rattle.std.proofs.lemmas.Result.{err_from_is_err_and}
use Rattle.tokens.specs.Tokens.{tokens_from}
use Rattle.parsing.specs.Patterns.{var_of}
use Rattle.parsing.specs.Vars.{vars_of}
use Rattle.parsing.proofs.PatternLaws.{count_none, count_snoc}
use Rattle.parsing.proofs.ListLaws.{so_far_none, so_far_plain, so_far_more, unread, not_added, placeholders_malformed, placeholders_refused, placeholders_all}
use Rattle.parsing.proofs.reading.parse_pattern.Goals as goal

pub returns-then-not-is_well_formed-clause-value : goal.returns-then-not-is_well_formed-clause-value
returns-then-not-is_well_formed-clause-value c = sym (placeholders_malformed c.args.list.words.now c.args.list.text.now (sym c.if-not-is_well_formed.ensures.value))

pub loop-token-init : goal.loop-token-init
loop-token-init c = record {
  text = refl;
  of_list = c.new-pattern.ensures.text_value;
  few = rw c.new-pattern.ensures.vars (omega (arith, count_none, c.tokens.ensures.few));
  so_far = rw (c.new-pattern.ensures.vars, c.tokens.ensures.value) (so_far_none c.args.list.text.now (tokens_from c.args.list.words.now 0));
}

pub returns-in_err-placeholder-clause-value : goal.returns-in_err-placeholder-clause-value
returns-in_err-placeholder-clause-value c =
    let t = c.args.list.text.now in
    let l = c.loop-token in
    let e = err_from_is_err_and c.from_residual.result c.from_residual.ensures.1 in
    let r = rw l.invariant.text at c.in_err-placeholder.ensures.read in
    rw (e.1, e.2) (sym (placeholders_refused c.args.list.words.now t (sym c.if-not-is_well_formed.ensures.value) _ (unread t _ _ _ (vars_of l.pattern) c.in-Some.token l.invariant.so_far c.in-Some.ensures.steps c.if-token-eq-DOLLAR.true _ c.read_placeholder.new.self.tokens r)))

pub loop-token-preserved-in-Continue-branch-2 : goal.loop-token-preserved-in-Continue-branch-2
loop-token-preserved-in-Continue-branch-2 c =
    let t = c.args.list.text.now in
    let l = c.loop-token in
    let p = c.in_ok-placeholder.placeholder in
    let r = rw l.invariant.text at c.in_ok-placeholder.ensures.read in
    record {
      text = c.in_ok-placeholder.ensures.text ∙ l.invariant.text;
      of_list = ap (λ x. x.now) c.in_ok-add.ensures.text ∙ l.invariant.of_list;
      few = rw c.in_ok-add.ensures.added.0 (omega (arith, count_snoc (vars_of l.pattern) (var_of p), l.invariant.few, ap length c.in-Some.ensures.steps, r.0));
      so_far = so_far_more t _ _ _ (vars_of l.pattern) c.in-Some.token l.invariant.so_far c.in-Some.ensures.steps c.if-token-eq-DOLLAR.true p c.read_placeholder.new.self.tokens r (vars_of c.add.new.self) (rw l.invariant.of_list at c.in_ok-add.ensures.added);
    }

pub returns-in_err-add-clause-value : goal.returns-in_err-add-clause-value
returns-in_err-add-clause-value c =
    let t = c.args.list.text.now in
    let l = c.loop-token in
    let p = c.in_ok-placeholder.placeholder in
    let e = err_from_is_err_and c.from_residual-in_err-add.result c.from_residual-in_err-add.ensures.1 in
    let r = rw l.invariant.text at c.in_ok-placeholder.ensures.read in
    rw (e.1, e.2) (sym (placeholders_refused c.args.list.words.now t (sym c.if-not-is_well_formed.ensures.value) _ (not_added t _ _ _ (vars_of l.pattern) c.in-Some.token l.invariant.so_far c.in-Some.ensures.steps c.if-token-eq-DOLLAR.true p c.read_placeholder.new.self.tokens r _ (vars_of c.add.new.self) (rw l.invariant.of_list at c.in_err-add.ensures.added))))

pub loop-token-preserved : goal.loop-token-preserved
loop-token-preserved c =
    let l = c.loop-token in
    record {
      text = l.invariant.text;
      of_list = l.invariant.of_list;
      few = omega (arith, l.invariant.few, ap length c.in-Some.ensures.steps);
      so_far = so_far_plain c.args.list.text.now _ _ _ (vars_of l.pattern) c.in-Some.token l.invariant.so_far c.in-Some.ensures.steps c.if-token-eq-DOLLAR.false;
    }

pub returns-clause-value : goal.returns-clause-value
returns-clause-value c =
    let l = c.loop-token in
    let s = rw c.in_default.ensures.steps.0 at l.invariant.so_far in
    sym (placeholders_all c.args.list.words.now c.args.list.text.now (sym c.if-not-is_well_formed.ensures.value) (vars_of l.pattern) s)
