-- `Pattern::add` meets its contract.
use Rattle.std.proofs.Common.{sym, ap, [], ◌∷◌, length, length-append, arith}
use lib.ListN.{length-map}
use Rattle.parsing.specs.Patterns.{placeholders_of, var_of}
use Rattle.parsing.specs.Vars.{vars_of}
use Rattle.parsing.proofs.PatternLaws.{map_snoc, count_snoc, ends_repeated, ends_ninth, ends_new}
use Rattle.parsing.proofs.patterns.Pattern.add.Goals as goal

pub returns-then-is_some-clause-added : goal.returns-then-is_some-clause-added
returns-then-is_some-clause-added c = ends_repeated c.args.self.now.text.now (vars_of c.args.self.now) (var_of c.args.placeholder) c.of.result.now c.find_name.result (sym c.of.ensures) c.find_name.ensures (sym c.if-is_some.ensures)

pub returns-then-len-ge8-clause-added : goal.returns-then-len-ge8-clause-added
returns-then-len-ge8-clause-added c =
    ends_ninth c.args.self.now.text.now (vars_of c.args.self.now) (var_of c.args.placeholder) c.of.result.now c.find_name.result (sym c.of.ensures) c.find_name.ensures (sym c.if-is_some.ensures)
    (omega (arith, c.if-len-ge8.true, c.len.ensures.value, length-map (placeholders_of c.args.self.now.placeholders) var_of))

pub invariant_of-self : goal.invariant_of-self
invariant_of-self c =
    let ps = placeholders_of c.args.self.now.placeholders in
    record {
      eight = omega (arith, c.if-len-ge8.false, c.len.ensures.value, ap length c.push.ensures, length-append ps (c.args.placeholder ∷ []));
      fifty = rw (c.push.ensures, map_snoc ps c.args.placeholder) (omega (arith, count_snoc (vars_of c.args.self.now) (var_of c.args.placeholder)));
    }

pub returns-clause-added : goal.returns-clause-added
returns-clause-added c =
    let ps = placeholders_of c.args.self.now.placeholders in (
      rw c.push.ensures (map_snoc ps c.args.placeholder),
      ends_new c.args.self.now.text.now (vars_of c.args.self.now) (var_of c.args.placeholder) c.of.result.now c.find_name.result (sym c.of.ensures) c.find_name.ensures (sym c.if-is_some.ensures)
          (omega (arith, c.if-len-ge8.false, c.len.ensures.value, length-map ps var_of)),
    )
