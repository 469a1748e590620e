-- `lay_notes` meets its contract.
use Rattle.std.proofs.Common.{refl, ap, length, arith, None}
use Rattle.syntax.proofs.FormedLaws.{formed_is, whole}
use Rattle.paths.specs.Trees.{side_of}
use Rattle.paths.specs.declared.resolving.Noted.{Noted}
use Rattle.paths.proofs.TableLaws.{notes_of}
use Rattle.paths.proofs.resolving.RuleTree.lay_notes.Goals as goal

pub resolve_siblings-requires : goal.resolve_siblings-requires
resolve_siblings-requires c =
    let t = c.args.self.now.tree in
    let n = c.fill.ensures.len in
    let w = formed_is t.words.now t.formed in
    record {
      room = record {
        few = omega (arith, w.few);
        within = omega (arith, whole t.words.now t.formed, ap length c.root.ensures.words_value, c.root.ensures.result_number);
        parent_within = tt;
        grandparent_within = tt;
      };
    }

pub returns-clause-laid : goal.returns-clause-laid
returns-clause-laid c =
    let t = c.args.self.now.tree in
    let nothing : Noted = record { path = None; call = None } in
    let clear = c.fill.ensures.after (λ y h. h) in
    let at = rw (clear, c.root.ensures.value) at c.resolve_siblings.ensures.at_siblings in
    notes_of (side_of c.args.self.now) t.words.now (formed_is t.words.now t.formed) nothing refl refl (length c.args.notes.now) c.requires c.resolve_siblings.new.notes c.resolve_siblings.result at
