-- `is_code_of` meets its contract.
use Rattle.std.proofs.Common.{◌≡◌, drop}
use Rattle.words.specs.Texts.{same_text}
use Rattle.parsing.specs.Patterns.{placeholders_of, vars_at}
use Rattle.parsing.specs.Vars.{vars_of}
use Rattle.rust_code.specs.Segments.{segments}
use Rattle.rust_code.proofs.tree_text.is_code_of.Given as goal

abbrev pub invariant-loop-placeholder : goal.invariant-loop-placeholder
invariant-loop-placeholder l = same_text (segments l.text l.range.end l.range.start (vars_of l.pattern)) l.code ≡ same_text (segments l.text l.range.end l.from (vars_at (drop l.placeholder-index (placeholders_of l.pattern.placeholders)))) l.left
