-- `parses::Parses::find_parse` meets its contract: the parts passed over are of no parse that is looked for.
use mathlib.Core.Path.{◌≡◌}
use Rattle.std.specs.Prelude.{map}
use Rattle.parses.specs.Parses.{parse_at, lookup}
use Rattle.parses.proofs.Parses.find_parse.Given as goal

abbrev pub invariant-loop-part : goal.invariant-loop-part
invariant-loop-part l = lookup (map (parse_at l.self-inside.text.now) l.part-iterator) l.kind l.text ≡ lookup l.fn.self l.kind l.text
