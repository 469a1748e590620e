-- `get_match::templates::render_all` meets its contract: the elements before the one looked at have their texts.
use mathlib.Core.Path.{◌≡◌}
use mathlib.Core.Bool.{true}
use Rattle.get_match.specs.Templates.{renders_below}
use Rattle.get_match.proofs.templates.render_all.Given as goal

abbrev pub invariant-loop-element : goal.invariant-loop-element
invariant-loop-element l = renders_below l.element l.template l.module ≡ true
