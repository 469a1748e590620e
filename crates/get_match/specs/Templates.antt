-- `render_template_paths` of docs/src/src/matching.rs: the matched node has a module, and every resolved path of the template that refers to a
-- definition has a text for it.
-- Assumes nothing.
use Rattle.std.specs.Prelude.{ℕ, zero, suc, Bool, true, not, ◌&&◌, ◌||◌, List, Option, Some, None, is_some}
use Rattle.syntax.specs.Trees.{size}
use Rattle.facts.specs.declared.Sort.TheVariants.{Node, TemplatePath}
use Rattle.paths.specs.Steps.{SideTree, root_of}
use Rattle.paths.specs.Resolved.{refers_to_definition}
use Rattle.matcher.specs.FileFacts.{the_fact, module_of}

-- an element, by its fact "7 template path, module, text start, text length"
abbrev pub renders_at : SideTree → ℕ → ℕ → Bool
renders_at t «module» e = not (refers_to_definition t.side (root_of t) e) || is_some (the_fact t.side.facts TemplatePath e «module»)

-- every element whose number is below n
unfoldable pub renders_below : ℕ → SideTree → ℕ → Bool
renders_below zero t «module» = true
renders_below (suc e) t «module» = renders_below e t «module» && renders_at t «module» e

-- "6 node, module", of the matched node, by the file's facts
abbrev pub renders : SideTree → List ℕ → ℕ → Bool
renders t facts node = is_some (the_fact facts Node node 0) && renders_below (size (root_of t)) t (module_of facts node)

-- the same where there is a template
abbrev pub renders_given : Option SideTree → List ℕ → ℕ → Bool
renders_given None facts node = true
renders_given (Some t) facts node = renders t facts node
