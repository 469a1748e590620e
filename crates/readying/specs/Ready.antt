-- What the functions that make a template ready leave and ask for: its pieces, told in a module.
-- Assumes nothing.
use Rattle.std.specs.Prelude.{ℕ, ◌≤◌, ◌<◌, ◌≡◌, Bool, false, ◌&&◌, eqb, List, map, length, take, Option, Some, None, slice_get}
use Rattle.std.specs.List.{AllByRecursion}
use Rattle.words.specs.Texts.{part}
use Rattle.facts.specs.declared.Sort.TheVariants.{TemplatePath}
use Rattle.facts.specs.Facts.{facts_of, place_of}
use Rattle.paths.specs.Steps.{SideTree}
use Rattle.checks.specs.declared.Rules.{Rules}
use Rattle.checks.specs.Given.{found_rule}
use Rattle.templates.specs.declared.Piece.{Piece}
use Rattle.templates.specs.declared.Piece.TheVariants.{Text, Path, Hole}
use Rattle.rendering.specs.Texts.{Fragment, fixed, captured}
use Rattle.readying.specs.declared.ReadyTemplate.{ReadyTemplate}
use Rattle.readying.specs.Templates.{fact_text_of, found_template, tree_fragments, tree_kind}

-- a piece as it is told in a module: a path by the place of its fact; one without a fact has no text
abbrev pub placed : Option ℕ → Piece
placed None = Text 0 0
placed (Some place) = Path place

abbrev pub told : List ℕ → ℕ → Piece → Piece
told facts «module» (Text s e) = Text s e
told facts «module» (Path e) = placed (place_of TemplatePath e «module» (facts_of facts))
told facts «module» (Hole slot is_receiver) = Hole slot is_receiver

-- what a told piece says
abbrev pub told_fragment : List ℕ → List ℕ → List ℕ → Piece → Fragment
told_fragment fact_text code facts (Text s e) = fixed (part code s e)
told_fragment fact_text code facts (Path place) = fixed (fact_text_of fact_text (slice_get (facts_of facts) place))
told_fragment fact_text code facts (Hole slot is_receiver) = captured slot is_receiver

-- a placeholder is one of eight
abbrev pub IsLow : Piece → Type 0
IsLow (Text s e) = Unit {0}
IsLow (Path place) = Unit {0}
IsLow (Hole slot is_receiver) = slot < 8

-- the first pieces of a table tell a template's tree in a module, over any fact text
pub record Tells (t : Option SideTree) («module» : ℕ) (made : ReadyTemplate) (table : List Piece) : Type 0 where
  pub kind : made.kind ≡ tree_kind t
  pub within : made.count ≤ length table
  pub low : AllByRecursion IsLow (take made.count table)
  pub fragments : (fact_text : List ℕ) → map (told_fragment fact_text made.code.now made.facts.now) (take made.count table) ≡ tree_fragments fact_text t «module»

-- a template is ready for the rule of a number in a module
pub record TemplateOf (q : Rules) (number «module» : ℕ) (made : ReadyTemplate) (table : List Piece) : Type 0 where
  pub rule : made.rule ≡ number
  pub module_is : made.«module» ≡ «module»
  pub tells : Tells (found_template q (found_rule q number)) «module» made table

-- the one at hand says that it is
abbrev pub is_ready_for : Option ReadyTemplate → ℕ → ℕ → Bool
is_ready_for None number «module» = false
is_ready_for (Some t) number «module» = eqb t.rule number && eqb t.«module» «module»
