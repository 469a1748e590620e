-- The sides and forms of a pair's trees. Document 01, "Modules", 2 and 3: "five pattern and five template trees, each present or not:
-- expression, type, item, pattern, statement", in the order of docs/src/src/fragments.rs' use.
-- Assumes nothing.
use Rattle.std.specs.Prelude.{ℕ, List, [], ◌∷◌}
use Rattle.fragments.specs.declared.forms.Side.{Side}
use Rattle.fragments.specs.declared.forms.Side.TheVariants as side
use Rattle.fragments.specs.declared.forms.Form.{Form}
use Rattle.fragments.specs.declared.forms.Form.TheVariants as form

-- the pattern's side is 0, the template's 1
abbrev pub side_number : Side → ℕ
side_number side.Pattern = 0
side_number side.Template = 1

abbrev pub form_number : Form → ℕ
form_number form.Expression = 0
form_number form.Type = 1
form_number form.Item = 2
form_number form.Pattern = 3
form_number form.Statement = 4

-- something of each form, in their order
abbrev pub five : {A : Type 0} → (Form → A) → List A
five f = f form.Expression ∷ f form.Type ∷ f form.Item ∷ f form.Pattern ∷ f form.Statement ∷ []
