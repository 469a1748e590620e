-- Parts as the code has them: what each is, and whether it is marked.
-- Assumes nothing.
use Rattle.std.specs.Prelude.{Bool, List, map}
use Rattle.parentheses.specs.Parentheses as parentheses
use Rattle.parentheses.specs.declared.Part.{Part}

abbrev pub part_of : Part → parentheses.Part
part_of p = record { length = p.length; is_placeholder = p.is_placeholder }

abbrev pub parts_of : List Part → List parentheses.Part
parts_of ps = map part_of ps

-- which of them are put in parentheses
abbrev pub marks_of : List Part → List Bool
marks_of ps = map (λ p. p.is_enclosed) ps
