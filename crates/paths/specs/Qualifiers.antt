-- The paths that the code's iterator gives: the first path among siblings, then the first among its children, and so on.
-- Assumes nothing.
use Rattle.std.specs.Prelude.{◌≡◌, ◌<◌, true, false, length, Option, Some, None}
use Rattle.syntax.specs.declared.parts.Part.{Part}
use Rattle.syntax.specs.Accessors.{children, some, find_node}
use Rattle.syntax.specs.Views.{elems_of}
use Rattle.paths.specs.declared.names.Qualifiers.{Qualifiers}

-- a path is given by its children, which are the siblings left; at the end nothing is
abbrev pub GivesPath : Qualifiers → Option Part → Qualifiers → Type 0
GivesPath old None new = some (find_node 2 2 (elems_of old.siblings)) ≡ false
GivesPath old (Some path) new =
    (path ≡ new.siblings) × (some (find_node 2 2 (elems_of old.siblings)) ≡ true)
    × (elems_of new.siblings ≡ children (find_node 2 2 (elems_of old.siblings))) × (length new.siblings.words.now < length old.siblings.words.now)
