-- What a part and a tree of the code are: the siblings that a part's words decode to, numbered from the part's number on.
-- Assumes nothing.
use Rattle.std.specs.Prelude.{◌+◌, ◌*◌, ◌≤◌, ◌<◌, ◌≡◌, true, false, length, Option, Some, None}
use Rattle.syntax.specs.declared.parts.Part.{Part}
use Rattle.syntax.specs.declared.trees.Tree.{Tree}
use Rattle.syntax.specs.Trees.{Elems, elems, tree}
use Rattle.syntax.specs.Accessors.{rest, some}

abbrev pub elems_of : Part → Elems
elems_of part = elems part.number part.words.now

abbrev pub tree_of : Tree → Elems
tree_of t = tree t.words.now

-- a part begins no earlier than another and ends no later
abbrev pub IsWithin : Part → Part → Type 0
IsWithin part whole = (whole.number ≤ part.number) × (part.number * 3 + length part.words.now ≤ whole.number * 3 + length whole.words.now)

-- the first sibling is given, with what follows it, and the rest is left; at the end nothing is
abbrev pub GivesSibling : Part → Option Part → Part → Type 0
GivesSibling old None new = (some (elems_of old) ≡ false) × (new ≡ old)
GivesSibling old (Some first) new =
    (first ≡ old) × (some (elems_of old) ≡ true) × (elems_of new ≡ rest (elems_of old)) × IsWithin new old × (length new.words.now < length old.words.now)
