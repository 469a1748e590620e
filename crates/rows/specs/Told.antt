-- A fragment of a template, as it is told in a module.
-- Assumes nothing.
use Rattle.rendering.specs.Texts.{Fragment, fixed, captured}
use Rattle.rows.specs.declared.told.Fragment.{Fragment as Told}
use Rattle.rows.specs.declared.told.Fragment.TheVariants.{Fixed, Captured}

abbrev pub fragment_of : Told → Fragment
fragment_of (Fixed bytes) = fixed bytes.now
fragment_of (Captured hole) = captured hole.slot hole.is_receiver
