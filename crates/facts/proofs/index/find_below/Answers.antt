-- `facts::index::find_below` meets its contract.
use Rattle.facts.proofs.StartLaws.{part_there}
use Rattle.facts.proofs.index.find_below.Goals as goal

pub below_between-requires : goal.below_between-requires
below_between-requires c =
    let a = c.args in
    let o = c.requires.of_element in
    let p = part_there a.index.now a.element a.number c.start_of.result c.end_of.result c.start_of.ensures c.end_of.ensures.0 o.1 o.2 in
    record { rising = c.requires.starts.0; between = (p.0, p.1, c.end_of.ensures.1) }
