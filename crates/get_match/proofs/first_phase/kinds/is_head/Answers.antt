-- Both differences are of numbers in order, so that nothing wraps.
use Rattle.std.proofs.Common.{arith, le-leb}
use Rattle.get_match.proofs.first_phase.kinds.is_head.Goals as goal

pub returns : goal.returns
returns c = λ k head small low high. le-leb c.wrapping_sub_u32.result c.wrapping_sub_u32-2.result (omega (arith, head, small, low, high, c.wrapping_sub_u32-2.ensures, c.wrapping_sub_u32.ensures, c.wrapping_add_u32-first.ensures))
