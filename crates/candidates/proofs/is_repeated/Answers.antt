-- `candidates::is_repeated` meets its contract.
use native.Mathlib.Omega.{arith}
use Rattle.std.proofs.lemmas.Grind.{common_steps}
use Rattle.candidates.proofs.Loops.{neighbours_test}
use Rattle.candidates.proofs.is_repeated.Goals as goal

pub returns : goal.returns
returns c = neighbours_test c.args.keys.now c.any.result (λ t. grind (arith, common_steps)) (λ t k h e. grind (arith, common_steps))
