-- `candidates::order_candidates` meets its contract.
use mathlib.Core.Path.{◌≡◌}
use mathlib.Core.List.{◌++◌}
use Prim.Native.Nat.{◌*◌}
use lib.ListN.{take, drop}
use Rattle.candidates.specs.Candidates.{candidates_of, keys_of}
use Rattle.candidates.proofs.order_candidates.Given as goal

abbrev pub invariant-loop-place : goal.invariant-loop-place
invariant-loop-place l = keys_of (candidates_of l.candidates) ≡ take l.place l.keys ++ keys_of (candidates_of (drop (2 * l.place) l.candidates))
