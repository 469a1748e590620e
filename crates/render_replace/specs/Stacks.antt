-- The texts around a row's text, none of them finished: the row's owner waits for it, the owner of that row for that one, up to the outer
-- match's. Document 01: "laid behind the list so far and the unfinished texts around it". What is left to do falls with every turn.
-- Assumes nothing.
use Rattle.std.specs.Prelude.{ℕ, zero, suc, ◌+◌, ◌-◌, ◌*◌, List}
use Rattle.rows.specs.declared.frames.Frame.{Frame}
use Rattle.rows.specs.Rows.{World}
use Rattle.rows.specs.Frames.{frame_of, came, Waiting}

pub data Stack (W : World) (frames : List Frame) (out : List ℕ) (k0 : ℕ) : ℕ → Type 0 where
  base : Stack W frames out k0 k0
  up : {o k : ℕ} → Waiting W o k (frame_of frames o) out (frame_of frames k).begin → Stack W frames out k0 o → Stack W frames out k0 k

-- A row's digit is how far it may still come, below 2048 for each of 16,385 fragments; a row weighs more than all behind it together.
unfoldable pub weight : ℕ → ℕ
weight zero = 1
weight (suc n) = 33556481 * weight n

abbrev pub digit : List Frame → ℕ → ℕ
digit frames k = 33556480 - came (frame_of frames k)

unfoldable pub work_below : List Frame → ℕ → ℕ
work_below frames zero = 0
work_below frames (suc k) = work_below frames k + digit frames k * weight (1024 - k)

-- the work that is left in row k and the rows before it
abbrev pub work_left : List Frame → ℕ → ℕ
work_left frames k = work_below frames (suc k)
