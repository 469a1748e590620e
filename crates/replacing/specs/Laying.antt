-- What laying bytes leaves: they stand behind the place, or there is no room for them all, and what stands before the place is as it was.
-- Assumes nothing.
use Rattle.std.specs.Prelude.{ℕ, ◌+◌, ◌<◌, ◌≡◌, List, length, take}
use Rattle.std.specs.Prelude.{Option, Some, None}
use Rattle.rows.specs.Frames.{Grows}

-- 30: "the next byte .. does not fit"
pub record Short (out out' : List ℕ) (at : ℕ) (bs : List ℕ) : Type 0 where
  pub short : length out < at + length bs
  pub size : length out' ≡ length out
  pub same : take at out' ≡ take at out

abbrev pub Lays : List ℕ → ℕ → List ℕ → List ℕ → Option ℕ → Type 0
Lays out at bs out' (Some at') = Grows out out' at at' bs
Lays out at bs out' None = Short out out' at bs
