-- Laws of the work that is left: it falls where a nested row begins, and where a row ends.
-- Assumes nothing.
use mathlib.Core.Path.{◌≡◌, refl, ap}
use mathlib.Core.List.{List}
use Prim.Native.Nat.{ℕ, zero, suc, ◌+◌, ◌-◌, ◌*◌, ◌≤◌, ◌<◌}
use native.Mathlib.Nat.{mul-le-mul_right}
use native.Mathlib.Omega.{arith}
use lib.ListN.{take}
use Rattle.rows.specs.declared.frames.Frame.{Frame}
use Rattle.rows.specs.Frames.{frame_of, came}
use Rattle.rows.proofs.OwnerLaws.{frame_before}
use Rattle.render_replace.specs.Stacks.{weight, digit, work_below, work_left}

weight-some : (n : ℕ) → 1 ≤ weight n
unfolding weight
weight-some zero = omega arith
weight-some (suc n) = omega (arith, weight-some n)

-- a row weighs as much as all that rows behind it may have
weight-more : (k : ℕ) → k < 1024 → weight (1024 - k) ≡ 33556481 * weight (1024 - suc k)
unfolding weight
weight-more k h = let e : 1024 - k ≡ suc (1024 - suc k) = omega arith in ap weight e

digit-most : (frames : List Frame) (k n : ℕ) → digit frames k * n ≤ 33556480 * n
digit-most frames k n = mul-le-mul_right {m = digit frames k} {n = 33556480} n (omega arith)

-- the digits of rows behind row k
far : (frames : List Frame) (k d : ℕ) → k + d ≤ 1024 → work_left frames (k + d) + weight (1024 - (k + d)) ≤ work_left frames k + weight (1024 - k)
unfolding work_below
far frames k zero h = let e : k + 0 ≡ k = omega arith in rw e (omega arith)
far frames k (suc d) h =
    let m = k + d in let e : k + suc d ≡ suc m = omega arith in
    rw e (omega (arith, far frames k d (omega arith), weight-more m (omega arith), digit-most frames (suc m) (weight (1024 - suc m))))

-- where frames before a row are kept, so is their work
module _ (frames frames' : List Frame) (k : ℕ) (same : take k frames' ≡ take k frames) where
  came_same : (i : ℕ) → i < k → came (frame_of frames' i) ≡ came (frame_of frames i)
  came_same i h = ap came (frame_before frames frames' i k h same)

  work_same : (n : ℕ) → n ≤ k → work_below frames' n ≡ work_below frames n
  unfolding work_below
  work_same zero h = refl
  work_same (suc n) h = rw (work_same n (omega arith), came_same n (omega arith))

  work_rises : (n d : ℕ) → work_below frames n ≤ work_below frames (n + d)
  unfolding work_below
  work_rises n zero = let e : n + 0 ≡ n = omega arith in rw e (omega arith)
  work_rises n (suc d) = let e : n + suc d ≡ suc (n + d) = omega arith in rw e (omega (arith, work_rises n d))

  -- a nested row begins
  pub nests_falls : (j : ℕ) → came (frame_of frames k) < 33556480 → came (frame_of frames k) < came (frame_of frames' k) → k < j → j ≤ 1023 → work_left frames' j < work_left frames k
  unfolding work_below
  nests_falls j low rise behind inside =
      let w = weight (1024 - k) in let e : k + (j - k) ≡ j = omega arith in
      let d : digit frames' k + 1 ≤ digit frames k = omega arith in
      let m : (digit frames' k + 1) * w ≤ digit frames k * w = mul-le-mul_right w d in
      let f : work_left frames' j + weight (1024 - j) ≤ work_left frames' k + w = rw e at (far frames' k (j - k) (omega arith)) in
      omega (arith, m, f, work_same k (omega arith), weight-some (1024 - j))

  -- row k ends, and a row before it goes on
  pub ends_falls : (o : ℕ) → came (frame_of frames k) < 33556480 → o < k → work_left frames' o < work_left frames k
  unfolding work_below
  ends_falls o low before =
      let w = weight (1024 - k) in let e : suc o + (k - suc o) ≡ k = omega arith in
      let m : 1 * w ≤ digit frames k * w = mul-le-mul_right w (omega arith) in
      let f : work_below frames (suc o) ≤ work_below frames k = rw e at (work_rises (suc o) (k - suc o)) in
      omega (arith, m, f, work_same (suc o) (omega arith), weight-some (1024 - k))
