-- Laws of a match's comments, which are laid behind a place by an attempt that is made with the rest of the buffer.
-- Assumes nothing.
use mathlib.Core.Path.{◌≡◌, refl, ap, ◌∙◌}
use mathlib.Core.Bool.{Bool, true, false}
use mathlib.Core.List.{List, [], ◌++◌, append-nil}
use Prim.Native.Nat.{ℕ, ◌+◌, ◌-◌, ◌≤◌, ◌<◌}
use native.Mathlib.Omega.{arith}
use lib.Dec.{leb}
use lib.ListN.{length, take, drop, length-append, length-drop, drop_of_length-le}
use lib.Seq.{take_at, drop_at, length-take-le}
use borrow.Author.Tests.{leb-true, leb-false}
use Rattle.std.specs.Prelude.{Option}
use Rattle.captures.specs.declared.State.{State}
use Rattle.captures.specs.Attempts.{Event, Attempt, failed, matched, comments, comments_of}
use Rattle.captures.specs.Effects.{nothing, recorded, Gives}
use Rattle.captures.proofs.AttemptLaws.{noted-total, gives_length}
use Rattle.rows.specs.Frames.{Grows}
use Rattle.replacing.specs.Laying.{Short}
use Rattle.render_replace.specs.Worlds.{noted_in}

-- the place behind the comments is in the buffer exactly where they fit
module _ (es : List Event) (out : List ℕ) where
  fits : (b : Bool) → leb (length (comments es)) (length out) ≡ b → (recorded (length out) es nothing).noted ≤ length out
      → length (comments es) ≤ length out
  fits true e h = leb-true _ _ e
  fits false e h = absurd (omega (arith, (noted-total es out).1 (leb-false _ _ e)))

  passes : (b : Bool) → leb (length (comments es)) (length out) ≡ b → length out < (recorded (length out) es nothing).noted
      → length out < length (comments es)
  passes true e h = let f : length (comments es) ≤ length out = leb-true _ _ e in absurd (omega (arith, ((noted-total es out).0 f).0))
  passes false e h = leb-false _ _ e

-- the part of the buffer behind a place, and the buffer with another in its stead
abbrev behind_of : List ℕ → ℕ → List ℕ
behind_of out at = take (length out - at) (drop at out)

abbrev with_behind : List ℕ → ℕ → List ℕ → List ℕ
with_behind out at after = take at out ++ (after ++ drop (length out - at) (drop at out))

module _ (out after : List ℕ) (at : ℕ) (low : at ≤ length out) where
  front : length (take at out) ≡ at
  front = length-take-le at out low

  none_left : drop (length out - at) (drop at out) ≡ []
  none_left = drop_of_length-le (drop at out) {i = length out - at} (omega (arith, length-drop at out))

  is_with : with_behind out at after ≡ take at out ++ after
  is_with = rw (none_left, append-nil after)

  size-behind : length (behind_of out at) ≡ length out - at
  size-behind = length-take-le (length out - at) (drop at out) (omega (arith, length-drop at out))

  pub size_with : length after ≡ length (behind_of out at) → length (with_behind out at after) ≡ length out
  size_with e = ap length is_with ∙ omega (arith, length-append (take at out) after, front, size-behind)

  same-with : take at (with_behind out at after) ≡ take at out
  same-with = ap (take at) is_with ∙ take_at (take at out) after at front

  new-with : (n : ℕ) (bs : List ℕ) → take n after ≡ bs → take (at + n - at) (drop at (with_behind out at after)) ≡ bs
  new-with n bs e =
      let m : at + n - at ≡ n = omega arith in
      ap (λ (x : ℕ). take x (drop at (with_behind out at after))) m ∙ ap (λ (l : List ℕ). take n (drop at l)) is_with
      ∙ ap (take n) (drop_at (take at out) after at front) ∙ e

  module _ (r : Option State) (a : Attempt) (g : Gives a nothing (behind_of out at) r after) where
    -- they fit
    fit_in : noted_in r ≤ length (with_behind out at after) - at → Grows out (with_behind out at after) at (at + noted_in r) (comments_of a)
    fit_in h =
        let n : length (with_behind out at after) ≡ length out = size_with (gives_length g) in
        record {
          size = n;
          same = same-with;
          rise = omega arith;
          ends = omega arith;
          new = new-with (noted_in r) (comments_of a) (first a g (omega (arith, size-behind)));
        }
      where
        first : (a : Attempt) → Gives a nothing (behind_of out at) r after → noted_in r ≤ length (behind_of out at)
            → take (noted_in r) after ≡ comments_of a
        first failed g h = ap (λ (x : Option State). take (noted_in x) after) g.answer
        first (matched es) g h =
            let d = behind_of out at in
            let z : noted_in r ≡ (recorded (length d) es nothing).noted = ap noted_in g.answer in
            let f : length (comments es) ≤ length d = fits es d _ refl (omega arith) in
            let t = (noted-total es d).0 f in
            ap (λ (n : ℕ). take n after) (z ∙ t.0) ∙ ap (take (length (comments es))) (g.buffer ∙ t.1)
            ∙ take_at (comments es) (drop (length (comments es)) d) (length (comments es)) refl

    -- they do not
    pass_in : length (with_behind out at after) - at < noted_in r → Short out (with_behind out at after) at (comments_of a)
    pass_in h =
        let n : length (with_behind out at after) ≡ length out = size_with (gives_length g) in
        record { short = omega (arith, long a g (omega (arith, size-behind)), size-behind); size = n; same = same-with }
      where
        long : (a : Attempt) → Gives a nothing (behind_of out at) r after → length (behind_of out at) < noted_in r
            → length (behind_of out at) < length (comments_of a)
        long failed g h = let z : noted_in r ≡ 0 = ap noted_in g.answer in absurd (omega arith)
        long (matched es) g h =
            let d = behind_of out at in
            let z : noted_in r ≡ (recorded (length d) es nothing).noted = ap noted_in g.answer in
            passes es d _ refl (omega arith)

    pub comments_fit : (n : ℕ) (bs : List ℕ) → bs ≡ comments_of a → n ≡ noted_in r → n ≤ length (with_behind out at after) - at → Grows out (with_behind out at after) at (at + n) bs
    comments_fit n bs s e h = rw (s, e) (fit_in (omega arith))

    pub comments_pass : (n : ℕ) → n ≡ noted_in r → length (with_behind out at after) - at < n → Short out (with_behind out at after) at (comments_of a)
    comments_pass n e h = pass_in (omega arith)
