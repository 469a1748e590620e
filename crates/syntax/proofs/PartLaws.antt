-- Laws of the parts that a part's first element leads to.
-- Assumes nothing.
use mathlib.Core.Path.{◌≡◌}
use mathlib.Core.Bool.{Bool, true, false, cond}
use mathlib.Core.List.{List}
use Prim.Native.Nat.{ℕ, ◌+◌, ◌-◌, ◌*◌, ◌≤◌, ◌<◌}
use native.Mathlib.Omega.{arith}
use lib.ListN.{length, take, drop, length-take, length-drop}
use lib.Seq.{take_all}
use Rattle.words.specs.Fields.{is_a_token, size_of}
use Rattle.syntax.specs.Parts.{span, child_words, rest_words}

span_from : (b : Bool) (n : ℕ) → 1 ≤ cond b 1 (1 + (n - 1))
span_from true n = omega arith
span_from false n = omega arith

-- an element counts itself, and its size has 16 bits
pub span_pos : (l : List ℕ) → 1 ≤ span l
span_pos l = span_from (is_a_token l) (size_of l)

-- the span of a token, and of another element that has a size
pub span-token : (l : List ℕ) → is_a_token l ≡ true → span l ≡ 1
span-token l h = rw h

pub span_node : (l : List ℕ) → is_a_token l ≡ false → 1 ≤ size_of l → span l ≡ size_of l
span_node l h s = rw h (omega arith)

-- both parts are shorter
pub length_rest : (l : List ℕ) → length (rest_words l) ≡ length l - span l * 3
length_rest l = length-drop (span l * 3) l

pub rest_shorter : (l : List ℕ) → 0 < length l → length (rest_words l) < length l
rest_shorter l h =
    let a = length_rest l in
    let b = span_pos l in
    omega arith

pub children_shorter : (l : List ℕ) → 0 < length l → length (child_words l) < length l
children_shorter l h = simp (length-take, length-drop) (omega arith)

-- a token has no children
pub no_children : (l : List ℕ) → is_a_token l ≡ true → length (child_words l) < 3
no_children l t = simp length-take (omega (arith, span-token l t))

-- a part up to the end is what is left
pub slice_end : (l : List ℕ) (n : ℕ) → take (length l - n) (drop n l) ≡ drop n l
slice_end l n = take_all (length l - n) (drop n l) (omega (arith, length-drop n l))
