-- How long an edit list is, and that a loader reads the edits back from its bytes.
-- Assumes nothing.
use mathlib.Core.Path.{◌≡◌, refl, sym, ap, ◌∙◌}
use mathlib.Core.List.{List, [], ◌∷◌, map}
use Prim.Native.Nat.{ℕ, zero, suc, ◌+◌, ◌*◌, ◌/◌, ◌%◌, ◌≤◌, ◌<◌}
use native.Mathlib.Omega.{arith}
use lib.ListN.{length, length-append}
use lib.Seq.{take_at, drop_at}
use Rattle.words.specs.Fields.{word_value, word_of}
use Rattle.std.specs.List.{concat}
use Rattle.rendering.proofs.RoomLaws.{length-concat}
use Rattle.edits.specs.Edits.{Edit, encode}
use Rattle.edits.specs.Made.{Rise}
use Rattle.edits.specs.Loaded.{read_list, AllSmall}
use Rattle.edits.proofs.MadeLaws.{rise_end}

-- ---- its length: 12 bytes for each edit, and the texts

length_more : (e : Edit) (es : List Edit) → length (encode (e ∷ es)) ≡ 12 + length e.text + length (encode es)
unfolding encode
length_more e es = simp length-append (omega arith)

pub length-encode : (es : List Edit) → length (encode es) ≡ 12 * length es + length (concat (map (λ (e : Edit). e.text) es))
unfolding encode
length-encode [] = refl
length-encode (e ∷ es) = omega (arith, length_more e es, length-concat e.text (map (λ (e : Edit). e.text) es), length-encode es)

-- edits that rise in a file of few bytes, in a list of few bytes, are small
pub rise_small : (es : List Edit) (from to : ℕ) → Rise from to es → to < 268435456 → length (encode es) < 268435456 → AllSmall es
rise_small [] from to r h k = tt
rise_small (e ∷ es) from to r h k =
    let a = rise_end es e.end to r.2 in
    let b = length_more e es in
    ((omega arith, omega arith, omega arith), rise_small es e.end to r.2 h (omega arith))

-- ---- read back

-- four bytes put together
four : (w : ℕ) → w < 4294967296 → w % 256 + w / 256 % 256 * 256 + w / 65536 % 256 * 65536 + w / 16777216 % 256 * 16777216 ≡ w
four w h =
    let a : w / 65536 ≡ w / 256 / 256 = omega arith in
    let b : w / 16777216 ≡ w / 65536 / 256 = omega arith in
    let c : w / 256 ≡ w / 65536 * 256 + w / 256 % 256 = rw a (omega arith) in
    let d : w / 65536 ≡ w / 16777216 * 256 + w / 65536 % 256 = rw b (omega arith) in
    let e : w / 16777216 % 256 ≡ w / 16777216 = omega arith in
    let f : w ≡ w / 256 * 256 + w % 256 = omega arith in
    omega arith

-- the value of a word that was written
value_back : (kind n : ℕ) → kind < 16 → n < 268435456
    → let w = word_of kind n in word_value (w % 256 + w / 256 % 256 * 256 + w / 65536 % 256 * 65536 + w / 16777216 % 256 * 16777216) ≡ n
value_back kind n h i =
    let m : n % 268435456 ≡ n = omega arith in
    rw (four (word_of kind n) (omega arith), m) (omega arith)

pub read_back : (es : List Edit) (n : ℕ) → length es ≤ n → AllSmall es → read_list n (encode es) ≡ es
unfolding read_list encode
read_back [] zero h s = refl
read_back [] (suc n) h s = refl
read_back (e ∷ es) zero h s = absurd (omega arith)
read_back (e ∷ es) (suc n) h s =
    let a = value_back 5 e.start (omega arith) s.0.0 in
    let b = value_back 6 e.end (omega arith) s.0.1 in
    let c = value_back 7 (length e.text) (omega arith) s.0.2 in
    let x = take_at e.text (encode es) _ (sym c) in
    let y = drop_at e.text (encode es) _ (sym c) in
    λ i. record { start = a i; end = b i; text = x i } ∷ (ap (λ (z : List ℕ). read_list n z) y ∙ read_back es n (omega arith) s.1) i
