-- A rendering in parts that is rendered again where it stands.
-- Assumes nothing.
use mathlib.Core.Path.{◌≡◌, refl, sym, ap, ◌∙◌}
use mathlib.Core.Bool.{Bool, true, false, cond}
use mathlib.Core.List.{List, [], ◌++◌, append_assoc, append-nil}
use Prim.Native.Nat.{ℕ, ◌+◌, ◌-◌, ◌<◌, ◌≤◌}
use native.Mathlib.Omega.{arith}
use lib.Dec.{leb}
use borrow.Author.Tests.{le-leb, lt-leb, leb-true}
use lib.ListN.{length, take, drop, length-drop, drop_of_length-le}
use lib.Seq.{drop-drop, take-take, take_all}
use Rattle.std.specs.Prelude.{Option, None, Some}
use Rattle.words.specs.Buffer.{laid}
use Rattle.parses.specs.Ranges.{NodeRange}
use Rattle.parentheses.specs.Parentheses.{Part, total, requires, wrapped, added}
use Rattle.parentheses.specs.Parts as code
use Rattle.parentheses.specs.declared.Part.{Part as CodePart}
use Rattle.parentheses.proofs.MarkLaws.{length-requires}
use Rattle.parentheses.proofs.WrapLaws.{length-wrapped}
use Rattle.rows.specs.Frames.{between}
use Rattle.rows.proofs.BetweenLaws.{length-between, grows_laid}
use Rattle.rerendering.specs.Endings.{rendered_again, PutAgain}

-- bytes that are laid where there is room change nothing before the place, nor the length
kept_by : (d : List ℕ) (at : ℕ) (bs : List ℕ) (b : Bool) → leb (at + length bs) (length d) ≡ b
    → (length (cond b (laid d at bs) d) ≡ length d) × (take at (cond b (laid d at bs) d) ≡ take at d)
kept_by d at bs true e = let w = grows_laid d at bs (leb-true _ _ e) in (w.size, w.same)
kept_by d at bs false e = (refl, refl)

-- the part of the buffer behind a place, and the buffer with another in its stead
abbrev behind_of : List ℕ → ℕ → List ℕ
behind_of d b = take (length d - b) (drop b d)

abbrev with_behind : List ℕ → ℕ → List ℕ → List ℕ
with_behind d b after = take b d ++ (after ++ drop (length d - b) (drop b d))

-- bytes that are laid first in it are laid at the place
laid_behind : (d : List ℕ) (b : ℕ) (bs : List ℕ) → b ≤ length d → with_behind d b (laid (behind_of d b) 0 bs) ≡ laid d b bs
laid_behind d b bs h =
    let none : drop (length d - b) (drop b d) ≡ [] = drop_of_length-le (drop b d) {i = length d - b} (omega (arith, length-drop b d)) in
    let all : behind_of d b ≡ drop b d = take_all (length d - b) (drop b d) (omega (arith, length-drop b d)) in
    let n : 0 + length bs ≡ length bs = omega arith in
    let first : laid (drop b d) 0 bs ≡ bs ++ drop (b + length bs) d = ap (λ (k : ℕ). bs ++ drop k (drop b d)) n ∙ ap (λ (l : List ℕ). bs ++ l) (drop-drop (length bs) b d) in
    rw none (ap (λ (l : List ℕ). take b d ++ l) (append-nil (laid (behind_of d b) 0 bs) ∙ ap (λ (e : List ℕ). laid e 0 bs) all ∙ first))
    ∙ sym (append_assoc (take b d) bs (drop (b + length bs) d))

-- what is before the text that is rendered again stays
module _ (ranges : List NodeRange) (parts : List Part) (b at : ℕ) (out out' : List ℕ) (answer : Option ℕ) (p : PutAgain ranges parts b at out out' answer) where
  kept : (length out' ≡ length out) × (take b out' ≡ take b out)
  kept = let t = rendered_again ranges parts (between b at out) in rw p.leaves (kept_by out b t (leb (b + length t) (length out)) refl)

-- ---- the text from b up to a place, in parts, and how many bytes its parentheses take

module _ (ranges : List NodeRange) (parts : List CodePart) (b at : ℕ) (out : List ℕ) (begins : b ≤ at) (ends : at ≤ length out)
    (whole : total (code.parts_of parts) ≡ at - b) (more : ℕ) (is : more ≡ added (requires ranges 0 (code.parts_of parts))) where
  abbrev ps : List Part
  ps = code.parts_of parts

  abbrev text : List ℕ
  text = rendered_again ranges ps (between b at out)

  text_length : b + length text ≡ at + more
  text_length =
      let l : length (between b at out) ≡ at - b = length-between b at out ends in
      omega (arith, length-wrapped ps (requires ranges 0 ps) (between b at out) (length-requires ranges 0 ps) (omega arith))

  pub again_full : length out - at < more → PutAgain ranges ps b at out out None
  again_full h =
      let e : leb (b + length text) (length out) ≡ false = lt-leb (b + length text) (length out) (omega (arith, text_length)) in
      record { answers = rw e; leaves = rw e }

  -- there is room
  module _ (marked : List CodePart) (marks : code.marks_of marked ≡ requires ranges 0 (code.parts_of parts)) (same : code.parts_of marked ≡ code.parts_of parts) where
    pub room_again : added (code.marks_of marked) ≡ more
    room_again = rw (marks, is)

    pub again_put : (t out' : List ℕ) → at + more ≤ length out → t ≡ between b at out
        → out' ≡ laid out b (wrapped (code.parts_of marked) (code.marks_of marked) t) → PutAgain ranges ps b at out out' (Some (at + more))
    again_put t out' room u h =
        let e : leb (b + length text) (length out) ≡ true = le-leb (b + length text) (length out) (omega (arith, text_length)) in
        record { answers = rw (e, text_length); leaves = rw e (h ∙ rw (same, marks, u)) }

    -- the same where the text in its parentheses is laid first in the part behind b
    pub again_put_behind : (after : List ℕ) → at + more ≤ length out
        → after ≡ laid (behind_of out b) 0 (wrapped (code.parts_of marked) (code.marks_of marked) (take (at - b) (behind_of out b)))
        → PutAgain ranges ps b at out (with_behind out b after) (Some (at + more))
    again_put_behind after room h =
        let t = take (at - b) (behind_of out b) in
        let w = wrapped (code.parts_of marked) (code.marks_of marked) t in
        again_put t (with_behind out b after) room (take-take (at - b) (length out - b) (drop b out) (omega arith))
        (ap (λ (l : List ℕ). with_behind out b l) h ∙ laid_behind out b w (omega arith))
