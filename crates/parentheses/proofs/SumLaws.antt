-- Sums over the first parts of a list: their bytes, and those of their parentheses.
-- Assumes nothing.
use Rattle.std.proofs.Common.{◌≡◌, refl, sym, ap, ◌∙◌, ℕ, zero, suc, ◌+◌, ◌*◌, ◌<◌, ◌≤◌, arith, Bool, true, false, List, [], ◌∷◌, ◌++◌, length, get_or, take, sum_by}
use lib.Seq.{take-suc}
use Rattle.std.proofs.lemmas.List.Sums.{sum_by-cons}
use Rattle.parentheses.specs.Parentheses.{total, extra, added}
use Rattle.parentheses.specs.Parts.{parts_of, marks_of}
use Rattle.parentheses.specs.declared.Part.{Part}

-- part i of a list, as `parts[i]` reads it
abbrev pub no_part : Part
no_part = record { length = 0; is_placeholder = false; is_enclosed = false }

abbrev pub at : List Part → ℕ → Part
at ps i = get_or ps i no_part

-- the bytes of parts, as a sum
pub total_sum : (ps : List Part) → total (parts_of ps) ≡ sum_by (λ p. p.length) ps
unfolding total
total_sum [] = refl
total_sum (p ∷ ps) = ap (λ (n : ℕ). p.length + n) (total_sum ps) ∙ sym (sum_by-cons (λ (p : Part). p.length) p ps)

-- one part more
pub total_push : (ps : List Part) (p : Part) → total (parts_of (ps ++ p ∷ [])) ≡ total (parts_of ps) + p.length
unfolding total
total_push [] p = omega arith
total_push (q ∷ ps) p = omega (arith, total_push ps p)

pub total_more : (ps : List Part) (i : ℕ) → i < length ps → total (parts_of (take (suc i) ps)) ≡ total (parts_of (take i ps)) + (at ps i).length
total_more ps i h = rw (take-suc ps i no_part h) (total_push (take i ps) (at ps i))

pub total_part : (ps : List Part) (i : ℕ) → total (parts_of (take i ps)) ≤ total (parts_of ps)
unfolding total
total_part ps zero = omega arith
total_part [] (suc i) = omega arith
total_part (p ∷ ps) (suc i) = omega (arith, total_part ps i)

pub added_push : (ps : List Part) (p : Part) → added (marks_of (ps ++ p ∷ [])) ≡ added (marks_of ps) + extra p.is_enclosed
unfolding added
added_push [] p = omega arith
added_push (q ∷ ps) p = omega (arith, added_push ps p)

pub added_part : (ps : List Part) (i : ℕ) → added (marks_of (take i ps)) ≤ added (marks_of ps)
unfolding added
added_part ps zero = omega arith
added_part [] (suc i) = omega arith
added_part (p ∷ ps) (suc i) = omega (arith, added_part ps i)

-- at most two bytes each
pub extra_few : (m : Bool) → extra m ≤ 2
extra_few true = omega arith
extra_few false = omega arith

pub added_few : (ms : List Bool) → added ms ≤ 2 * length ms
unfolding added
added_few [] = omega arith
added_few (m ∷ ms) = omega (arith, extra_few m, added_few ms)
