-- What constraints allow.
-- Assumes nothing.
use mathlib.Core.Path.{◌≡◌, refl, sym, ◌∙◌}
use mathlib.Core.Bool.{Bool, true, false, cond, not, ◌&&◌, ◌||◌, or-true, or-false, not-not}
use mathlib.Core.List.{List, [], ◌∷◌}
use Prim.Native.Nat.{ℕ, zero, suc, ◌+◌, ◌%◌, ◌≤◌, ◌<◌}
use native.Mathlib.Omega.{arith}
use lib.Dec.{eqb, ltb}
use lib.ListN.{length, get_or, set, replicate, length-map, get_or-replicate}
use lib.Seq.{get_or-set_same, get_or-set_other}
use borrow.Author.Tests.{lt-ltb, le-ltb}
use Rattle.std.proofs.lemmas.Option.{slice_get_past, slice_get-get_or}
use Rattle.words.proofs.TestLaws.{same_or, low_or}
use Rattle.parsing.specs.declared.patterns.Placeholder.{Placeholder}
use Rattle.parsing.specs.Reading.{Var}
use Rattle.parsing.specs.Patterns.{nots_of, var_of, vars_at}
use Rattle.matcher.specs.declared.marks.Limit.{Limit}
use Rattle.matcher.specs.Marks.{allows}
use Rattle.prepared.specs.Placeholders.{holds, all_hold, constraints_of, has_remainder}
use Rattle.prepared.specs.Rules.{limit_of, Limited}

-- ---- all constraints together

-- a literal is what an even number of `not`s wants, another thing what an odd one does
holds_by : (b : Bool) (nots : ℕ) → holds nots b ≡ not (eqb (nots % 2) (cond b 1 0))
unfolding holds
holds_by true zero = refl
holds_by false zero = refl
holds_by true (suc zero) = refl
holds_by false (suc zero) = refl
holds_by b (suc (suc n)) = let e : suc (suc n) % 2 ≡ n % 2 = omega arith in rw e (not-not (holds n b) ∙ holds_by b n)

not_either : (p q : Bool) → not (p || q) ≡ (not p && not q)
not_either true q = refl
not_either false q = refl

all_hold_by : (b : Bool) (ns : List ℕ) → all_hold ns b ≡ not (has_remainder (cond b 1 0) ns)
unfolding all_hold
all_hold_by b [] = refl
all_hold_by b (n ∷ ns) = rw (holds_by b n, all_hold_by b ns) (sym (not_either (eqb (n % 2) (cond b 1 0)) (has_remainder (cond b 1 0) ns)))

pick : (p q b : Bool) → ((p || b) && (q || not b)) ≡ cond b q p
pick p q true = rw (or-true p, or-false q)
pick true true false = refl
pick false true false = refl
pick true false false = refl
pick false false false = refl

allows_all : (ns : List ℕ) (b : Bool) → allows (limit_of ns) b ≡ all_hold ns b
allows_all ns true = pick (not (has_remainder 0 ns)) (not (has_remainder 1 ns)) true ∙ sym (all_hold_by true ns)
allows_all ns false = pick (not (has_remainder 0 ns)) (not (has_remainder 1 ns)) false ∙ sym (all_hold_by false ns)

-- ---- the constraints of the placeholder at a place

constraints_none : (vs : List Var) (slot : ℕ) → length vs ≤ slot → constraints_of vs slot ≡ []
unfolding constraints_of
constraints_none [] slot h = refl
constraints_none (v ∷ vs) zero h = absurd (omega arith)
constraints_none (v ∷ vs) (suc slot) h = constraints_none vs slot (omega arith)

constraints_there : (ps : List Placeholder) (slot : ℕ) (p : Placeholder) → slot < length ps → p ≡ get_or ps slot p → constraints_of (vars_at ps) slot ≡ nots_of p.nots
unfolding constraints_of
constraints_there [] slot p h e = absurd (omega arith)
constraints_there (x ∷ ps) zero p h e = rw (← e)
constraints_there (x ∷ ps) (suc slot) p h e = constraints_there ps slot p (omega arith) e

-- ---- the placeholders passed

-- limits of so many placeholders were laid
abbrev pub Laid : List Placeholder → ℕ → List Limit → Type 0
Laid ps n limits = (k : ℕ) (d : Limit) → k < 8 → get_or limits k d ≡ limit_of (cond (ltb k n) (constraints_of (vars_at ps) k) [])

pub laid_none : (ps : List Placeholder) → Laid ps 0 (replicate 8 (record { literal = false; other = false }))
laid_none ps k d h = get_or-replicate {A = Limit} 8 k _ d h ∙ rw (le-ltb k 0 (omega arith))

pub laid_more : (ps : List Placeholder) (n : ℕ) (limits : List Limit) (p : Placeholder) (limit : Limit) → n < length limits → n < length ps → p ≡ get_or ps n p → limit ≡ limit_of (nots_of p.nots)
    → Laid ps n limits → Laid ps (n + 1) (set limits n limit)
laid_more ps n limits p limit long h e m w k d l =
    same_or k n
    (λ s. rw s (get_or-set_same limits n limit d long ∙ rw (lt-ltb n (n + 1) (omega arith), constraints_there ps n p h e, m)))
    (λ q. get_or-set_other limits n k limit d (λ s. q s) ∙ w k d l ∙ rw (same_test k n q))
  where
    same_test : (k n : ℕ) → (k ≡ n → ⊥) → ltb k n ≡ ltb k (n + 1)
    same_test k n q = low_or k n (λ a. rw (lt-ltb k n a, lt-ltb k (n + 1) (omega arith))) (λ a. rw (le-ltb k n a, le-ltb k (n + 1) (omega (arith, other k n q a))))
      where
        other : (k n : ℕ) → (k ≡ n → ⊥) → n ≤ k → n + 1 ≤ k
        other k n q a = low_or n k (λ b. omega arith) (λ b. absurd (q (omega arith)))

-- the limits of all eight places
pub limited : (ps : List Placeholder) (n : ℕ) (limits : List Limit) → length ps ≤ 8 → length limits ≡ 8 → n ≡ length ps → Laid ps n limits → Limited (vars_at ps) limits
unfolding all_hold
limited ps n limits few long e w slot b =
    low_or slot 8
    (λ h. let none : Limit = record { literal = false; other = false } in rw (slice_get-get_or limits slot none (omega arith), w slot none h, all_laid slot) (allows_all (constraints_of (vars_at ps) slot) b))
    (λ h. rw (slice_get_past limits slot (omega arith), constraints_none (vars_at ps) slot (omega (arith, length-map ps var_of))))
  where
    all_laid : (k : ℕ) → cond (ltb k n) (constraints_of (vars_at ps) k) [] ≡ constraints_of (vars_at ps) k
    all_laid k = low_or k n (λ h. rw (lt-ltb k n h)) (λ h. rw (le-ltb k n h, constraints_none (vars_at ps) k (omega (arith, length-map ps var_of, e))))
