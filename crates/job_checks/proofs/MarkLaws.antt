-- Marks of parses: equal kinds and texts have one mark, so a parse whose mark is counted once is not repeated.
-- Assumes nothing.
use Rattle.std.proofs.Common.{◌≡◌, refl, sym, ap, ap₂, ℕ, zero, suc, ◌+◌, ◌*◌, ◌%◌, ◌<◌, ◌≤◌, add-one, arith, Bool, true, false, cond, List, [], ◌∷◌, length, get_or, set, drop, replicate, eqb, ltb, is_some, get_or-set_same, get_or-set_other, drop-cons}
use mathlib.Core.Bool.{true≢false}
use lib.ListN.{drop_of_length-le, length-set}
use borrow.Author.Tests.{eqb-true, eqb-false, eq-eqb, ltb-true, ltb-false}
use Rattle.words.specs.Texts.{same_text}
use Rattle.words.proofs.TextLaws.{same_equal}
use Rattle.words.proofs.TestLaws.{and_both}
use Rattle.std.proofs.Common.{Option, None, Some, IfSome, Bor}
use Rattle.parses.specs.Parses.{Parse, is_of, lookup}
use Rattle.job_checks.specs.Marks.{mark_from, mark_of, marked, counted_at, Counted}

-- ---- the mark of a text, byte by byte

pub mark_step : (n m : ℕ) (t : List ℕ) (i : ℕ) → i < length t → mark_from n m (drop i t) ≡ mark_from n ((m * 40503 + get_or t i 0) % n) (drop (i + 1) t)
unfolding mark_from
mark_step n m t i h = rw (drop-cons t i 0 h, add-one)

pub mark_end : (n m : ℕ) (t : List ℕ) (i : ℕ) → length t ≤ i → mark_from n m (drop i t) ≡ m
unfolding mark_from
mark_end n m t i h = rw (drop_of_length-le t h)

-- ---- which parses have a mark

one_more : (b : Bool) (n : ℕ) → cond b (suc n) n ≡ 0 → (b ≡ false) × (n ≡ 0)
one_more true n h = absurd (omega arith)
one_more false n h = (refl, h)

fewer : (b : Bool) (n : ℕ) → cond b (suc n) n < 2 → n < 2
fewer true n h = omega arith
fewer false n h = h

alone : (b : Bool) (n : ℕ) → b ≡ true → cond b (suc n) n < 2 → n ≡ 0
alone true n e h = omega arith
alone false n e h = absurd (true≢false (sym e))

module _ (marks : ℕ) where
  -- a parse of a kind and a text has their mark
  other_mark : (kind : ℕ) (t : List ℕ) (p : Parse) → eqb (mark_of marks p.kind p.text) (mark_of marks kind t) ≡ false → is_of kind t p ≡ false
  other_mark kind t p h = by (is_of kind t p) refl
    where
      by : (b : Bool) → is_of kind t p ≡ b → is_of kind t p ≡ false
      by false e = e
      by true e =
          let both = and_both (eqb p.kind kind) (same_text p.text t) e in
          absurd (eqb-false _ _ h (ap₂ (mark_of marks) (eqb-true p.kind kind both.0) (same_equal p.text t both.1)))

  -- there is none where no parse has it
  unmarked : (kind : ℕ) (t : List ℕ) (ps : List Parse) → marked marks (mark_of marks kind t) ps ≡ 0 → lookup ps kind t ≡ None
  unfolding marked
  unmarked kind t [] h = refl
  unmarked kind t (p ∷ ps) h =
      let apart = one_more (eqb (mark_of marks p.kind p.text) (mark_of marks kind t)) (marked marks (mark_of marks kind t) ps) h in
      rw (other_mark kind t p apart.0) (unmarked kind t ps apart.1)

  -- what is counted of a list is counted of what is behind its first parse
  pub counted_behind : (counts : List ℕ) (p : Parse) (ps : List Parse) → Counted marks counts (p ∷ ps) → Counted marks counts ps
  unfolding marked
  counted_behind counts p ps c m k = fewer (eqb (mark_of marks p.kind p.text) m) (marked marks m ps) (c m k)

  -- the first parse alone has its mark, so no later one has its kind and text
  pub not_again : (counts : List ℕ) (p : Parse) (ps : List Parse) → Counted marks counts (p ∷ ps) → get_or counts (mark_of marks p.kind p.text) 0 < 2 → is_some (lookup ps p.kind p.text) ≡ false
  unfolding marked
  not_again counts p ps c k =
      let m = mark_of marks p.kind p.text in
      ap is_some (unmarked p.kind p.text ps (alone (eqb m m) (marked marks m ps) (eq-eqb m m refl) (c m k)))

-- ---- counting

-- the counts so far: a mark that is not counted twice is counted exactly
abbrev pub CountedSoFar : ℕ → List ℕ → List Parse → List Parse → Type 0
CountedSoFar marks counts all rest = (m : ℕ) → get_or counts m 0 < 2 → marked marks m all ≡ get_or counts m 0 + marked marks m rest

-- so it is after one more parse
module _ (counts : List ℕ) (at all rest m : ℕ) (inside : at < length counts) where
  counted_by : (few same : Bool) → ltb (get_or counts at 0) 2 ≡ few → eqb at m ≡ same → (get_or counts m 0 < 2 → all ≡ get_or counts m 0 + cond same (suc rest) rest)
      → get_or (cond few (set counts at (get_or counts at 0 + 1)) counts) m 0 < 2 → all ≡ get_or (cond few (set counts at (get_or counts at 0 + 1)) counts) m 0 + rest
  counted_by true true f e h k =
      let q : m ≡ at = sym (eqb-true at m e) in
      let g = get_or-set_same counts at (get_or counts at 0 + 1) 0 inside in
      rw q (omega (arith, rw q at h, ltb-true (get_or counts at 0) 2 f, g))
  counted_by true false f e h k =
      let g = get_or-set_other counts at m (get_or counts at 0 + 1) 0 (λ q. eqb-false at m e (sym q)) in
      omega (arith, h, k, g)
  counted_by false true f e h k = grind (arith, eqb-true at m e, ltb-false (get_or counts at 0) 2 f)
  counted_by false false f e h k = h k

module _ (marks : ℕ) where
  pub counted_next : (counts : List ℕ) (all : List Parse) (p : Parse) (rest : List Parse) → mark_of marks p.kind p.text < length counts → CountedSoFar marks counts all (p ∷ rest)
      → CountedSoFar marks (counted_at counts (mark_of marks p.kind p.text)) all rest
  unfolding marked
  counted_next counts all p rest inside c m =
      let at = mark_of marks p.kind p.text in
      counted_by counts at (marked marks m all) (marked marks m rest) m inside (ltb (get_or counts at 0) 2) (eqb at m) refl refl (c m)

  pub counted_all : (counts : List ℕ) (all : List Parse) → CountedSoFar marks counts all [] → Counted marks counts all
  unfolding marked
  counted_all counts all c m k = omega (arith, c m k)

  -- where marks are counted
  pub counted_later : (counts : Option (Bor (List ℕ))) (p : Parse) (ps : List Parse) → IfSome counts (λ c. Counted marks c.now (p ∷ ps)) → IfSome counts (λ c. Counted marks c.now ps)
  counted_later None p ps h = tt
  counted_later (Some c) p ps h = counted_behind marks c.now p ps h

pub length_counted : (counts : List ℕ) (at : ℕ) → length (counted_at counts at) ≡ length counts
length_counted counts at = by (ltb (get_or counts at 0) 2)
  where
    by : (b : Bool) → length (cond b (set counts at (get_or counts at 0 + 1)) counts) ≡ length counts
    by true = length-set counts at (get_or counts at 0 + 1)
    by false = refl

pub none_counted : (n m : ℕ) → ◌≡◌ {A = ℕ} (get_or (replicate n 0) m 0) 0
none_counted zero m = refl
none_counted (suc n) zero = refl
none_counted (suc n) (suc m) = none_counted n m
