-- What resolving found fits a mark, and the marks of a whole tree.
-- Assumes nothing.
use mathlib.Core.Path.{◌≡◌, refl, sym, ap, ◌∙◌}
use mathlib.Core.Bool.{Bool, true, false, cond}
use mathlib.Core.List.{List, [], ◌∷◌}
use Prim.Native.Nat.{ℕ, zero, suc, ◌+◌, ◌*◌, ◌/◌, ◌≤◌, ◌<◌}
use native.Mathlib.Omega.{arith}
use lib.Dec.{ltb}
use lib.ListN.{length, drop, set}
use Rattle.std.specs.Prelude.{Option, Some, None, IfSome, slice_get, option_map, option_and_then}
use Rattle.words.proofs.TestLaws.{low_or}
use Rattle.words.proofs.TextLaws.{part_none}
use Rattle.syntax.specs.Trees.{Elems, size, tree}
use Rattle.syntax.specs.Accessors.{only_ident}
use Rattle.syntax.specs.Checks.{WellFormed}
use Rattle.syntax.proofs.Places.{tree-size, tree-none}
use Rattle.facts.specs.declared.Call.{Call}
use Rattle.facts.specs.declared.Fact.{Fact}
use Rattle.facts.specs.declared.Sort.TheVariants.{RulePath, PatternPath}
use Rattle.facts.specs.Facts.{facts_of, fact_at, fact_index, fact_by}
use Rattle.facts.proofs.FactLaws.{fact_at_place}
use Rattle.rust_code.proofs.StandInLaws.{by_none}
use Rattle.paths.specs.Steps.{Side}
use Rattle.paths.specs.Resolved.{last_note, resolved_paths, calls, path_at, call_by, call_at}
use Rattle.paths.proofs.PastLaws.{no_path, no_call}
use Rattle.matcher.specs.declared.marks.Mark.{Mark}
use Rattle.matcher.specs.Marks.{slot_in, path_in, call_in}
use Rattle.prepared.specs.Placeholders.{placeholder_at}
use Rattle.prepared.specs.Rules.{Says, Marked}

-- ---- a fact's number is one of 28 bits

abbrev Low : Option Fact → Type 0
Low o = IfSome o (λ f. f.first < 4294967295)

low_fact : (l : List ℕ) (i : ℕ) → Low (slice_get (facts_of l) i)
low_fact l i = rw (fact_at_place l i) (by (ltb i (length (facts_of l))))
  where
    by : (b : Bool) → Low (cond b (Some (fact_at (drop (4 * i) l))) None)
    by true = omega arith
    by false = tt

low_first : (o : Option Fact) → Low o → IfSome (option_map (λ f. f.first) o) (λ n. n < 4294967295)
low_first None h = tt
low_first (Some f) h = h

pub path_low : (x : Side) (c : Elems) (e : ℕ) → IfSome (path_at x c e) (λ n. n < 4294967295)
path_low x c e = by (last_note e (resolved_paths x c))
  where
    by : (o : Option ℕ) → IfSome (option_map (λ f. f.first) (option_and_then (slice_get (facts_of x.facts)) o)) (λ n. n < 4294967295)
    by None = tt
    by (Some place) = low_first (slice_get (facts_of x.facts) place) (low_fact x.facts place)

abbrev LowCall : Option Call → Type 0
LowCall o = IfSome o (λ k. (k.function < 4294967295) × IfSome k.qualifier (λ q. q < 4294967295))

low_call : (facts : List ℕ) (path : ℕ) → LowCall (call_by facts path)
low_call facts path =
    by (fact_by RulePath path 0 (facts_of facts)) (low_fact facts (fact_index 1 path 0 (facts_of facts)))
    (low_first (fact_by PatternPath path 0 (facts_of facts)) (low_fact facts (fact_index 4 path 0 (facts_of facts))))
  where
    by : (o : Option Fact) → Low o → IfSome (option_map (λ t. t.first) (fact_by PatternPath path 0 (facts_of facts))) (λ q. q < 4294967295)
        → LowCall (option_map (λ f. record { function = f.first; qualifier = option_map (λ t. t.first) (fact_by PatternPath path 0 (facts_of facts)) }) o)
    by None h q = tt
    by (Some f) h q = (h, q)

pub call_low : (x : Side) (c : Elems) (e : ℕ) → LowCall (call_at x c e)
call_low x c e = by (last_note e (calls x c))
  where
    by : (o : Option ℕ) → LowCall (option_and_then (call_by x.facts) o)
    by None = tt
    by (Some path) = low_call x.facts path

-- ---- the marks of a tree

none_past : (marks : List Mark) (e : ℕ) → slice_get marks e ≡ None → length marks ≤ e
none_past [] e h = omega arith
none_past (m ∷ ms) zero h = absurd (cc)
none_past (m ∷ ms) (suc e) h = omega (arith, none_past ms e h)

module _ (x : Side) (l : List ℕ) (marks : List Mark) (w : WellFormed l) (long : length marks ≡ length l / 3) where
  no_placeholder : (e : ℕ) → length l / 3 ≤ e → placeholder_at x (tree l) e ≡ None
  unfolding only_ident
  no_placeholder e h =
      let far : size (tree l) ≤ e = omega (arith, tree-size l w) in
      rw (tree-none l e w far, part_none x.code 0, by_none x.placeholders.text x.placeholders.vars [] refl)

  pub marked : ((e : ℕ) (m : Mark) → slice_get marks e ≡ Some m → Says x (tree l) e m) → Marked x (tree l) marks
  marked says = record {
    slots = λ e. slot e (slice_get marks e) refl;
    paths = λ e. path e (slice_get marks e) refl;
    calls = λ e. call e (slice_get marks e) refl;
  }
    where
      slot : (e : ℕ) (o : Option Mark) → slice_get marks e ≡ o → option_and_then slot_in (slice_get marks e) ≡ placeholder_at x (tree l) e
      slot e None h = rw (h, no_placeholder e (omega (arith, long, none_past marks e h)))
      slot e (Some m) h = rw h (says e m h).slot

      path : (e : ℕ) (o : Option Mark) → slice_get marks e ≡ o → option_and_then path_in (slice_get marks e) ≡ path_at x (tree l) e
      path e None h = rw (h, no_path x l e w (omega (arith, long, none_past marks e h)))
      path e (Some m) h = rw h (says e m h).path

      call : (e : ℕ) (o : Option Mark) → slice_get marks e ≡ o → option_and_then call_in (slice_get marks e) ≡ call_at x (tree l) e
      call e None h = rw (h, no_call x l e w (omega (arith, long, none_past marks e h)))
      call e (Some m) h = rw h (says e m h).call

-- one more mark
slice_get-set_other : (marks : List Mark) (i k : ℕ) (m : Mark) → (i ≡ k → ⊥) → slice_get (set marks i m) k ≡ slice_get marks k
slice_get-set_other [] i k m h = refl
slice_get-set_other (y ∷ ys) zero zero m h = absurd (h refl)
slice_get-set_other (y ∷ ys) zero (suc k) m h = refl
slice_get-set_other (y ∷ ys) (suc i) zero m h = refl
slice_get-set_other (y ∷ ys) (suc i) (suc k) m h = slice_get-set_other ys i k m (λ q. h (ap suc q))

slice_get-set_same : (marks : List Mark) (i : ℕ) (m : Mark) → i < length marks → slice_get (set marks i m) i ≡ Some m
slice_get-set_same [] i m h = absurd (omega arith)
slice_get-set_same (y ∷ ys) zero m h = refl
slice_get-set_same (y ∷ ys) (suc i) m h = slice_get-set_same ys i m (omega arith)

pub says_more : (x : Side) (root : Elems) (marks : List Mark) (i : ℕ) (m : Mark) → i < length marks → Says x root i m
    → ((k : ℕ) (n : Mark) → k < i → slice_get marks k ≡ Some n → Says x root k n) → (k : ℕ) (n : Mark) → k < i + 1 → slice_get (set marks i m) k ≡ Some n → Says x root k n
says_more x root marks i m inside here before k n h e =
    low_or k i
    (λ l. before k n l (sym (slice_get-set_other marks i k m (λ q. omega arith)) ∙ e))
    (λ l.
    let q : k ≡ i = omega arith in
    let f = sym (slice_get-set_same marks i m inside) ∙ (rw q at e) in
    let g : m ≡ n = cc in
    rw (q, ← g) here)
