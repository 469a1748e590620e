-- The table: one note written into a column, what a column says after notes, and the facts that a tree's table rests on.
-- Assumes nothing.
use mathlib.Core.Path.{◌≡◌, refl, sym, ◌∙◌}
use mathlib.Core.Bool.{Bool, true, false, cond, not, ◌&&◌}
use mathlib.Core.List.{List, [], ◌∷◌}
use Prim.Native.Nat.{ℕ, zero, suc, ◌/◌, ◌≤◌, ◌<◌}
use native.Mathlib.Omega.{arith}
use lib.Dec.{eqb, leb}
use lib.ListN.{length, set, get_or, replicate, length-set, length-replicate, get_or-replicate, get_or-eq_default}
use lib.Seq.{get_or-set_same, get_or-set_other}
use borrow.Author.Tests.{eq-eqb, ne_eqb, leb-true}
use Rattle.std.specs.Prelude.{Option, Some, None, Ok, Err, IfOk}
use Rattle.std.specs.Option.{option_or}
use Rattle.std.proofs.Math.Seq.{map-set_same}
use Rattle.std.proofs.lemmas.List.{map-set}
use Rattle.words.proofs.TestLaws.{same_or, low_or, and_both, and_of}
use Rattle.errors.specs.Refusals.{Outcome}
use Rattle.syntax.specs.Trees.{Elems, none, tree}
use Rattle.syntax.specs.Checks.{WellFormed}
use Rattle.facts.specs.declared.Owner.{Owner}
use Rattle.facts.specs.Facts.{facts_of, are_fact_words, are_facts, has_repeated, has_gap, is_fact_list}
use Rattle.facts.specs.Keys.{AreLow}
use Rattle.facts.proofs.FactLaws.{all_facts, length_facts}
use Rattle.facts.proofs.ListLaws.{list_low}
use Rattle.paths.specs.Steps.{Side}
use Rattle.paths.specs.Resolved.{is_unresolved, Note, last_note, resolved_paths, calls}
use Rattle.paths.specs.Tables.{paths_of, calls_of, noted, AtSiblings, HasFacts, path_in, call_in, NotesOf}
use Rattle.paths.specs.declared.resolving.Noted.{Noted}
use Rattle.paths.proofs.WalkLaws.{was_good}
use Rattle.paths.proofs.PastLaws.{no_path, no_call}

-- ---- one note written

module _ (notes : List Noted) (i : ℕ) (new old : Noted) where
  pub path_set : paths_of (set notes i new) ≡ set (paths_of notes) i new.path
  path_set = map-set (λ (n : Noted). n.path) notes i new

  pub call_set : calls_of (set notes i new) ≡ set (calls_of notes) i new.call
  call_set = map-set (λ (n : Noted). n.call) notes i new

  pub path_kept : new.path ≡ (get_or notes i old).path → paths_of (set notes i new) ≡ paths_of notes
  path_kept h = map-set_same (λ (n : Noted). n.path) notes i new old h

  pub call_kept : new.call ≡ (get_or notes i old).call → calls_of (set notes i new) ≡ calls_of notes
  call_kept h = map-set_same (λ (n : Noted). n.call) notes i new old h

-- ---- notes in a column

abbrev Column : Type 0
Column = List (Option ℕ)

or_none : (a : Option ℕ) → option_or a None ≡ a
or_none None = refl
or_none (Some x) = refl

or_in : (a : Option ℕ) (v : ℕ) (g : Option ℕ) (q : Bool) → option_or a (cond q (Some v) g) ≡ option_or (option_or a (cond q (Some v) None)) g
or_in None v g true = refl
or_in None v g false = refl
or_in (Some x) v g q = refl

set_at : (t : Column) (i e : ℕ) (v : Option ℕ) → e < length t → get_or (set t i v) e None ≡ cond (eqb i e) v (get_or t e None)
set_at t i e v h =
    same_or i e (λ s. rw (eq-eqb i e s, s) (get_or-set_same t e v None h)) (λ d. rw (ne_eqb i e d) (get_or-set_other t i e v None (λ s. d (sym s))))

-- a column after notes: the last one, or what stood there
noted-at : (ns : List Note) (t : Column) (e : ℕ) → e < length t → get_or (noted ns t) e None ≡ option_or (last_note e ns) (get_or t e None)
unfolding noted last_note
noted-at [] t e h = refl
noted-at (n ∷ ns) t e h =
    let k : e < length (set t n.element (Some n.value)) = simp length-set h in
    noted-at ns (set t n.element (Some n.value)) e k
    ∙ rw (set_at t n.element e (Some n.value) h) (or_in (last_note e ns) n.value (get_or t e None) (eqb n.element e))

noted-length : (ns : List Note) (t : Column) → length (noted ns t) ≡ length t
unfolding noted
noted-length [] t = refl
noted-length (n ∷ ns) t = noted-length ns (set t n.element (Some n.value)) ∙ length-set t n.element (Some n.value)

-- a column that was clear, of a tree that has no element past its end
noted_clear : (ns : List Note) (n : ℕ) → ((e : ℕ) → n ≤ e → last_note e ns ≡ None) → (e : ℕ) → get_or (noted ns (replicate n None)) e None ≡ last_note e ns
noted_clear ns n past e = low_or e n
    (λ h. noted-at ns (replicate n None) e (rw length-replicate h) ∙ rw (get_or-replicate {A = Option ℕ} n e None None h) (or_none (last_note e ns)))
    (λ h. get_or-eq_default (noted ns (replicate n None)) None {n = e} (omega (arith, noted-length ns (replicate n None), length-replicate {A = Option ℕ} n None)) ∙ sym (past e h))

-- what the table says is in its columns
path_column : (notes : List Noted) (e : ℕ) → path_in notes e ≡ get_or (paths_of notes) e None
path_column [] e = refl
path_column (n ∷ ns) zero = refl
path_column (n ∷ ns) (suc e) = path_column ns e

call_column : (notes : List Noted) (e : ℕ) → call_in notes e ≡ get_or (calls_of notes) e None
call_column [] e = refl
call_column (n ∷ ns) zero = refl
call_column (n ∷ ns) (suc e) = call_column ns e

clear_paths : (n : ℕ) (nothing : Noted) → nothing.path ≡ None → paths_of (replicate n nothing) ≡ replicate n None
clear_paths zero nothing h = refl
clear_paths (suc n) nothing h = let e = clear_paths n nothing h in cc

clear_calls : (n : ℕ) (nothing : Noted) → nothing.call ≡ None → calls_of (replicate n nothing) ≡ replicate n None
clear_calls zero nothing h = refl
clear_calls (suc n) nothing h = let e = clear_calls n nothing h in cc

-- the table of a whole tree
module _ (x : Side) (l : List ℕ) (w : WellFormed l) (nothing : Noted) (a : nothing.path ≡ None) (b : nothing.call ≡ None) (n : ℕ) (e : n ≡ length l / 3) (after : List Noted) where
  pub notes_of : (r : Outcome) → AtSiblings x (tree l) None None r (replicate n nothing) after → IfOk r (λ _. NotesOf x (tree l) after)
  notes_of (Err q) at = tt
  notes_of (Ok u) at =
      let good = was_good (is_unresolved x (tree l)) at.answer in
      record {
        path_notes = λ i. path_column after i ∙ rw (at.noting good, clear_paths n nothing a) (noted_clear (resolved_paths x (tree l)) n (λ j h. no_path x l j w (omega arith)) i);
        call_notes = λ i. call_column after i ∙ rw (at.claiming good none none refl refl, clear_calls n nothing b) (noted_clear (calls x (tree l)) n (λ j h. no_call x l j w (omega arith)) i);
      }

-- ---- the facts of a tree

facts_good : (owner : Owner) (c : Elems) (n : ℕ) (l : List ℕ) → is_fact_list owner c n l ≡ true → (length l / 4 ≤ 16383) × (all_facts owner c n l ≡ true)
unfolding is_fact_list
facts_good owner c n l t =
    let a = are_fact_words l in
    let b = leb (length (facts_of l)) 16383 in
    let f = are_facts owner c n (facts_of l) in
    let p = (and_both (a && b && f) (not (has_repeated (facts_of l))) (and_both (a && b && f && not (has_repeated (facts_of l))) (not (has_gap (facts_of l) (facts_of l))) t).0).0 in
    let q = and_both (a && b) f p in
    let s = and_both a b q.0 in
    (omega (arith, length_facts l, leb-true (length (facts_of l)) 16383 s.1), and_of {a = a} {b = f} s.0 q.1)

module _ (words l : List ℕ) (formed : WellFormed words) (has : HasFacts words l) where
  pub has_few : length l / 4 ≤ 16383
  has_few = (facts_good has.owner (tree words) has.bytes l has.good).0

  pub has_low : AreLow (facts_of l)
  has_low = list_low has.owner words has.bytes l formed (facts_good has.owner (tree words) has.bytes l has.good).1
