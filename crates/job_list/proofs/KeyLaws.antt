-- The keys of a job that passed its checks: there is one for each candidate, they name nodes and rules, and they rise.
-- Assumes nothing.
use mathlib.Core.Path.{◌≡◌, sym, ap, ◌∙◌}
use mathlib.Core.Bool.{false}
use mathlib.Core.List.{List, [], ◌∷◌}
use Prim.Native.Nat.{ℕ, zero, suc, ◌<◌}
use native.Mathlib.Omega.{arith}
use lib.Dec.{eqb}
use lib.ListN.{length, get_or}
use borrow.Author.Tests.{eqb-false}
use Rattle.words.proofs.TestLaws.{or_neither}
use Rattle.sorting.specs.Sorted.{sort, Rising}
use Rattle.sorting.proofs.Laws.{from_at, sort_rising}
use Rattle.candidates.specs.Candidates.{candidate_count, keys_of, is_first, has_equal_neighbours}
use Rattle.candidates.proofs.CandidateLaws.{named_low}
use Rattle.candidates.proofs.KeyLaws.{twice_neighbours}
use Rattle.job_list.specs.Gathered.{AreNodes, AreBelow}
use Rattle.job_list.proofs.MatchLaws.{keys_named}
use Rattle.trees.specs.declared.File.{File}
use Rattle.parses.specs.Parses.{Parse}
use Rattle.checks.specs.declared.Rules.{Rules}
use Rattle.job_checks.specs.Checks.{Job, candidates_in, rule_count}
use Rattle.job_checks.specs.Checked.{Checked}
use Rattle.job_checks.proofs.JobLaws.{length_sorted, checked_formed}

-- numbers that rise and of which no neighbours are equal are apart
apart : (l : List ℕ) → Rising l → has_equal_neighbours l ≡ false → (a b : ℕ) → a < b → b < length l → get_or l a 0 < get_or l b 0
unfolding has_equal_neighbours
apart [] r h a b p q = absurd (omega arith)
apart (k ∷ []) r h a b p q = absurd (omega arith)
apart (k ∷ (m ∷ l)) r h a zero p q = absurd (omega arith)
apart (k ∷ (m ∷ l)) r h zero (suc b) p q =
    let d = (or_neither (eqb k m) (has_equal_neighbours (m ∷ l)) h).0 in
    omega (arith, r.0.0, eqb-false k m d, from_at m (m ∷ l) b (omega arith, r.1.0) (omega arith))
apart (k ∷ (m ∷ l)) r h (suc a) (suc b) p q =
    apart (m ∷ l) r.1 (or_neither (is_first k (m ∷ l)) (has_equal_neighbours (m ∷ l)) h).1 a b (omega arith) (omega arith)

module _ (j : Job) (q : Rules) (file : File) (parses : List Parse) (keys : List ℕ) (checked : Checked j q file parses keys) where
  pub keys_length : length keys ≡ candidate_count j.candidates
  keys_length = ap length checked.sorted ∙ length_sorted j.candidates

  pub keys_name : AreNodes j.file keys × AreBelow (rule_count j) keys
  keys_name = rw checked.sorted (keys_named j.file (rule_count j) (candidates_in j) checked.few_rules checked.named)

  pub keys_apart : (a b : ℕ) → a < b → b < length keys → get_or keys a 0 < get_or keys b 0
  keys_apart a b p l =
      let low = named_low j.file.words (rule_count j) (candidates_in j) (checked_formed j q file parses keys checked) checked.named in
      let once = sym (twice_neighbours (rule_count j) checked.few_rules _ (candidates_in j) low) ∙ checked.once in
      rw checked.sorted (apart (sort (keys_of (candidates_in j))) (sort_rising _) once a b p (omega (arith, ap length checked.sorted)))
