-- Demand 3, "Whatever order a job's candidates are handed in": the same candidates in another order get the same answer and the same buffer.
-- Assumes nothing.
use mathlib.Core.Path.{◌≡◌, sym, ap, subst, ◌∙◌, fun_ext}
use Prim.Native.Nat.{ℕ}
use mathlib.Core.List.{List}
use lib.ListN.{length}
use Rattle.words.specs.Buffer.{used_of, filled}
use Rattle.candidates.specs.Candidates.{candidates_of, candidate_count, Pairs, Perm}
use Rattle.candidates.proofs.Order.{perm_length, perm_has, perm_bad, perm_twice}
use Rattle.candidates.proofs.CandidateLaws.{length_candidates}
use Rattle.nester.specs.Matches.{matches}
use Rattle.nester.specs.Nest.{none, nest}
use Rattle.nester.specs.Places.{items}
use Rattle.std.proofs.Common.{Ok}
use Rattle.rendering.specs.Events.{after}
use Rattle.rendering.specs.Texts.{rendered}
use Rattle.edits.specs.Edits.{encode, write}
use Rattle.job_checks.specs.Checks.{Job, tree_in, candidates_in, rule_count, job_outcome}
use Rattle.job_answers.specs.Collected.{attempt_in, start_in, end_in, setting_of}
use Rattle.job_answers.specs.Answers.{list_in, answer_after, bytes_after, job_answer, buffer_after}
use Rattle.job_answers.specs.Demand3.{Alike}

-- the job with other candidates
abbrev with : Job → List ℕ → Job
with j cs = record {
  pairs = j.pairs;
  fact_text = j.fact_text;
  file = j.file;
  parses = j.parses;
  parse_text = j.parse_text;
  candidates = cs;
  range = j.range;
}

module _ (j : Job) (cs : List ℕ) (p : Perm (candidates_in j) (candidates_of cs)) where
  count_same : candidate_count j.candidates ≡ candidate_count cs
  count_same = sym (length_candidates j.candidates) ∙ perm_length p ∙ length_candidates cs

  outcome-same : job_outcome j ≡ job_outcome (with j cs)
  outcome-same = rw (count_same, perm_bad (tree_in j) (rule_count j) p, perm_twice p)

  list_same : (room : ℕ) → list_in j room ≡ list_in (with j cs) room
  list_same room =
      ap
      (λ (s : Pairs).
      after (write (start_in j) (end_in j) room
      (items (tree_in j) (rendered (setting_of j)) (nest (tree_in j) (matches (tree_in j) (rule_count j) (attempt_in j) s) none))) λ es. Ok (encode es))
      (fun_ext λ n. fun_ext λ r. perm_has p n r)

alike_is : (j k : Job) → Alike j k → with j k.candidates ≡ k
alike_is j k a = λ i. record {
  pairs = a.pairs i;
  fact_text = a.fact_text i;
  file = a.file i;
  parses = a.parses i;
  parse_text = a.parse_text i;
  candidates = k.candidates;
  range = a.range i;
}

-- ANY ORDER
pub any_order : (j k : Job) → Alike j k → (out : List ℕ)
    → (job_answer j (used_of (length out)) ≡ job_answer k (used_of (length out))) × (buffer_after j out ≡ buffer_after k out)
any_order j k a out =
    let room = used_of (length out) in
    let o = outcome-same j k.candidates a.candidates in
    let l = list_same j k.candidates a.candidates room in
    subst (λ (x : Job). (job_answer j room ≡ job_answer x room) × (buffer_after j out ≡ buffer_after x out)) (alike_is j k a)
    (λ i. answer_after (o i) (l i), λ i. filled out (bytes_after (o i) (l i)))
