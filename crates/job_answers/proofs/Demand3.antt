-- DEMAND 3: a job's answer does not depend on the order of its candidates; where it is an edit list, that is the list of its kept outer
-- matches; and its collections are as the matches meet.
-- Assumes nothing.
use mathlib.Core.Path.{◌≡◌, refl}
use mathlib.Core.List.{List}
use Prim.Native.Nat.{ℕ, ◌≤◌}
use native.Mathlib.Omega.{arith}
use lib.ListN.{length}
use Rattle.std.proofs.Common.{Result, Ok, Err}
use Rattle.errors.specs.Refusals.{Outcome, ok}
use Rattle.words.specs.Buffer.{used_of}
use Rattle.words.proofs.BufferLaws.{used_small}
use Rattle.candidates.specs.Candidates.{has}
use Rattle.nester.specs.Collections.{Collections}
use Rattle.nester.proofs.Kept.{collections, kept_is}
use Rattle.nester.proofs.Placing.{items_row}
use Rattle.rendering.specs.Events.{Event, Unbound, NoRoom, Asked, after}
use Rattle.rendering.specs.Texts.{rendered}
use Rattle.edits.specs.declared.Edited.TheVariants.{Edits}
use Rattle.edits.specs.Edits.{Edit, encode}
use Rattle.edits.proofs.MadeLaws.{written, edits_rise, all_made_is, file_was}
use Rattle.edits.proofs.LoadedLaws.{rise_small, read_back}
use Rattle.job_checks.specs.Checks.{Job, tree_in, candidates_in, rule_count, job_outcome}
use Rattle.job_answers.specs.Collected.{attempt_in, collection_in, start_in, end_in, setting_of}
use Rattle.job_answers.specs.Answers.{items_in, edits_in, answer_after, bytes_after, job_answer}
use Rattle.job_answers.specs.Demand3.{EditList, Demand3}
use Rattle.job_answers.proofs.Order.{any_order}
use Rattle.job_answers.proofs.Files.{file-keeps}
use Rattle.job_answers.proofs.Lists.{items-follow, list_fits}

module _ (j : Job) where
  kept_so : job_outcome j ≡ ok → Collections (tree_in j) (rule_count j) (attempt_in j) (has (candidates_in j))
  kept_so h = collections (tree_in j) (rule_count j) (attempt_in j) (has (candidates_in j)) (file-keeps j h).1

  -- the edits of an accepted job
  listed_so : (room n : ℕ) → room ≤ 1048576 → (es : List Edit) → job_outcome j ≡ ok → edits_in j room ≡ Ok es → length (encode es) ≡ n
      → EditList j room n
  listed_so room n small es p q size =
      let f = file-keeps j p in
      let w = written (start_in j) (end_in j) (items_in j) room es q in
      let known = kept_is (tree_in j) (rule_count j) (attempt_in j) (has (candidates_in j)) in
      let r = edits_rise (start_in j) (end_in j) 0 (length j.file.text) w
      (items-follow (tree_in j) f.1 (rendered (setting_of j)) (collection_in j) (kept_so p).apart (λ x i. (known x i).node)) in
      let short = list_fits (start_in j) (end_in j) (setting_of j) (tree_in j) (collection_in j) room es q in
      record {
        edits = es;
        bytes = λ i. bytes_after (p i) (after (q i) λ es. Ok (encode es));
        size = size;
        read = read_back es (length es) (omega arith) (rise_small es 0 (length j.file.text) r (omega arith) (omega arith));
        each = items_row (tree_in j) (rendered (setting_of j)) (collection_in j);
        written = w;
        rise = r;
        made = all_made_is es j.file.text r;
        was = file_was es j.file.text r;
      }

  edit_list : (room n : ℕ) → room ≤ 1048576 → job_answer j room ≡ Ok (Edits n) → EditList j room n
  edit_list room n small h = by (job_outcome j) refl (edits_in j room) refl h
    where
      by : (o : Outcome) → job_outcome j ≡ o → (w : Result (List Edit) Event) → edits_in j room ≡ w
          → answer_after o (after w λ es. Ok (encode es)) ≡ Ok (Edits n) → EditList j room n
      by (Err r) p w q e = absurd cc
      by (Ok tt) p (Err Unbound) q e = absurd cc
      by (Ok tt) p (Err NoRoom) q e = absurd cc
      by (Ok tt) p (Err (Asked kind text)) q e = absurd cc
      by (Ok tt) p (Ok es) q e = listed_so room n small es p q (cc)

-- THE THEOREM
pub demand3 : (j : Job) → Demand3 j
demand3 j = record {
  any_order = any_order j;
  where_edits = λ out n. edit_list j (used_of (length out)) n (used_small (length out));
  matched = refl;
  collections = kept_so j;
}
