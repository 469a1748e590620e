-- The answer and the buffer behind an outcome, and the used part of a buffer: of a job, and of the walk.
-- Assumes nothing.
use Rattle.std.proofs.Common.{◌≡◌, sym, ap, ◌∙◌, List, [], ◌++◌, ℕ, ◌≤◌, length, take, drop, Result, Err}
use Rattle.errors.specs.Refusals.{Outcome, ok, err}
use Rattle.errors.specs.declared.Refusal.{Refusal}
use Rattle.words.specs.Buffer.{used_of, filled}
use Rattle.words.proofs.BufferLaws.{used_all, part_filled}
use Rattle.rendering.specs.Events.{Event}
use Rattle.edits.specs.declared.Edited.{Edited}
use Rattle.edits.specs.Answers.{answer_of, bytes_of}
use Rattle.job_checks.specs.Checks.{Job}
use Rattle.job_answers.specs.Answers.{list_in, answer_after, bytes_after}

module _ (j : Job) (o : Outcome) where
  -- of a buffer that is used whole
  module _ (out : List ℕ) (small : length out ≤ 1048576) (answer : Result Edited Refusal) (after : List ℕ) where
    decided : (o' : Outcome) → o' ≡ o → answer ≡ answer_after o' (list_in j (length out)) → after ≡ filled out (bytes_after o' (list_in j (length out)))
        → (answer ≡ answer_after o (list_in j (length out))) × (after ≡ filled out (bytes_after o (list_in j (used_of (length out)))))
    decided o' e a b = (
      a ∙ ap (λ (x : Outcome). answer_after x (list_in j (length out))) e,
      b ∙ λ i. filled out (bytes_after (e i) (list_in j (sym (used_all (length out) small) i))),
    )

    pub refused : (r : Refusal) → err r ≡ o → answer ≡ Err r → after ≡ filled out []
        → (answer ≡ answer_after o (list_in j (length out))) × (after ≡ filled out (bytes_after o (list_in j (used_of (length out)))))
    refused r = decided (err r)

    -- by the list of a job that has the same
    pub written : (k : Job) → ((room : ℕ) → list_in k room ≡ list_in j room) → ok ≡ o
        → answer ≡ answer_of (list_in k (length out)) → after ≡ filled out (bytes_of (list_in k (length out)))
        → (answer ≡ answer_after o (list_in j (length out))) × (after ≡ filled out (bytes_after o (list_in j (used_of (length out)))))
    written k same e a b =
        let l = same (length out) in
        decided ok e (a ∙ ap answer_of l) (b ∙ ap (λ (x : Result (List ℕ) Event). filled out (bytes_of x)) l)

  -- and of a buffer, by its used part
  pub used_part : (d e : List ℕ) → e ≡ filled (take (used_of (length d)) d) (bytes_after o (list_in j (used_of (length (take (used_of (length d)) d)))))
      → e ++ drop (used_of (length d)) d ≡ filled d (bytes_after o (list_in j (used_of (length d))))
  used_part = part_filled (λ (room : ℕ). bytes_after o (list_in j room))
