-- What a checked job hands to rendering is what its rows show, and the list of their edits is the job's.
-- Assumes nothing.
use Prim.Native.Nat.{ℕ, ◌≤◌}
use mathlib.Core.Path.{◌≡◌, sym, ap, subst, ◌∙◌}
use mathlib.Core.List.{List}
use native.Mathlib.Omega.{arith}
use lib.ListN.{length}
use Rattle.std.proofs.Common.{Result}
use Rattle.errors.specs.declared.Refusal.{Refusal}
use Rattle.words.specs.Buffer.{filled}
use Rattle.trees.specs.declared.File.{File}
use Rattle.parses.specs.Parses.{Parse}
use Rattle.checks.specs.declared.Rules.{Rules}
use Rattle.checks.specs.Given.{file_in}
use Rattle.nester.specs.declared.Row.{Row}
use Rattle.rendering.specs.Events.{Event}
use Rattle.edits.specs.declared.Edited.{Edited}
use Rattle.edits.specs.Answers.{answer_of, bytes_of}
use Rattle.rows.specs.Rows.{World}
use Rattle.render_replace.specs.Worlds.{Handed, handed_of, Shown}
use Rattle.job_list.specs.Lists.{edits_within}
use Rattle.job_checks.specs.Checks.{Job}
use Rattle.job_checks.specs.Checked.{Checked}
use Rattle.job_answers.specs.Answers.{list_in}
use Rattle.job_list.specs.Rows.{world_in, handed_in, RowsOf}
use Rattle.job_list.proofs.KeyLaws.{keys_length}

module _ (j : Job) (q : Rules) (file : File) (parses : List Parse) (keys : List ℕ) (checked : Checked j q file parses keys) where
  pub few_keys : length keys ≤ 1024
  few_keys = omega (arith, checked.few_candidates, keys_length j q file parses keys checked)

  module _ (rows : List Row) (are : RowsOf j rows) where
    handed_are : handed_in j rows ≡ handed_of q (file_in file) j.range j.fact_text parses rows
    handed_are = λ d. handed_of (sym checked.rules_are d) (sym checked.file_is d) j.range j.fact_text (sym checked.parses_are d) rows

    pub is_shown : Shown (world_in j rows) (handed_of q (file_in file) j.range j.fact_text parses rows)
    is_shown = subst (Shown (world_in j rows)) handed_are are.shown

    list_is : (out : List ℕ) → edits_within (file_in file).words (world_in j rows) out ≡ list_in j (length out)
    list_is out = ap (λ (h : Handed). edits_within h.file.words (world_in j rows) out) (sym handed_are) ∙ sym (are.list (length out))

    pub lists : (out out' : List ℕ) (result : Result Edited Refusal)
        → ((W : World) → Shown W (handed_of q (file_in file) j.range j.fact_text parses rows)
        → (result ≡ answer_of (edits_within (file_in file).words W out)) × (out' ≡ filled out (bytes_of (edits_within (file_in file).words W out))))
        → (result ≡ answer_of (list_in j (length out))) × (out' ≡ filled out (bytes_of (list_in j (length out))))
    lists out out' result e =
        let a = e (world_in j rows) is_shown in
        (a.0 ∙ ap answer_of (list_is out), a.1 ∙ ap (λ (l : Result (List ℕ) Event). filled out (bytes_of l)) (list_is out))
