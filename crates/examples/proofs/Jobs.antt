-- A job in stages: where nothing is refused, its list is a trace in the buffer's room, and that trace computes, over trees that are decoded once.
-- Assumes nothing.
use Prim.Native.Nat.{ℕ}
use mathlib.Core.Path.{◌≡◌, refl, ap, ap₂, ◌∙◌, fun_ext}
use mathlib.Core.List.{List, [], map}
use lib.ListN.{length}
use Rattle.std.specs.Prelude.{Option, Some, None, Result, Ok}
use Rattle.errors.specs.Refusals.{ok}
use Rattle.words.specs.Buffer.{used_of, filled}
use Rattle.syntax.specs.Trees.{Elems}
use Rattle.syntax.specs.Siblings.{kind_of}
use Rattle.fragments.specs.declared.forms.Form.TheVariants.{Expression}
use Rattle.paths.specs.Steps.{SideTree}
use Rattle.rules.specs.declared.forms.TemplateTree.TheVariants.{Own}
use Rattle.rules.specs.declared.numbering.Rule.{Rule}
use Rattle.rules.specs.Numbering.{rules, rule_at}
use Rattle.captures.specs.Attempts.{Attempt}
use Rattle.matcher.specs.FileFacts.{module_of}
use Rattle.parses.specs.Parses.{parses_of}
use Rattle.candidates.specs.Candidates.{has}
use Rattle.nester.specs.Matches.{Match, matches}
use Rattle.nester.specs.Nest.{Nest, none, nest, start_at, end_at}
use Rattle.nester.specs.Places.{items}
use Rattle.templates.specs.Pieces.{pieces}
use Rattle.readying.specs.Templates.{fragment_of, found_template, tree_fragments, tree_kind}
use Rattle.rendering.specs.Events.{Event, after}
use Rattle.rendering.specs.Texts.{Fragment, Setting, rendered}
use Rattle.rendering.specs.Traces.{Trace, within, rendered_trace}
use Rattle.rendering.proofs.Theorem.{items-within}
use Rattle.edits.specs.Edits.{encode, write}
use Rattle.edits.specs.Traces.{list_trace}
use Rattle.edits.specs.Answers.{answer_of, bytes_of}
use Rattle.edits.proofs.TraceLaws.{write-within}
use Rattle.job_checks.specs.Checks.{Job, rules_in, pairs_in, tree_in, candidates_in, job_outcome}
use Rattle.job_answers.specs.Collected.{matches_in, setting_of}
use Rattle.job_answers.specs.Answers.{list_in}
use Rattle.examples.specs.Table.{AJob, Answer, JobDone, answered}
use Rattle.examples.proofs.Decoding.{decoded_tree, tree_is}
use Rattle.examples.proofs.Attempts.{match_over, match_is}

-- the rule of a pair's expressions
abbrev pub rule : ℕ → Rule
rule k = record { pair = k; form = Expression; template = Own }

-- the answer that a list's trace gives in a buffer
abbrev pub answer_in : List ℕ → Trace → Answer
answer_in out list = JobDone (answer_of (within list (used_of (length out)))) (filled out (bytes_of (within list (used_of (length out)))))

-- a template's fragments and the kind of its root, over the same
abbrev fragments_over : List ℕ → Option SideTree → ℕ → List Fragment
fragments_over fact_text None «module» = []
fragments_over fact_text (Some t) «module» = map (fragment_of fact_text t.side.code t.side.facts «module») (pieces t.side (decoded_tree t.words))

fragments_are : (fact_text : List ℕ) (template : Option SideTree) («module» : ℕ)
    → tree_fragments fact_text template «module» ≡ fragments_over fact_text template «module»
fragments_are fact_text None «module» = refl
fragments_are fact_text (Some t) «module» = rw (tree_is t.words)

abbrev kind_over : Option SideTree → ℕ
kind_over None = 0
kind_over (Some t) = kind_of (decoded_tree t.words)

kind_is : (template : Option SideTree) → tree_kind template ≡ kind_over template
kind_is None = refl
kind_is (Some t) = rw (tree_is t.words)

-- the list by its parts
abbrev list_by : Elems → Setting → Nest → ℕ → Result (List ℕ) Event
list_by t S c room = after (write S.start_of S.end_of room (items t (rendered S) c)) λ es. Ok (encode es)

abbrev trace_by : Elems → Setting → Nest → Trace
trace_by t S c = list_trace S.start_of S.end_of (items t (rendered_trace S) c)

by_trace : (t : Elems) (S : Setting) (c : Nest) (room : ℕ) → list_by t S c room ≡ within (trace_by t S c) room
by_trace t S c room = rw (items-within S t c) (write-within S.start_of S.end_of (items t (rendered_trace S) c) room)

module _ (j : Job) where
  abbrev file_tree : Elems
  file_tree = decoded_tree j.file.words

  abbrev template_of : Option Rule → Option SideTree
  template_of found = found_template (rules_in j) found

  -- what the matches are rendered with
  abbrev setting_by : Elems → (Match → List Fragment) → (Match → ℕ) → Setting
  setting_by t fragments kind = record {
    file = j.file.text;
    start_of = start_at t;
    end_of = end_at t;
    fragments = fragments;
    kind = kind;
    parses = parses_of j.parses j.parse_text;
  }

  -- by the rules left
  module _ (rs : List Rule) where
    abbrev attempts : ℕ → ℕ → Attempt
    attempts n r = match_over (rules_in j) j.file j.range (rule_at rs r) n

    abbrev templates : Match → List Fragment
    templates m = fragments_over j.fact_text (template_of (rule_at rs m.rule)) (module_of j.file.facts m.node)

    abbrev kinds : Match → ℕ
    kinds m = kind_over (template_of (rule_at rs m.rule))

    abbrev matches_over : List Match
    matches_over = matches file_tree (length rs) attempts (has (candidates_in j))

    abbrev setting_over : Setting
    setting_over = setting_by file_tree templates kinds

    abbrev pub trace_of : Trace
    trace_of = trace_by file_tree setting_over (nest file_tree matches_over none)

  abbrev left : List Rule
  left = rules (pairs_in j)

  matches_are : matches_in j ≡ matches_over left
  matches_are =
      ap (λ attempt. matches (tree_in j) (length left) attempt (has (candidates_in j)))
      (fun_ext λ (n : ℕ). fun_ext λ (r : ℕ). match_is (rules_in j) j.file j.range (rule_at left r) n)
      ∙ ap (λ t. matches t (length left) (attempts left) (has (candidates_in j))) (tree_is j.file.words)

  setting_is : setting_of j ≡ setting_over left
  setting_is =
      ap₂ (setting_by (tree_in j))
      (fun_ext λ (m : Match). fragments_are j.fact_text (template_of (rule_at left m.rule)) (module_of j.file.facts m.node))
      (fun_ext λ (m : Match). kind_is (template_of (rule_at left m.rule)))
      ∙ ap (λ t. setting_by t (templates left) (kinds left)) (tree_is j.file.words)

  list_is : (room : ℕ) → list_in j room ≡ within (trace_of left) room
  list_is room =
      ap₂ (λ S ms. list_by (tree_in j) S (nest (tree_in j) ms none) room) setting_is matches_are
      ∙ ap (λ t. list_by t (setting_over left) (nest t (matches_over left) none) room) (tree_is j.file.words)
      ∙ by_trace file_tree (setting_over left) (nest file_tree (matches_over left) none) room

  -- a job that nothing refuses, by the rules left
  pub done_by : (rs : List Rule) (out : List ℕ) → job_outcome j ≡ ok → rules (pairs_in j) ≡ rs
      → answered (AJob j out) ≡ answer_in out (trace_of rs)
  done_by rs out accepted are = rw (accepted, list_is (used_of (length out)), are)
