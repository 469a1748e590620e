-- The checks of the walk beside those of the job on its list, and in turn.
-- Assumes nothing.
use Rattle.std.proofs.Common.{◌≡◌, refl, sym, ap, ◌∙◌, Bool, true, false, not, List, [], ◌∷◌, ℕ, ◌≤◌, ◌<◌, ltb, length, take, drop, Option, Ok, Err, arith}
use mathlib.Core.Bool.{or-false}
use borrow.Author.Tests.{ltb-false, lt-ltb, le-ltb}
use Rattle.errors.specs.Refusals.{Outcome, ok, err, first_of, in_turn}
use Rattle.errors.specs.declared.Refusal.{Refusal}
use Rattle.errors.specs.declared.Refusal.TheVariants.{TooManyRulesOrCandidates, NoSuchCandidate, RepeatedCandidate, NoTemplate}
use Rattle.errors.proofs.Laws.{refused_not, first_pass, first-stop, turn_passes, turn_refuses, turn_both, turn_last}
use Rattle.words.specs.declared.texts.Range.{Range}
use Rattle.fragments.specs.Pairs.{Pairs}
use Rattle.rules.specs.declared.stages.Stage.TheVariants.{Forms}
use Rattle.rules.specs.Numbering.{rules}
use Rattle.trees.specs.declared.File.{File as Accepted}
use Rattle.candidates.specs.Candidates.{Candidate, candidate_count}
use Rattle.checks.specs.declared.Rules.{Rules}
use Rattle.checks.specs.Given.{File, file_in, stage, is_range}
use Rattle.checks.proofs.GivenLaws.{trees_accepted}
use Rattle.parses.specs.Parses.{parses_outcome}
use Rattle.rule_paths.specs.Accepted.{to_resolve}
use Rattle.rule_paths.proofs.AcceptedLaws.{forms_passed, turns_pass, turns_refuse}
use Rattle.job_checks.specs.Checks.{Job, rules_in, pairs_in, tree_in, candidates_in, rule_count, any_without_template, job_outcome}
use Rattle.job_checks.proofs.CheckLaws.{first-both, not_false}
use Rattle.job_answers.specs.Collected.{attempt_in}
use Rattle.walk_nodes.specs.WalkCandidates.{walk_candidates}
use Rattle.walk_answers.specs.Walk.{walk_of, walk_matches, walk_checks, before_matches, walk_outcome}
use Rattle.walk_answers.specs.Walkable.{Walkable}
use Rattle.walk_answers.proofs.ListLaws.{candidates_words, count-words, walk_named, walk_once, accepted_fewer}

-- a check that does not fail may stand anywhere
moved : (a b c : Bool)
    → first_of
    (record { fails = a; refusal = TooManyRulesOrCandidates }
    ∷ record { fails = b; refusal = NoSuchCandidate }
    ∷ record { fails = c; refusal = NoTemplate }
    ∷ record { fails = false; refusal = TooManyRulesOrCandidates }
    ∷ [])
    ≡ first_of
    (record { fails = a; refusal = TooManyRulesOrCandidates }
    ∷ record { fails = b; refusal = NoSuchCandidate }
    ∷ record { fails = false; refusal = RepeatedCandidate }
    ∷ record { fails = c; refusal = NoTemplate }
    ∷ [])
unfolding first_of
moved true b c = refl
moved false true c = refl
moved false false true = refl
moved false false false = refl

module _ (pairs : Pairs) (fact_text : List ℕ) (file : File) (parses parse_text : List ℕ) (range : Option Range) where
  abbrev walk : Job
  walk = walk_of pairs fact_text file parses parse_text range

  abbrev all : List Candidate
  all = walk_candidates (tree_in walk) (rule_count walk)

  pub outcome-same : candidate_count walk.candidates ≤ 1024 → walk_outcome walk ≡ job_outcome walk
  outcome-same few =
      let e : candidates_in walk ≡ all = candidates_words all in
      let n : candidate_count walk.candidates ≡ length all = count-words all in
      let m : ltb 1024 (length (walk_matches walk)) ≡ false =
      le-ltb 1024 (length (walk_matches walk)) (rw e (omega (arith, accepted_fewer (attempt_in walk) all, n, few))) in
      rw (
        m,
        moved (ltb 16 (rule_count walk)) (not (is_range range)) (any_without_template (rules (pairs_in walk))),
        le-ltb 1024 (candidate_count walk.candidates) few,
        or-false (ltb 16 (rule_count walk)),
        e,
        walk_named (tree_in walk) (rule_count walk),
        walk_once (tree_in walk) (rule_count walk),
      )

-- ---- in turn

module _ (j : Job) where
  abbrev early : Outcome
  early = first_of (take 3 (walk_checks j))

  -- before the matches
  module _ (q : Rules) (is : q ≡ rules_in j) where
    pub resolving_refuses : (r : Refusal) → err r ≡ in_turn (to_resolve q j.file) → err r ≡ before_matches j
    unfolding before_matches
    resolving_refuses r h = sym (turns_refuse (to_resolve (rules_in j) j.file) (early ∷ []) r (rw is at (sym h)))

    module _ (h : ok ≡ in_turn (to_resolve q j.file)) where
      passed : in_turn (to_resolve (rules_in j) j.file) ≡ ok
      passed = rw is at (sym h)

      pub forms_pass : stage Forms (rules_in j) ≡ ok
      forms_pass = forms_passed (rules_in j) j.file passed

      pub rules_decide : (o : Outcome) → o ≡ early → o ≡ before_matches j
      unfolding before_matches
      rules_decide o e = e ∙ sym (turns_pass (to_resolve (rules_in j) j.file) (early ∷ []) passed ∙ turn_last early)

      pub walkable : (p : Rules) (file : Accepted) → p ≡ q → file_in file ≡ j.file → ok ≡ early → Walkable j p file
      walkable p file r f e =
          let t = turn_both _ _ passed in
          let a = first-both _ _ (sym e) in
          let b = first-both _ _ a.1 in record {
            rules_are = r ∙ is;
            file_is = f;
            passed = sym (rules_decide ok e);
            trees = trees_accepted (rules_in j) j.file t.0;
            resolved = (first-both _ _ (turn_both _ _ t.1).0).0;
            few_rules = ltb-false _ _ a.0;
            ranged = not_false (is_range j.range) b.0;
            templates = (first-both _ _ b.1).0;
          }

  -- all of them: what refuses before the matches, 24 over 1,024 matches, and 28
  abbrev asked : List Outcome
  asked = first_of (walk_checks j) ∷ parses_outcome j.parses j.parse_text ∷ []

  early_passes : before_matches j ≡ ok → (in_turn (to_resolve (rules_in j) j.file) ≡ ok) × (early ≡ ok)
  unfolding before_matches
  early_passes h = by (in_turn (to_resolve (rules_in j) j.file)) refl
    where
      by : (o : Outcome) → in_turn (to_resolve (rules_in j) j.file) ≡ o → (in_turn (to_resolve (rules_in j) j.file) ≡ ok) × (early ≡ ok)
      by (Ok tt) e = (e, sym (turn_last early) ∙ sym (turns_pass (to_resolve (rules_in j) j.file) (early ∷ []) e) ∙ h)
      by (Err r) e = absurd (refused_not (sym (turns_refuse (to_resolve (rules_in j) j.file) (early ∷ []) r e) ∙ h))

  pub walk_refused : (r : Refusal) → err r ≡ before_matches j → err r ≡ walk_outcome j
  unfolding before_matches
  walk_refused r h = by (in_turn (to_resolve (rules_in j) j.file)) refl
    where
      by : (o : Outcome) → in_turn (to_resolve (rules_in j) j.file) ≡ o → err r ≡ walk_outcome j
      by (Ok tt) e =
          let s : early ≡ err r = sym (turn_last early) ∙ sym (turns_pass (to_resolve (rules_in j) j.file) (early ∷ []) e) ∙ sym h in
          sym (turns_pass (to_resolve (rules_in j) j.file) asked e ∙ turn_refuses _ _ r (first-stop (take 3 (walk_checks j)) (drop 3 (walk_checks j)) r s))
      by (Err s) e = h ∙ turns_refuse (to_resolve (rules_in j) j.file) (early ∷ []) s e ∙ sym (turns_refuse (to_resolve (rules_in j) j.file) asked s e)

  module _ (h : ok ≡ before_matches j) where
    matches_decide : walk_outcome j ≡ in_turn (first_of (drop 3 (walk_checks j)) ∷ parses_outcome j.parses j.parse_text ∷ [])
    matches_decide =
        let p = early_passes (sym h) in
        turns_pass (to_resolve (rules_in j) j.file) asked p.0
        ∙ ap (λ (x : Outcome). in_turn (x ∷ parses_outcome j.parses j.parse_text ∷ [])) (first_pass (take 3 (walk_checks j)) (drop 3 (walk_checks j)) p.1)

    pub too_many_matches : 1024 < length (walk_matches j) → err TooManyRulesOrCandidates ≡ walk_outcome j
    unfolding first_of
    too_many_matches m = sym (matches_decide ∙ turn_refuses _ _ TooManyRulesOrCandidates (rw (lt-ltb 1024 (length (walk_matches j)) m)))

    pub few_matches : length (walk_matches j) ≤ 1024 → parses_outcome j.parses j.parse_text ≡ walk_outcome j
    unfolding first_of
    few_matches m =
        sym (matches_decide ∙ turn_passes _ _ (rw (le-ltb 1024 (length (walk_matches j)) m)) ∙ turn_last (parses_outcome j.parses j.parse_text))
