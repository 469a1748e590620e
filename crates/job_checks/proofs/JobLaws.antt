-- 24 to 28 in turn, and what is known where they pass.
-- Assumes nothing.
use Rattle.std.proofs.Common.{◌≡◌, refl, sym, ◌∙◌, true, false, not, List, [], ◌++◌, ℕ, ◌≤◌, ltb, length, take, drop, Ok, Err, arith}
use lib.Seq.{length-take-le}
use borrow.Author.Tests.{ltb-false}
use Rattle.errors.specs.Refusals.{Outcome, ok, err}
use Rattle.errors.specs.declared.Refusal.TheVariants.{RepeatedCandidate, NoTemplate}
use Rattle.errors.specs.Refusals.{Check, first_of}
use Rattle.errors.proofs.Laws.{first_pass, first-stop, turn_passes, turn_refuses, turn_both, turn_last}
use Rattle.words.proofs.TestLaws.{or_neither}
use Rattle.sorting.specs.Sorted.{sort}
use Rattle.sorting.proofs.Laws.{length-sort}
use Rattle.syntax.specs.Checks.{is_well_formed, WellFormed}
use Rattle.syntax.proofs.FormedLaws.{formed_is}
use Rattle.trees.specs.declared.File.{File}
use Rattle.rules.specs.Numbering.{rules}
use Rattle.rule_paths.specs.RulePaths.{paths_outcome}
use Rattle.checks.specs.declared.Rules.{Rules}
use Rattle.checks.proofs.GivenLaws.{trees_accepted}
use Rattle.checks.specs.Given.{given_outcome, file_in, is_range}
use Rattle.parses.specs.Parses.{Parse, is_parse_list, is_repeated, parses_of, parses_outcome}
use Rattle.candidates.specs.Candidates.{candidates_of, candidate_count, any_bad, is_twice, keys_of, has_equal_neighbours}
use Rattle.candidates.proofs.CandidateLaws.{length_candidates, length_keys, named_low}
use Rattle.candidates.proofs.KeyLaws.{twice_neighbours}
use Rattle.job_checks.specs.Checks.{Job, rules_in, pairs_in, tree_in, candidates_in, rule_count, any_without_template, job_checks, named_outcome, once_outcome, asked_outcome, job_outcome}
use Rattle.job_checks.specs.Checked.{Checked, Listed}
use Rattle.job_checks.proofs.CheckLaws.{first-both, not_false}

pub length_sorted : (l : List ℕ) → length (sort (keys_of (candidates_of l))) ≡ candidate_count l
length_sorted l = length-sort (keys_of (candidates_of l)) ∙ length_keys (candidates_of l) ∙ length_candidates l

-- checks before others that refuse
stops : (cs more : List Check) → (first_of cs ≡ ok → ⊥) → first_of (cs ++ more) ≡ first_of cs
stops cs more n = by (first_of cs) refl
  where
    by : (o : Outcome) → first_of cs ≡ o → first_of (cs ++ more) ≡ first_of cs
    by (Ok tt) e = absurd (n e)
    by (Err r) e = first-stop cs more r e ∙ sym e

-- what 24 and 25 leave
pub record Named (j : Job) : Type 0 where
  pub few_rules : rule_count j ≤ 16
  pub few_candidates : candidate_count j.candidates ≤ 1024
  pub named : any_bad (tree_in j) (rule_count j) (candidates_in j) ≡ false
  pub ranged : is_range j.range ≡ true

module _ (j : Job) where
  named_by : (cs : List Check) → first_of (take 2 (job_checks j) ++ cs) ≡ ok → Named j
  named_by cs h =
      let s = first-both _ _ h in
      let few = or_neither (ltb 16 (rule_count j)) (ltb 1024 (candidate_count j.candidates)) s.0 in
      let good = or_neither (any_bad (tree_in j) (rule_count j) (candidates_in j)) (not (is_range j.range)) (first-both _ _ s.1).0 in
      record {
        few_rules = ltb-false _ _ few.0;
        few_candidates = ltb-false _ _ few.1;
        named = good.0;
        ranged = not_false (is_range j.range) good.1;
      }

  -- 26 behind them
  pub list_refuses : (named_outcome j ≡ ok → ⊥) → once_outcome j ≡ named_outcome j
  unfolding named_outcome once_outcome
  list_refuses n = stops (take 2 (job_checks j)) (drop 2 (take 3 (job_checks j))) n

  module _ (h : named_outcome j ≡ ok) where
    few_keys : candidate_count j.candidates ≤ 1024
    unfolding named_outcome
    few_keys = (named_by [] h).few_candidates

    pub keys_room : (keys : List ℕ) → 1024 ≤ length keys → length (take (candidate_count j.candidates) keys) ≡ candidate_count j.candidates
    keys_room keys r = length-take-le (candidate_count j.candidates) keys (omega (arith, few_keys, r))

    module _ (w : is_well_formed j.file.words ≡ true) where
      twice_is : is_twice (candidates_in j) ≡ has_equal_neighbours (sort (keys_of (candidates_in j)))
      unfolding named_outcome
      twice_is =
          let l = named_by [] h in
          let low = named_low j.file.words (rule_count j) (candidates_in j) (formed_is j.file.words w) l.named in
          twice_neighbours (rule_count j) l.few_rules _ (candidates_in j) low

      pub pair_twice : has_equal_neighbours (sort (keys_of (candidates_in j))) ≡ true → once_outcome j ≡ err RepeatedCandidate
      unfolding first_of named_outcome once_outcome
      pair_twice t = first_pass (take 2 (job_checks j)) (drop 2 (take 3 (job_checks j))) h ∙ rw (twice_is ∙ t)

      pub none_twice : has_equal_neighbours (sort (keys_of (candidates_in j))) ≡ false → once_outcome j ≡ ok
      unfolding first_of named_outcome once_outcome
      none_twice t = first_pass (take 2 (job_checks j)) (drop 2 (take 3 (job_checks j))) h ∙ rw (twice_is ∙ t)

  -- 27 and 28 behind these
  pub once_refuses : (once_outcome j ≡ ok → ⊥) → asked_outcome j ≡ once_outcome j
  unfolding once_outcome asked_outcome
  once_refuses n = by (once_outcome j) refl
    where
      by : (u : Outcome) → once_outcome j ≡ u → asked_outcome j ≡ once_outcome j
      by (Ok tt) e = absurd (n e)
      by (Err r) e = turn_refuses _ _ r (first-stop (take 3 (job_checks j)) (drop 3 (job_checks j)) r e) ∙ sym e

  module _ (h : once_outcome j ≡ ok) where
    templates_decide : first_of (job_checks j) ≡ first_of (drop 3 (job_checks j))
    unfolding once_outcome
    templates_decide = first_pass (take 3 (job_checks j)) (drop 3 (job_checks j)) h

    pub template_lacks : any_without_template (rules (pairs_in j)) ≡ true → asked_outcome j ≡ err NoTemplate
    unfolding first_of asked_outcome
    template_lacks t = turn_refuses _ _ NoTemplate (templates_decide ∙ rw t)

    pub parses_decide : any_without_template (rules (pairs_in j)) ≡ false → asked_outcome j ≡ parses_outcome j.parses j.parse_text
    unfolding first_of asked_outcome
    parses_decide t = turn_passes _ _ (templates_decide ∙ rw t) ∙ turn_last (parses_outcome j.parses j.parse_text)

  -- A JOB WHOSE CHECKS PASS IS A CHECKED JOB
  parse_list : parses_outcome j.parses j.parse_text ≡ ok → is_parse_list (length j.parse_text) j.parses ≡ true
  parse_list h = not_false _ (or_neither (not (is_parse_list (length j.parse_text) j.parses)) (is_repeated (parses_of j.parses j.parse_text)) (first-both _ _ h).0).0

  pub job_checked : (q : Rules) (file : File) (parses : List Parse) (keys : List ℕ) → q ≡ rules_in j → file_in file ≡ j.file → job_outcome j ≡ ok
      → Listed j parses keys → Checked j q file parses keys
  job_checked q file parses keys e f o a =
      let given = turn_both (given_outcome (rules_in j) j.file) _ o in
      let paths = turn_both (paths_outcome (pairs_in j)) _ given.1 in
      let both = turn_both (first_of (job_checks j)) _ paths.1 in
      let l = named_by (drop 2 (job_checks j)) both.0 in
      let u = first-both _ _ (first-both _ _ (first-both _ _ both.0).1).1 in
      record {
        rules_are = e;
        file_is = f;
        parses_are = a.parses_are;
        trees = trees_accepted (rules_in j) j.file given.0;
        resolved = (first-both _ _ paths.0).0;
        few_rules = l.few_rules;
        few_candidates = l.few_candidates;
        named = l.named;
        ranged = l.ranged;
        once = u.0;
        templates = (first-both _ _ u.1).0;
        parsed = parse_list (turn_both _ _ both.1).0;
        sorted = a.sorted;
      }

-- its file's tree is well-formed
pub checked_formed : (j : Job) (q : Rules) (file : File) (parses : List Parse) (keys : List ℕ) → Checked j q file parses keys → WellFormed j.file.words
checked_formed j q file parses keys c = rw (← c.file_is) (formed_is file.tree.words.now file.tree.formed)
