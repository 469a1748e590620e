-- The candidates that were found, as a job's: they pass its checks, and its edit list is the walk's.
-- Assumes nothing.
use mathlib.Core.Path.{◌≡◌, sym, ap, ◌∙◌}
use mathlib.Core.Bool.{true, false, not}
use mathlib.Core.List.{List}
use Prim.Native.Nat.{ℕ, ◌≤◌}
use native.Mathlib.Omega.{arith}
use lib.ListN.{length}
use Rattle.sorting.specs.Sorted.{sort}
use Rattle.std.proofs.Common.{refl, min, Option, Ok}
use Rattle.errors.specs.Refusals.{ok}
use Rattle.words.proofs.TestLaws.{or_neither}
use Rattle.trees.specs.declared.File.{File as Accepted}
use Rattle.fragments.specs.Pairs.{pairs_in}
use Rattle.rules.specs.Numbering.{rules}
use Rattle.checks.specs.declared.Rules.{Rules}
use Rattle.checks.specs.Given.{file_in}
use Rattle.syntax.specs.Trees.{tree}
use Rattle.rule_match.specs.RuleMatch.{attempt_of}
use Rattle.candidates.specs.Candidates.{Candidate, candidates_of, candidate_count, has, any_bad, is_twice, keys_of}
use Rattle.parses.specs.Parses.{Parse, is_parse_list, is_repeated, parses_of, parses_outcome}
use Rattle.nester.specs.Matches.{Match}
use Rattle.nester.specs.Nest.{none, nest}
use Rattle.nester.specs.Places.{items}
use Rattle.rendering.specs.Events.{after}
use Rattle.rendering.specs.Texts.{rendered}
use Rattle.edits.specs.Edits.{encode, write}
use Rattle.job_checks.specs.declared.Inputs.{Inputs}
use Rattle.job_checks.specs.Checks.{Job, job_on, tree_in, candidates_in, rule_count}
use Rattle.job_checks.specs.Checked.{Checked}
use Rattle.job_checks.proofs.CheckLaws.{first-both, not_false}
use Rattle.job_answers.specs.Collected.{attempt_in, start_in, end_in, setting_of}
use Rattle.job_answers.specs.Answers.{list_in}
use Rattle.walk_nodes.specs.WalkCandidates.{walk_candidates, accepted, words_of}
use Rattle.walk_nodes.specs.Finds.{Finds}
use Rattle.walk_answers.specs.Walk.{walk_in, walk_matches}
use Rattle.walk_answers.specs.Walkable.{Walkable}
use Rattle.walk_answers.proofs.SetLaws.{matches-same, has-accepted}
use Rattle.walk_answers.proofs.ListLaws.{candidates_words, count-words, walk_named, walk_once, accepted_named, accepted_once}

parse_list : (parses parse_text : List ℕ) → parses_outcome parses parse_text ≡ ok → is_parse_list (length parse_text) parses ≡ true
parse_list l t h = not_false _ (or_neither (not (is_parse_list (length t) l)) (is_repeated (parses_of l t)) (first-both _ _ h).0).0

module _ (given : Inputs) where
  abbrev walk : Job
  walk = walk_in given

  abbrev all : List Candidate
  all = walk_candidates (tree_in walk) (rule_count walk)

  all_are : candidates_in walk ≡ all
  all_are = candidates_words all

  -- what is found with as many rules as there are is what matches
  pub finds_matches : {A : Type 0} (q : Rules) (file : Accepted) (count : ℕ) (r : Option A) (found : List Candidate) → Walkable walk q file
      → count ≡ min 16 (length (rules (pairs_in q.pairs)))
      → Finds (accepted (attempt_of q (file_in file) given.range) (walk_candidates (tree file.tree.words.now) count)) r found → Finds (walk_matches walk) r found
  finds_matches q file count r found w e f =
      let n : length (rules (pairs_in q.pairs)) ≡ rule_count walk = rw w.rules_are refl in
      let k : count ≡ rule_count walk = omega (arith, e, n, w.few_rules) in
      let all : accepted (attempt_of q (file_in file) given.range) (walk_candidates (tree file.tree.words.now) count) ≡ walk_matches walk =
      (λ i. accepted (attempt_of (w.rules_are i) (w.file_is i) given.range) (walk_candidates (tree (w.file_is i).words) (k i)))
      ∙ ap (accepted (attempt_in walk)) (sym all_are) in
      rw all at f

  pub few_found : (n : ℕ) (found : List Candidate) → found ≡ walk_matches walk → n ≡ length found → n ≤ 1024 → length (walk_matches walk) ≤ 1024
  few_found n found e l few = rw (← e, ← l) few

  -- the words of what was found
  module _ (cs : List ℕ) (words_are : cs ≡ words_of (walk_matches walk)) where
    candidates_are : candidates_of cs ≡ walk_matches walk
    candidates_are = ap candidates_of words_are ∙ candidates_words (walk_matches walk)

    abbrev found : Job
    found = job_on given cs

    pub list_found : (room : ℕ) → list_in found room ≡ list_in walk room
    list_found room =
        ap
        (λ (ms : List Match).
        after (write (start_in walk) (end_in walk) room (items (tree_in walk) (rendered (setting_of walk)) (nest (tree_in walk) ms none)))
        λ es. Ok (encode es))
        (matches-same (attempt_in walk) (tree_in walk) (rule_count walk) (has (candidates_of cs)) (has (candidates_in walk))
        (λ n r. rw candidates_are (has-accepted (attempt_in walk) (candidates_in walk) n r)))

    named : any_bad (tree_in walk) (rule_count walk) (candidates_in found) ≡ false
    named =
        let a : any_bad (tree_in walk) (rule_count walk) (candidates_in walk) ≡ false = rw all_are (walk_named (tree_in walk) (rule_count walk)) in
        rw candidates_are (accepted_named (tree_in walk) (rule_count walk) (attempt_in walk) (candidates_in walk) a)

    once : is_twice (candidates_in found) ≡ false
    once =
        let a : is_twice (candidates_in walk) ≡ false = rw all_are (walk_once (tree_in walk) (rule_count walk)) in
        rw candidates_are (accepted_once (attempt_in walk) (candidates_in walk) a)

    pub count-found : candidate_count cs ≡ length (walk_matches walk)
    count-found = ap candidate_count words_are ∙ count-words (walk_matches walk)

    pub checked_found : (q : Rules) (accepted : Accepted) (ps : List Parse) (keys : List ℕ) → Walkable walk q accepted → length (walk_matches walk) ≤ 1024
        → ps ≡ parses_of given.parses.now given.parse_text.now → parses_outcome given.parses.now given.parse_text.now ≡ ok → keys ≡ sort (keys_of (candidates_of cs))
        → Checked found q accepted ps keys
    checked_found q accepted ps keys w few ps_are parsed sorted = record {
      rules_are = w.rules_are;
      file_is = w.file_is;
      parses_are = ps_are;
      trees = w.trees;
      resolved = w.resolved;
      few_rules = w.few_rules;
      few_candidates = omega (arith, few, count-found);
      named = named;
      ranged = w.ranged;
      once = once;
      templates = w.templates;
      parsed = parse_list given.parses.now given.parse_text.now parsed;
      sorted = sorted;
    }
