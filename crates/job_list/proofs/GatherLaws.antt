-- Rows gathered key by key: what is told stays told, and what is not of a rule stays as it is.
-- Assumes nothing.
use mathlib.Core.Path.{◌≡◌, refl, ◌∙◌}
use mathlib.Core.Bool.{true}
use mathlib.Core.List.{List, []}
use Prim.Native.Nat.{ℕ, ◌+◌, ◌/◌, ◌%◌, ◌<◌, ◌≤◌}
use native.Mathlib.Omega.{arith}
use lib.ListN.{length, get_or, set}
use lib.Seq.{get_or-set_same, get_or-set_other}
use Rattle.std.proofs.Common.{min, Option, Some, None, option_map}
use Rattle.words.specs.declared.texts.Range.{Range}
use Rattle.words.proofs.TestLaws.{same_or}
use Rattle.syntax.proofs.FormedLaws.{formed_is}
use Rattle.captures.specs.Attempts.{Attempt}
use Rattle.captures.specs.declared.State.{State}
use Rattle.captures.specs.Effects.{nothing, Gives}
use Rattle.candidates.proofs.CandidateLaws.{node_below}
use Rattle.matcher.specs.FileFacts.{module_of}
use Rattle.trees.specs.declared.File.{File as Accepted}
use Rattle.rules.specs.declared.numbering.Rule.{Rule}
use Rattle.rules.specs.Numbering.{rules}
use Rattle.rules.proofs.RuleLaws.{rule_there}
use Rattle.fragments.specs.Pairs.{pairs_in}
use Rattle.rule_paths.specs.Needs.{PairedRule, paired}
use Rattle.checks.specs.declared.Rules.{Rules}
use Rattle.checks.specs.Given.{File, file_in, found_rule, is_node_of}
use Rattle.parses.specs.Parses.{Parse}
use Rattle.nester.specs.declared.Row.{Row}
use Rattle.nester.specs.Rows.{no_row}
use Rattle.rule_match.specs.RuleMatch.{rule_match, attempt_of}
use Rattle.rule_match.proofs.MatchLaws.{found_gives}
use Rattle.job_checks.specs.Checks.{Job, candidates_in, rule_count}
use Rattle.job_checks.specs.Checked.{Checked}
use Rattle.job_list.specs.Told.{row_of, Told}
use Rattle.job_list.specs.Gathered.{AreNodes, AreBelow, Gathers, Gathered}
use Rattle.job_list.proofs.MatchLaws.{keys_named}

-- ---- one candidate

-- a node's number is below that of all that a tree may have
pub node_low : (file : Accepted) (node : ℕ) → is_node_of (file_in file) node ≡ true → node < 16384
node_low file node h =
    let w = formed_is file.tree.words.now file.tree.formed in
    omega (arith, node_below file.tree.words.now node w h, w.few)

pub row_is : (q : Rules) (f : File) (range : Option Range) (node number m : ℕ) (x : PairedRule) (answer : Option State) (end : List ℕ) (row : Row)
    → Some x ≡ option_map (paired q) (found_rule q number)
    → Gives (rule_match x.pair x.rule f range node) nothing [] answer end
    → ((a : Attempt) (e : List ℕ) → Gives a nothing [] answer e → row ≡ row_of node number m a)
    → row ≡ row_of node number m (attempt_of q f range node number)
row_is q f range node number m x answer end row e g right = right _ end (found_gives q f range node number [] x answer end e g)

-- ---- key by key

module _ (number : ℕ) (attempt : ℕ → ℕ → Attempt) (modules : ℕ → ℕ) (keys : List ℕ) (rows : List Row) where
  pub gathers_none : Gathers number attempt modules 0 keys rows rows
  gathers_none = record { told = λ i h e. absurd (omega arith); others = λ i d. refl; later = λ i h. refl }

  -- no key is of this number
  pub gathers_unnamed : ((i : ℕ) → i < length keys → get_or keys i 0 % 16 ≡ number → ⊥) → Gathers number attempt modules (length keys) keys rows rows
  gathers_unnamed none = record { told = λ i h e. absurd (none i h e); others = λ i d. refl; later = λ i h. refl }

  module _ (n : ℕ) (rows' : List Row) (so_far : Gathers number attempt modules n keys rows rows') where
    -- the key is of another rule
    pub gathers_other : (get_or keys n 0 % 16 ≡ number → ⊥) → Gathers number attempt modules (n + 1) keys rows rows'
    gathers_other d = record {
      told = λ i h e. same_or i n (λ q. absurd (d (rw q at e))) (λ q. so_far.told i (omega arith) e);
      others = so_far.others;
      later = λ i h. so_far.later i (omega arith);
    }

    -- the key is of this one
    pub gathers_more : (row : Row) → n < length rows' → get_or keys n 0 % 16 ≡ number
        → row ≡ row_of (get_or keys n 0 / 16) number (modules (get_or keys n 0 / 16)) (attempt (get_or keys n 0 / 16) number)
        → Gathers number attempt modules (n + 1) keys rows (set rows' n row)
    gathers_more row l e t = record {
      told = λ i h q.
          same_or i n (λ w. rw (w, e) (get_or-set_same rows' n row no_row l ∙ t))
          (λ w. get_or-set_other rows' n i row no_row w ∙ so_far.told i (omega arith) q);
      others = λ i d. get_or-set_other rows' n i row no_row (λ w. d (rw w e)) ∙ so_far.others i d;
      later = λ i h. get_or-set_other rows' n i row no_row (λ w. omega arith) ∙ so_far.later i (omega arith);
    }

  -- all keys of one number more are told
  pub told_more : (rows' : List Row) → Gathers number attempt modules (length keys) keys rows rows'
      → ((i : ℕ) → i < length keys → get_or keys i 0 % 16 < number → Told attempt modules keys rows i)
      → (i : ℕ) → i < length keys → get_or keys i 0 % 16 < number + 1 → Told attempt modules keys rows' i
  told_more rows' g below i h k =
      same_or (get_or keys i 0 % 16) number (λ e. g.told i h e) (λ d. g.others i d ∙ below i h (omega arith))

-- ---- the keys of a job

module _ {j : Job} {q : Rules} {file : Accepted} {parses : List Parse} {keys : List ℕ} (checked : Checked j q file parses keys) where
  keys_are : AreNodes (file_in file) keys × AreBelow (rule_count j) keys
  keys_are = rw (← checked.file_is, ← checked.sorted) at (keys_named j.file (rule_count j) (candidates_in j) checked.few_rules checked.named)

  pub key_node : (i : ℕ) → i < length keys → is_node_of (file_in file) (get_or keys i 0 / 16) ≡ true
  key_node i h = keys_are.0 i h

  count_is : length (rules (pairs_in q.pairs)) ≡ rule_count j
  count_is = rw checked.rules_are refl

  -- where the rows of the keys of all rules are told, which are few, all are
  pub told_all : (range : Option Range) (number : ℕ) (rows : List Row) → min 16 (length (rules (pairs_in q.pairs))) ≤ number
      → ((i : ℕ) → i < length keys → get_or keys i 0 % 16 < number → Told (attempt_of q (file_in file) range) (module_of file.facts) keys rows i)
      → Gathered q (file_in file) range keys rows
  told_all range number rows all told i h = told i h (omega (arith, keys_are.1 i h, checked.few_rules, count_is, all))

  -- no key is of a rule that is not there
  none_unfound : (number : ℕ) → None ≡ option_map (paired q) (found_rule q number) → (i : ℕ) → i < length keys → get_or keys i 0 % 16 ≡ number → ⊥
  none_unfound number e i h k = go (found_rule q number) refl e
    where
      low : number < length (rules (pairs_in q.pairs))
      low = omega (arith, k, keys_are.1 i h, count_is)

      go : (r : Option Rule) → found_rule q number ≡ r → None ≡ option_map (paired q) r → ⊥
      go None f m = rule_there _ number low f
      go (Some r) f m = cc

  pub gathers_unfound : (number : ℕ) (attempt : ℕ → ℕ → Attempt) (modules : ℕ → ℕ) (rows : List Row) → None ≡ option_map (paired q) (found_rule q number)
      → Gathers number attempt modules (length keys) keys rows rows
  gathers_unfound number attempt modules rows e = gathers_unnamed number attempt modules keys rows (none_unfound number e)
