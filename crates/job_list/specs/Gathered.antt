-- Rows that are gathered: those of the keys of one rule, and those of all keys. A key is node times 16 and rule.
-- Assumes nothing.
use Rattle.std.specs.Prelude.{ℕ, ◌/◌, ◌%◌, ◌<◌, ◌≤◌, ◌≡◌, true, List, length, get_or, Option}
use Rattle.words.specs.declared.texts.Range.{Range}
use Rattle.captures.specs.Attempts.{Attempt}
use Rattle.matcher.specs.FileFacts.{module_of}
use Rattle.nester.specs.declared.Row.{Row}
use Rattle.nester.specs.Rows.{row_at}
use Rattle.checks.specs.declared.Rules.{Rules}
use Rattle.checks.specs.Given.{File, is_node_of}
use Rattle.rule_match.specs.RuleMatch.{attempt_of}
use Rattle.job_list.specs.Told.{Told}

-- ---- the keys of one rule

-- of the first n keys those of a rule's number are told; all other rows are the same
pub record Gathers (number : ℕ) (attempt : ℕ → ℕ → Attempt) (modules : ℕ → ℕ) (n : ℕ) (keys : List ℕ) (rows rows' : List Row) : Type 0 where
  pub told : (i : ℕ) → i < n → get_or keys i 0 % 16 ≡ number → Told attempt modules keys rows' i
  pub others : (i : ℕ) → (get_or keys i 0 % 16 ≡ number → ⊥) → row_at rows' i ≡ row_at rows i
  pub later : (i : ℕ) → n ≤ i → row_at rows' i ≡ row_at rows i

-- ---- all keys

-- each names a node of the file, and one of the first rules
abbrev pub AreNodes : File → List ℕ → Type 0
AreNodes f keys = (i : ℕ) → i < length keys → is_node_of f (get_or keys i 0 / 16) ≡ true

abbrev pub AreBelow : ℕ → List ℕ → Type 0
AreBelow rules keys = (i : ℕ) → i < length keys → get_or keys i 0 % 16 < rules

abbrev pub Gathered : Rules → File → Option Range → List ℕ → List Row → Type 0
Gathered q f range keys rows = (i : ℕ) → i < length keys → Told (attempt_of q f range) (module_of f.facts) keys rows i
