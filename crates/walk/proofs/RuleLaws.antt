-- What is found with a rule that was made ready, with the rule of a number, and with all rules in turn.
-- Assumes nothing.
use mathlib.Core.Path.{◌≡◌, refl, sym, ap, subst, ◌∙◌}
use mathlib.Core.List.{List, [], ◌++◌, append_assoc, append-nil}
use native.Mathlib.Numerals.{add-one}
use mathlib.Core.Bool.{and-false}
use Prim.Native.Nat.{ℕ, zero, suc, ◌+◌, ◌<◌}
use native.Mathlib.Omega.{arith}
use lib.ListN.{length, length-append}
use Rattle.std.proofs.Common.{Option, Some, None, option_map}
use Rattle.words.specs.declared.texts.Range.{Range}
use Rattle.syntax.specs.Trees.{Elems, size, tree}
use Rattle.syntax.specs.declared.trees.Tree.{Tree}
use Rattle.syntax.specs.Views.{tree_of}
use Rattle.fragments.specs.declared.forms.Side.TheVariants as side
use Rattle.fragments.specs.Pairs as pairs
use Rattle.paths.specs.Steps.{SideTree}
use Rattle.rules.specs.declared.numbering.Rule.{Rule}
use Rattle.rule_paths.specs.RulePaths.{tree_at, template_form}
use Rattle.rule_paths.specs.Needs.{PairedRule, paired}
use Rattle.captures.specs.Attempts.{Attempt, failed}
use Rattle.matcher.specs.Matcher.{Matcher, matcher_of}
use Rattle.matcher.specs.declared.Matcher as declared
use Rattle.trees.specs.declared.File.{File as Accepted}
use Rattle.checks.specs.declared.Rules.{Rules}
use Rattle.checks.specs.Given.{file_in, found_rule}
use Rattle.rule_match.specs.Ready.{form_matcher}
use Rattle.rule_match.specs.RuleMatch.{calls, attempt_of}
use Rattle.candidates.specs.Candidates.{Candidate}
use Rattle.walk_nodes.specs.WalkCandidates.{nodes_of, walk_candidates, accepted}
use Rattle.walk_nodes.specs.Finds.{Finds, FindsNodes, attempts}
use Rattle.walk_nodes.proofs.CandidateLaws.{below, below_none, below-same, below-rule, walk_none, walk_more, walk_up}

-- ---- the rule of a number

module _ (q : Rules) (file : Accepted) (range : Option Range) (number : ℕ) (before : List Candidate) where
  abbrev root : Elems
  root = tree file.tree.words.now

  abbrev attempt : ℕ → ℕ → Attempt
  attempt = attempt_of q (file_in file) range

  -- nothing matches with a rule that is not there
  nothing : ((e : ℕ) → attempt e number ≡ failed) → (n : ℕ) → below attempt root number n ≡ []
  nothing h zero = below_none attempt root number
  nothing h (suc n) = ap (below attempt root number) (sym (add-one n)) ∙ below-same attempt root number n (rw (h n, and-false _)) ∙ nothing h n

  pub finds_none : None ≡ option_map (paired q) (found_rule q number) → before ≡ before ++ accepted attempt (nodes_of root number)
  finds_none e = go (found_rule q number) refl e
    where
      go : (r : Option Rule) → found_rule q number ≡ r → None ≡ option_map (paired q) r → before ≡ before ++ accepted attempt (nodes_of root number)
      go None f k = rw (nothing (λ i. rw f) (size root)) (sym (append-nil before))
      go (Some r) f k = absurd cc

  -- the attempts of a rule that is there are those of what was made ready
  pub finds_found : (x : PairedRule) (m : declared.Matcher) (pattern : Tree) (template : Option SideTree) {A : Type 0} (result : Option A) (found : List Candidate)
      → Some x ≡ option_map (paired q) (found_rule q number)
      → matcher_of m ≡ form_matcher x.pair x.rule.form (file_in file) → m.tree ≡ file.tree
      → pattern.words.now ≡ pairs.tree_of side.Pattern x.rule.form x.pair
      → template ≡ option_map (tree_at x.pair side.Template) (template_form x.rule.form x.rule.template)
      → FindsNodes (matcher_of m) (length pattern.words.now + length m.tree.words.now) (tree_of pattern) template range number before result found
      → Finds (before ++ accepted attempt (nodes_of root number)) result found
  finds_found x m pattern template result found e em et ep en g = go (found_rule q number) refl e
    where
      n : ℕ
      n = calls x.pair x.rule.form (file_in file)

      tried : ℕ → ℕ → Attempt
      tried = attempts n (matcher_of m) (tree_of pattern) template range

      go : (r : Option Rule) → found_rule q number ≡ r → Some x ≡ option_map (paired q) r → Finds (before ++ accepted attempt (nodes_of root number)) result found
      go None f k = absurd cc
      go (Some r) f k =
          let s : x ≡ paired q r = cc in
          let ef : m.facts.now ≡ file.facts = ap (λ (y : Matcher). y.facts) em in
          let same : (i : ℕ) → tried i number ≡ attempt i number = λ i. rw (em, et, ep, en, ef, s, f) in
          let t : (matcher_of m).tree ≡ root = rw et in
          subst (λ (l : List Candidate). Finds (before ++ l) result found)
          (ap (λ (z : Elems). accepted tried (nodes_of z number)) t ∙ below-rule tried attempt root number (size root) same)
          (g.finds n (omega (arith, ap length ep, ap (λ (z : Tree). length z.words.now) et)))

-- ---- rule by rule

module _ (attempt : ℕ → ℕ → Attempt) (t : Elems) (before : List Candidate) where
  abbrev walked : ℕ → List Candidate
  walked rules = before ++ accepted attempt (walk_candidates t rules)

  pub walk_starts : before ≡ walked 0
  walk_starts = rw (walk_none attempt t) (sym (append-nil before))

  more : (rules : ℕ) → walked (rules + 1) ≡ walked rules ++ accepted attempt (nodes_of t rules)
  more rules = rw (walk_more attempt t rules) (sym (append_assoc before _ _))

  module _ (rules : ℕ) (found : List Candidate) (so_far : found ≡ walked rules) where
    pub walk_goes_on : (found' : List Candidate) → found' ≡ found ++ accepted attempt (nodes_of t rules) → found' ≡ walked (rules + 1)
    walk_goes_on found' f = f ∙ rw so_far (sym (more rules))

    -- more were found than have room
    pub walk_many : {A : Type 0} (r : Option A) (all : ℕ) (found' : List Candidate) → r ≡ None → rules < all → Finds (found ++ accepted attempt (nodes_of t rules)) r found' → Finds (walked all) r found'
    walk_many None all found' e less f =
        let m : length (walked (rules + 1)) ≡ length (found ++ accepted attempt (nodes_of t rules)) =
        ap length (more rules ∙ ap (λ (l : List Candidate). l ++ accepted attempt (nodes_of t rules)) (sym so_far)) in
        omega (
          arith,
          m,
          f,
          length-append before (accepted attempt (walk_candidates t (rules + 1))),
          length-append before (accepted attempt (walk_candidates t all)),
          walk_up attempt t (rules + 1) all (omega arith),
        )
    walk_many (Some done) all found' e less f = absurd cc
