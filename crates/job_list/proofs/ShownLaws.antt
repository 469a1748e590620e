-- The rows of a job that passed its checks: what is gathered may be nested, what is nested may be linked, and then the rows show the job's
-- world, whose edit list is the job's.
-- Assumes nothing.
use mathlib.Core.Path.{◌≡◌, refl, sym, ap, subst, ◌∙◌}
use mathlib.Core.Bool.{true, false, not}
use mathlib.Core.List.{List, [], ◌∷◌}
use Prim.Native.Nat.{ℕ, ◌/◌, ◌%◌, ◌≤◌, ◌<◌}
use native.Mathlib.Omega.{arith}
use lib.Dec.{eqb}
use lib.ListN.{length, get_or}
use borrow.Author.Tests.{ne_eqb}
use mathlib.Core.Bool.{true≢false}
use Rattle.syntax.specs.Trees.{tree}
use Rattle.syntax.specs.Checks.{WellFormed}
use Rattle.syntax.proofs.Places.{tree-size}
use Rattle.std.proofs.Common.{is_some}
use Rattle.captures.specs.Attempts.{Attempt, failed, matched, comments_of}
use Rattle.matcher.specs.FileFacts.{module_of}
use Rattle.candidates.specs.Candidates.{has}
use Rattle.candidates.proofs.CandidateLaws.{node_below}
use Rattle.trees.specs.declared.File.{File as Accepted}
use Rattle.parses.specs.Parses.{Parse}
use Rattle.checks.specs.declared.Rules.{Rules}
use Rattle.checks.specs.Given.{File, file_in, found_rule}
use Rattle.nester.specs.declared.Nesting.{Nesting}
use Rattle.nester.specs.declared.Row.{Row}
use Rattle.nester.specs.Matches.{by_element}
use Rattle.nester.specs.Rows.{row_at, unnested, matches_in, IsFresh, Candidates, Held, Nested}
use Rattle.nester.proofs.Lines.{tree_laws}
use Rattle.rows.specs.Rows.{is_inside, NestedBefore}
use Rattle.collections.specs.Links.{unlinked, Linked}
use Rattle.collections.proofs.Theorem.{job_list}
use Rattle.collections.proofs.LinkLaws.{linked_before}
use Rattle.job_list.specs.Told.{has_comments, row_of}
use Rattle.job_list.specs.Gathered.{Gathered}
use Rattle.job_list.proofs.MatchLaws.{shown-matches}
use Rattle.readying.specs.Templates.{found_template}
use Rattle.render_replace.specs.Worlds.{Shown}
use Rattle.job_checks.specs.Checks.{Job, rules_in, tree_in, candidates_in, rule_count}
use Rattle.job_checks.specs.Checked.{Checked}
use Rattle.job_checks.proofs.JobLaws.{checked_formed}
use Rattle.job_answers.specs.Collected.{attempt_in, start_in, end_in, setting_of}
use Rattle.job_answers.proofs.Templates.{checked_template}
use Rattle.job_list.specs.Rows.{world_in, handed_in, RowsOf}
use Rattle.job_list.proofs.KeyLaws.{keys_length, keys_name, keys_apart}

-- ---- the row of an attempt

module _ (n r m : ℕ) where
  is_fresh : (a : Attempt) → IsFresh (row_of n r m a).state
  is_fresh failed = tt
  is_fresh (matched es) = tt

  its_node : (a : Attempt) → (row_of n r m a).node ≡ n
  its_node failed = refl
  its_node (matched es) = refl

  its_rule : (a : Attempt) → (row_of n r m a).rule ≡ r
  its_rule failed = refl
  its_rule (matched es) = refl

  its_end : (a : Attempt) → (row_of n r m a).end ≡ 0
  its_end failed = refl
  its_end (matched es) = refl

  its_module : (a : Attempt) → (row_of n r m a).«module» ≡ m
  its_module failed = refl
  its_module (matched es) = refl

  its_comments : (a : Attempt) → (row_of n r m a).has_comments ≡ has_comments a
  its_comments failed = refl
  its_comments (matched es) = refl

-- an attempt of which it says so has no comments
no_comments : (a : Attempt) → has_comments a ≡ false → comments_of a ≡ []
no_comments a h = by (comments_of a) h
  where
    by : (l : List ℕ) → not (eqb (length l) 0) ≡ false → l ≡ []
    by [] h = refl
    by (x ∷ l) h =
        let e : eqb (length (x ∷ l)) 0 ≡ false = ne_eqb (length (x ∷ l)) 0 (λ e. omega arith) in
        absurd (true≢false (ap not (sym e) ∙ h))

module _ (j : Job) (q : Rules) (file : Accepted) (parses : List Parse) (keys : List ℕ) (checked : Checked j q file parses keys) where
  formed : WellFormed j.file.words
  formed = checked_formed j q file parses keys checked

  abbrev key : ℕ → ℕ
  key k = get_or keys k 0

  -- of its rules and its file
  its_gathered : (rows : List Row) → Gathered q (file_in file) j.range keys rows → Gathered (rules_in j) j.file j.range keys rows
  its_gathered rows gathered =
      subst (λ (f : File). Gathered (rules_in j) f j.range keys rows) checked.file_is
      (subst (λ (p : Rules). Gathered p (file_in file) j.range keys rows) checked.rules_are gathered)

  -- ---- gathered, but not nested yet

  module _ (rows : List Row) (long : length rows ≡ length keys) (gathered : Gathered (rules_in j) j.file j.range keys rows) where
    told : (k : ℕ) → k < length rows → row_at rows k ≡ row_of (key k / 16) (key k % 16) (module_of j.file.facts (key k / 16)) (attempt_in j (key k / 16) (key k % 16))
    told k h = gathered k (omega (arith, long))

    fresh : (k : ℕ) → k < length rows → IsFresh (row_at rows k).state
    fresh k h =
        subst (λ (r : Row). IsFresh r.state) (sym (told k h)) (is_fresh _ _ _ (attempt_in j (key k / 16) (key k % 16)))

    node_told : (k : ℕ) → k < length rows → (row_at rows k).node ≡ key k / 16
    node_told k h = ap (λ (r : Row). r.node) (told k h) ∙ its_node _ _ _ (attempt_in j (key k / 16) (key k % 16))

    rule_told : (k : ℕ) → k < length rows → (row_at rows k).rule ≡ key k % 16
    rule_told k h = ap (λ (r : Row). r.rule) (told k h) ∙ its_rule _ _ _ (attempt_in j (key k / 16) (key k % 16))

    are_candidates : Candidates (tree_in j) rows
    are_candidates = record {
      few = omega (arith, checked.few_candidates, long, keys_length j q file parses keys checked);
      known = λ k h.
          let low = node_below j.file.words (key k / 16) formed ((keys_name j q file parses keys checked).0 k (omega (arith, long))) in
          rw (node_told k h) (omega (arith, low, tree-size j.file.words formed));
      rising = λ a b p l.
          omega (arith, keys_apart j q file parses keys checked a b p (omega (arith, long)), node_told a (omega arith), node_told b l);
      distinct = λ a b p l same-node same-rule.
          omega (
            arith,
            keys_apart j q file parses keys checked a b p (omega (arith, long)),
            node_told a (omega arith),
            node_told b l,
            rule_told a (omega arith),
            rule_told b l,
            same-node,
            same-rule,
          );
    }

    matches_are : matches_in (λ n r. comments_of (attempt_in j n r)) rows ≡ by_element (tree_in j) (rule_count j) (attempt_in j) (has (candidates_in j))
    matches_are =
        shown-matches j.file.words (rule_count j) (attempt_in j) checked.few_rules (module_of j.file.facts) (candidates_in j) keys rows
        formed checked.named checked.once checked.sorted long gathered

    -- ---- nested, and linked

    module _ (mid : List Row) (nested : Nested (tree_in j) rows mid) where
      mid_end : (k : ℕ) → k < length mid → (row_at mid k).end ≡ 0
      mid_end k h =
          ap (λ (r : Row). r.end) (nested.stays k ∙ ap unnested (told k (omega (arith, nested.long))))
          ∙ its_end _ _ (module_of j.file.facts (key k / 16)) (attempt_in j (key k / 16) (key k % 16))

      module _ (all : List Row) (linked : Linked mid all) where
        -- all of a row but its state and its end
        stays : (k : ℕ) → k < length rows → unnested (unlinked (row_at all k))
            ≡ unnested (unlinked (row_of (key k / 16) (key k % 16) (module_of j.file.facts (key k / 16)) (attempt_in j (key k / 16) (key k % 16))))
        stays k h = ap unnested (linked.others k) ∙ ap unlinked (nested.stays k) ∙ ap (λ (r : Row). unnested (unlinked r)) (told k h)

        node_is : (k : ℕ) → k < length rows → (row_at all k).node ≡ key k / 16
        node_is k h = ap (λ (r : Row). r.node) (stays k h) ∙ its_node _ _ (module_of j.file.facts (key k / 16)) (attempt_in j (key k / 16) (key k % 16))

        rule_is : (k : ℕ) → k < length rows → (row_at all k).rule ≡ key k % 16
        rule_is k h = ap (λ (r : Row). r.rule) (stays k h) ∙ its_rule _ _ (module_of j.file.facts (key k / 16)) (attempt_in j (key k / 16) (key k % 16))

        module_is : (k : ℕ) → k < length rows → (row_at all k).«module» ≡ module_of j.file.facts (row_at all k).node
        module_is k h =
            ap (λ (r : Row). r.«module») (stays k h) ∙ its_module (key k / 16) (key k % 16) _ (attempt_in j (key k / 16) (key k % 16))
            ∙ ap (module_of j.file.facts) (sym (node_is k h))

        noted_is : (k : ℕ) → k < length rows → (row_at all k).has_comments ≡ has_comments (attempt_in j (row_at all k).node (row_at all k).rule)
        noted_is k h =
            ap (λ (r : Row). r.has_comments) (stays k h)
            ∙ its_comments (key k / 16) (key k % 16) (module_of j.file.facts (key k / 16)) (attempt_in j (key k / 16) (key k % 16))
            ∙ λ d. has_comments (attempt_in j (sym (node_is k h) d) (sym (rule_is k h) d))

        length-all : length all ≡ length rows
        length-all = linked.long ∙ nested.long

        in_rows : (k : ℕ) → k < length all → k < length rows
        in_rows k h = omega (arith, length-all)

        -- its rule has a template
        template : (k : ℕ) → k < length rows → is_some (found_template (rules_in j) (found_rule (rules_in j) (row_at all k).rule)) ≡ true
        template k h =
            subst (λ (p : Rules). is_some (found_template p (found_rule p (row_at all k).rule)) ≡ true) checked.rules_are
            (checked_template j q file parses keys checked (row_at all k).rule
            (omega (arith, rule_is k h, (keys_name j q file parses keys checked).1 k (omega (arith, long)))))

        state_same : (k : ℕ) → (row_at all k).state ≡ (row_at mid k).state
        state_same k = ap (λ (r : Row). r.state) (linked.others k)

        nested_before : (k : ℕ) → k < length all → NestedBefore (world_in j all) k (row_at all k).end
        nested_before k h slot i l e =
            (linked_before (world_in j mid) all linked k (omega (arith, linked.long))).0 slot i (omega (arith, linked.long))
            (subst (λ (s : Nesting). is_inside k slot s ≡ true) (state_same i) e)

        are_shown : Shown (world_in j all) (handed_in j all)
        are_shown = record {
          reads = refl;
          few = omega (arith, checked.few_candidates, long, keys_length j q file parses keys checked, length-all);
          file = refl;
          starts = λ k h. refl;
          ends = λ k h. refl;
          fragments = λ k h. rw (module_is k (in_rows k h));
          kinds = λ k h. refl;
          comments = λ k h. refl;
          parse = refl;
          nodes = λ k h.
              rw (node_is k (in_rows k h)) ((keys_name j q file parses keys checked).0 k (omega (arith, in_rows k h, long)));
          templates = λ k h. template k (in_rows k h);
          nested = nested_before;
          last = λ k h. omega (arith, (linked_before (world_in j mid) all linked k (omega (arith, linked.long))).1, linked.long);
          bare = λ k h e. no_comments (attempt_in j (row_at all k).node (row_at all k).rule) (sym (noted_is k (in_rows k h)) ∙ e);
        }

        are_rows : RowsOf j all
        are_rows = record {
          shown = are_shown;
          list = λ room.
              job_list (tree_in j) (tree_laws j.file.words formed) (rule_count j) (attempt_in j) (has (candidates_in j))
              (λ n r. comments_of (attempt_in j n r)) (setting_of j) rows mid all are_candidates nested linked matches_are
              (start_in j) (end_in j) room;
        }

  -- ---- of the rules and the file that were accepted

  its_nested : (rows mid : List Row) → Nested (tree file.tree.words.now) rows mid → Nested (tree_in j) rows mid
  its_nested rows mid nested = subst (λ (f : File). Nested (tree f.words) rows mid) checked.file_is nested

  module _ (rows : List Row) (long : length rows ≡ length keys) (gathered : Gathered q (file_in file) j.range keys rows) where
    -- what nesting asks
    pub may_nest : Candidates (tree file.tree.words.now) rows
    may_nest = subst (λ (f : File). Candidates (tree f.words) rows) (sym checked.file_is) (are_candidates rows long (its_gathered rows gathered))

    module _ (mid : List Row) (nested : Nested (tree file.tree.words.now) rows mid) where
      -- what linking asks
      pub may_link : (length mid ≤ 1024) × Held mid (length mid) × ((k : ℕ) → k < length mid → (row_at mid k).end ≡ 0)
      may_link = (
        omega (arith, (are_candidates rows long (its_gathered rows gathered)).few, nested.long),
        subst (Held mid) (sym nested.long) nested.held,
        mid_end rows long (its_gathered rows gathered) mid (its_nested rows mid nested),
      )

      pub rows_of : (all : List Row) → Linked mid all → RowsOf j all
      rows_of all linked = are_rows rows long (its_gathered rows gathered) mid (its_nested rows mid nested) all linked
