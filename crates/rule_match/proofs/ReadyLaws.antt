-- The matcher of a rule made ready is the rule's.
-- Assumes nothing.
use Rattle.std.proofs.Common.{◌≡◌, Bool, List, ℕ, Option, slice_get}
use Rattle.std.specs.Prelude.{option_and_then}
use mathlib.Core.Path.{fun_ext}
use Rattle.syntax.specs.Trees.{Elems, tree}
use Rattle.facts.specs.declared.Call.{Call}
use Rattle.rule_paths.specs.Needs.{PairedRule}
use Rattle.paths.specs.Steps.{SideTree}
use Rattle.matcher.specs.declared.token_matching.Skip.{Skip}
use Rattle.matcher.specs.declared.marks.Mark.{Mark}
use Rattle.matcher.specs.declared.marks.Limit.{Limit}
use Rattle.matcher.specs.Marks.{slot_in, path_in, call_in}
use Rattle.matcher.specs.Matcher.{Matcher, allows_in}
use Rattle.matcher.specs.Tokens.{comma_sheet}
use Rattle.checks.specs.Given.{File}
use Rattle.rule_match.specs.Ready.{Ready, form_matcher}

-- the matcher of what the code has of a rule
abbrev made : List ℕ → List ℕ → Elems → List ℕ → List Skip → (ℕ → Option ℕ) → (ℕ → Bool → Bool) → (ℕ → Option ℕ) → (ℕ → Option Call) → Matcher
made code text root facts sheet slots allows paths calls = record {
  code = code;
  text = text;
  tree = root;
  facts = facts;
  sheet = sheet;
  slot_at = slots;
  allows = allows;
  path_at = paths;
  call_at = calls;
}

module _ (x : PairedRule) (f : File) (pattern code : List ℕ) (marks : List Mark) (limits : List Limit) (template : Option SideTree) (ready : Ready x pattern code marks limits template) where
  pub matcher_is : made code f.text (tree f.words) f.facts comma_sheet (λ e. option_and_then slot_in (slice_get marks e)) (λ slot b. allows_in limits slot b)
      (λ e. option_and_then path_in (slice_get marks e)) (λ e. option_and_then call_in (slice_get marks e)) ≡ form_matcher x.pair x.rule.form f
  matcher_is = rw (
    ready.code_is,
    (fun_ext (λ e. ready.marked.slots e)),
    (fun_ext (λ slot. fun_ext (λ b. ready.limited slot b))),
    (fun_ext (λ e. ready.marked.paths e)),
    (fun_ext (λ e. ready.marked.calls e)),
  )
