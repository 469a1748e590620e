-- What is asked: a node of the file and a range, the stages before the match, and the used part of the buffer.
-- Assumes nothing.
use mathlib.Core.Path.{◌≡◌, refl, sym, ◌∙◌}
use mathlib.Core.Bool.{true, false, and-false}
use mathlib.Core.List.{List, [], ◌∷◌, ◌++◌}
use Prim.Native.Nat.{ℕ, ◌≤◌}
use lib.ListN.{length, take, drop}
use Rattle.std.proofs.Common.{Option, Some, None, option_map, Result, Err}
use Rattle.errors.specs.Refusals.{ok, err}
use Rattle.errors.specs.declared.Refusal.{Refusal}
use Rattle.errors.specs.declared.Refusal.TheVariants.{NoSuchNodeOrRule}
use Rattle.errors.specs.Refusals.{first_of, in_turn}
use Rattle.errors.proofs.Laws.{turn_last}
use Rattle.words.specs.declared.texts.Range.{Range}
use Rattle.words.specs.Buffer.{used_of, filled}
use Rattle.words.proofs.BufferLaws.{used_all, part_filled}
use Rattle.captures.specs.declared.State.{State}
use Rattle.captures.specs.Effects.{nothing, Gives}
use Rattle.captures.specs.Attempts.{Attempt}
use Rattle.answers.specs.declared.NodeMatch.{NodeMatch}
use Rattle.answers.specs.Answers.{answer_of, bytes_of}
use Rattle.rules.specs.declared.numbering.Rule.{Rule}
use Rattle.rule_paths.specs.Needs.{PairedRule, paired}
use Rattle.checks.specs.declared.Rules.{Rules}
use Rattle.checks.specs.Given.{File, found_rule, is_node_of, is_reversed}
use Rattle.rule_paths.specs.Accepted.{to_resolve}
use Rattle.rule_paths.proofs.AcceptedLaws.{turns_pass, turns_refuse}
use Rattle.rule_match.specs.RuleMatch.{rule_match, found_match}
use Rattle.match_node.specs.MatchNode.{asked_outcome, match_outcome, bytes_by, matched_node, buffer_after, Answered}

-- ---- 23

module _ (q : Rules) (f : File) (number : ℕ) (range : Option Range) (node : ℕ) (out : List ℕ) (r : Result (Option NodeMatch) Refusal) (out' : List ℕ) where
  module _ (er : r ≡ Err NoSuchNodeOrRule) (eo : out' ≡ filled out []) where
    pub no_rule : None ≡ option_map (paired q) (found_rule q number) → Answered q f number range node out r out'
    unfolding first_of
    no_rule e = go (found_rule q number) refl e
      where
        go : (found : Option Rule) → found_rule q number ≡ found → None ≡ option_map (paired q) found → Answered q f number range node out r out'
        go None k m = record { value = er ∙ rw k; out_after = eo ∙ rw k }
        go (Some rule) k m = absurd cc

    module _ (x : PairedRule) (there : Some x ≡ option_map (paired q) (found_rule q number)) where
      pub bad_range : true ≡ is_reversed range → Answered q f number range node out r out'
      unfolding first_of
      bad_range e = go (found_rule q number) refl there
        where
          go : (found : Option Rule) → found_rule q number ≡ found → Some x ≡ option_map (paired q) found → Answered q f number range node out r out'
          go None k m = absurd cc
          go (Some rule) k m = record { value = er ∙ rw (k, ← e, and-false (is_node_of f node)); out_after = eo ∙ rw (k, ← e, and-false (is_node_of f node)) }

      pub no_node : false ≡ is_node_of f node → Answered q f number range node out r out'
      unfolding first_of
      no_node e = go (found_rule q number) refl there
        where
          go : (found : Option Rule) → found_rule q number ≡ found → Some x ≡ option_map (paired q) found → Answered q f number range node out r out'
          go None k m = absurd cc
          go (Some rule) k m = record { value = er ∙ rw (k, ← e); out_after = eo ∙ rw (k, ← e) }

  -- the match is made
  pub is_asked : (x : PairedRule) (state : Option State) (mid : List ℕ) → Some x ≡ option_map (paired q) (found_rule q number) → false ≡ is_reversed range → true ≡ is_node_of f node
      → Gives (rule_match x.pair x.rule f range node) nothing out state mid
      → ((a : Attempt) (before : List ℕ) → Gives a nothing before state mid → r ≡ answer_of (length before) a)
      → ((a : Attempt) (before : List ℕ) → Gives a nothing before state mid → out' ≡ filled before (bytes_of (length before) a))
      → Answered q f number range node out r out'
  unfolding first_of
  is_asked x state mid there ranged is gives value after = go (found_rule q number) refl there
    where
      go : (found : Option Rule) → found_rule q number ≡ found → Some x ≡ option_map (paired q) found → Answered q f number range node out r out'
      go None k m = absurd cc
      go (Some rule) k m =
          let s : x ≡ paired q rule = cc in
          let g = rw s at gives in
          record { value = value (rule_match (paired q rule).pair (paired q rule).rule f range node) out g ∙ rw (k, ← ranged, ← is); out_after = after (rule_match (paired q rule).pair (paired q rule).rule f range node) out g ∙ rw (k, ← ranged, ← is) }

  -- ---- the stages before

  pub match_asked : (q' : Rules) (f' : File) → (q' ≡ q) × (f' ≡ f) → ok ≡ in_turn (to_resolve q f) → length out ≤ 1048576 → Answered q' f' number range node out r out'
      → (r ≡ matched_node q f number range node (length out)) × (out' ≡ buffer_after q f number range node out)
  match_asked q' f' same h few given =
      let a : Answered q f number range node out r out' = rw (same.0, same.1) at given in
      let asked = asked_outcome (found_rule q number) f range node in
      let e : match_outcome q f number range node ≡ asked = turns_pass (to_resolve q f) (asked ∷ []) (sym h) ∙ turn_last asked in
      (a.value ∙ sym (rw e), a.out_after ∙ sym (rw (e, used_all (length out) few)))

  pub match_refused : (refusal : Refusal) → err refusal ≡ in_turn (to_resolve q f) → r ≡ Err refusal → out' ≡ filled out []
      → (r ≡ matched_node q f number range node (length out)) × (out' ≡ buffer_after q f number range node out)
  match_refused refusal h er eo =
      let e : match_outcome q f number range node ≡ err refusal = turns_refuse (to_resolve q f) (asked_outcome (found_rule q number) f range node ∷ []) refusal (sym h) in
      (er ∙ sym (rw e), eo ∙ sym (rw e))

-- ---- the used part of a buffer

pub buffer_part : (q : Rules) (f : File) (number : ℕ) (range : Option Range) (node : ℕ) (d e : List ℕ) → e ≡ buffer_after q f number range node (take (used_of (length d)) d)
    → e ++ drop (used_of (length d)) d ≡ buffer_after q f number range node d
buffer_part q f number range node =
    part_filled (λ n. bytes_by (match_outcome q f number range node) n (found_match q f (found_rule q number) range node))
