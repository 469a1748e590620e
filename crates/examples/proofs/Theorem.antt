-- Every example of the table has the answer that it names, by computation. Of a match and of a job the stages that may refuse are computed
-- first, and then the rest. Trees of the same words, as those of I's pattern and template, are decoded once.
-- Assumes nothing.
use mathlib.Core.Path.{◌≡◌, refl}
use mathlib.Core.List.{[], ◌∷◌, ◌++◌}
use lib.ListN.{replicate}
use Rattle.std.specs.List.{AllByRecursion}
use Rattle.errors.specs.Refusals.{lowest, first_of, in_turn}
use Rattle.words.specs.Texts.{part}
use Rattle.tokens.specs.Tokens.{tokens_from, is_token_list, all_token_words, total_length}
use Rattle.parsing.specs.Reading.{reading, run, has_name, vars}
use Rattle.rust_code.specs.RawCode.{raw_code, trim_start, trim_end}
use Rattle.syntax.specs.Trees.{size, depth, words, tiles, formed, is_tree_of}
use Rattle.trees.specs.Given.{with_facts}
use Rattle.syntax.specs.Accessors.{has_element, find_node, first_token, only_ident, or_else, element_at, ancestors}
use Rattle.facts.specs.Facts.{facts_of, are_fact_words, are_facts, fact_index, has_repeated, has_gap, is_fact_list}
use Rattle.fragments.specs.Directory.{before, are_rows, total, is_directory}
use Rattle.fragments.specs.Pairs.{pairs_from, pair_behind}
use Rattle.rules.specs.Forms.{passing}
use Rattle.rules.specs.Numbering.{rules_from}
use Rattle.rules.specs.Stages.{stage_outcome}
use Rattle.checks.specs.Given.{given_outcome}
use Rattle.paths.specs.Names.{contains_type_arguments, contains_placeholder}
use Rattle.paths.specs.Steps.{step}
use Rattle.paths.specs.Resolved.{is_unresolved, resolved_paths, claims, last_note}
use Rattle.rule_paths.specs.RulePaths.{pair_fails}
use Rattle.syntax.specs.Siblings.{skip_tokens}
use Rattle.captures.specs.Attempts.{and_then, comments}
use Rattle.captures.specs.Effects.{recorded}
use Rattle.matcher.specs.FileFacts.{derefs_from}
use Rattle.prepared.specs.Placeholders.{all_hold, constraints_of}
use Rattle.matching.specs.Matching.{match_node, match_by_kind, match_sequences, match_opt, match_path, match_segments, match_method_call, match_receiver, match_arguments}
use Rattle.candidates.specs.Candidates.{candidates_of, has, any_bad, is_twice, each}
use Rattle.parses.specs.Ranges.{ranges_of, are_ranges}
use Rattle.parses.specs.Parses.{parts_from, is_repeated}
use Rattle.parentheses.specs.Parentheses.{has_range, requires, wrapped}
use Rattle.nester.specs.Matches.{matches}
use Rattle.nester.specs.Nest.{come, nest}
use Rattle.nester.specs.Places as places
use Rattle.nester.specs.Places.{insert, items}
use Rattle.templates.specs.Pieces.{tokens_of, render}
use Rattle.rendering.specs.Texts.{parts_of}
use Rattle.rendering.specs.Traces.{◌then◌, traces_of, match_trace, filled_trace}
use Rattle.edits.specs.Traces.{list_trace}
use Rattle.examples.specs.Table.{answered, template_in, search_H, search_J, replacement_I, job_I, replacement_K, job_K, replacement_M, replacement_M_old, job_M, digit, placeholder_of, replacement_ranges, job_ranges, replacement_rules, job_rules, parse_of, range_at, replacement_nested, job_nested, examples}
use Rattle.examples.proofs.Decoding.{tree_is}
use Rattle.examples.proofs.Searching.{searched_by}
use Rattle.examples.proofs.Jobs.{rule, done_by}

infixr 5 ◌and◌
◌and◌ : {A B : Type 0} → A → B → A × B
a and b = (a, b)

-- in every row the definition gives the answer named
pub starred : AllByRecursion (λ e. answered e.question ≡ e.answer) examples
unfolding lowest first_of in_turn part tokens_from is_token_list all_token_words total_length reading run has_name vars
    raw_code trim_start trim_end size depth words tiles formed is_tree_of has_element find_node first_token only_ident or_else element_at ancestors with_facts
    facts_of are_fact_words are_facts fact_index has_repeated has_gap is_fact_list before are_rows total is_directory pairs_from pair_behind passing rules_from
    stage_outcome given_outcome pair_fails contains_type_arguments contains_placeholder step is_unresolved resolved_paths claims last_note skip_tokens and_then
    comments recorded derefs_from all_hold constraints_of match_node match_by_kind match_sequences match_opt match_path match_segments match_method_call
    match_receiver match_arguments candidates_of has any_bad is_twice each ranges_of are_ranges parts_from is_repeated has_range requires wrapped matches come
    nest places.before insert items tokens_of render parts_of ◌then◌ traces_of match_trace filled_trace list_trace
starred =
    refl
    and refl
    and refl
    and refl
    and refl
    and refl
    and refl
    and searched_by search_H (rw (tree_is search_H.pattern.tree, tree_is search_H.file.words)) (rw (tree_is search_H.pattern.tree))
    and done_by job_I (rule 0 ∷ []) (replicate 19 0) (rw (tree_is replacement_I.pattern.tree, tree_is job_I.file.words))
    (rw (tree_is replacement_I.pattern.tree))
    and done_by job_I (rule 0 ∷ []) (replicate 18 0) (rw (tree_is replacement_I.pattern.tree, tree_is job_I.file.words))
    (rw (tree_is replacement_I.pattern.tree))
    and searched_by search_J (rw (tree_is search_J.pattern.tree, tree_is search_J.file.words)) (rw (tree_is search_J.pattern.tree))
    and done_by job_K (rule 0 ∷ []) (replicate 25 0)
    (rw (tree_is replacement_K.pattern.tree, tree_is (template_in replacement_K).tree, tree_is job_K.file.words))
    (rw (tree_is replacement_K.pattern.tree))
    and done_by job_M (rule 0 ∷ rule 1 ∷ []) (replicate 22 0)
    (rw (
      tree_is replacement_M.pattern.tree,
      tree_is (template_in replacement_M).tree,
      tree_is replacement_M_old.pattern.tree,
      tree_is (template_in replacement_M_old).tree,
      tree_is job_M.file.words,
    ))
    (rw (tree_is replacement_M.pattern.tree, tree_is replacement_M_old.pattern.tree))
    and done_by job_ranges (rule 0 ∷ rule 1 ∷ []) (replicate 14 0)
    (rw (
      tree_is replacement_ranges.pattern.tree,
      tree_is (template_in replacement_ranges).tree,
      tree_is (placeholder_of 10 99).tree,
      tree_is (digit 10 49).tree,
      tree_is job_ranges.file.words,
    ))
    (rw (tree_is replacement_ranges.pattern.tree, tree_is (placeholder_of 10 99).tree))
    and done_by job_rules (rule 0 ∷ rule 1 ∷ rule 2 ∷ []) (replicate 14 0)
    (rw (tree_is replacement_rules.pattern.tree, tree_is (template_in replacement_rules).tree, tree_is (digit 10 49).tree))
    (rw (tree_is replacement_rules.pattern.tree, tree_is (digit 10 49).tree))
    and done_by (job_nested [] []) (rule 0 ∷ rule 1 ∷ []) (replicate 14 0)
    (rw (
      tree_is replacement_nested.pattern.tree,
      tree_is (template_in replacement_nested).tree,
      tree_is (digit 66 49).tree,
      tree_is (job_nested [] []).file.words,
    ))
    (rw (tree_is replacement_nested.pattern.tree, tree_is (digit 66 49).tree))
    and done_by (job_nested (parse_of 66 1 0 1 ++ range_at 0 1) (50 ∷ [])) (rule 0 ∷ rule 1 ∷ []) (replicate 14 0)
    (rw (
      tree_is replacement_nested.pattern.tree,
      tree_is (template_in replacement_nested).tree,
      tree_is (digit 66 49).tree,
      tree_is (job_nested [] []).file.words,
    ))
    (rw (tree_is replacement_nested.pattern.tree, tree_is (digit 66 49).tree))
    and tt
