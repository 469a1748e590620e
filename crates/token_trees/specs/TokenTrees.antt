-- `attempt_match_token_tree` of docs/src/src/matching.rs; document 01: "Token trees call themselves." The number bounds the calls; more than
-- all elements below both nodes is enough, and more changes nothing.
-- Assumes nothing.
use Rattle.std.specs.Prelude.{ℕ, zero, suc, ◌+◌, ◌*◌, ◌<◌, cond, not, List, [], ◌∷◌, Option, length, unwrap_or, option_map}
use Rattle.syntax.specs.Trees.{Elems}
use Rattle.syntax.specs.Accessors.{children, rest, some}
use Rattle.syntax.specs.Siblings.{is_a_node, is_a_token, is_trivia, skip_trivia}
use Rattle.syntax.specs.Views.{elems_of}
use Rattle.syntax.specs.declared.parts.Part.{Part}
use Rattle.captures.specs.declared.SelfKind.TheVariants.{Owned}
use Rattle.captures.specs.Attempts.{Bound, Attempt, failed, matched, and_then, given}
use Rattle.captures.specs.Effects.{binding, Gives}
use Rattle.captures.specs.declared.State.{State}
use Rattle.matcher.specs.Matcher.{Matcher, placeholder_of}
use Rattle.matcher.specs.Tokens.{matches_token, after_token, note}
use Rattle.token_trees.specs.Runs.{Run, is_at_tree, run, behind_run}

-- the placeholder is bound to its run; no constraint is looked at here
abbrev pub capture : ℕ → Elems → Run → Attempt
capture slot c u = matched (Bound slot (binding c u.last 0 Owned) ∷ [])

unfoldable mutual
  -- two nodes, "whatever the kinds"
  pub match_token_tree : ℕ → Matcher → Elems → Elems → Attempt
  match_token_tree zero x p c = failed
  match_token_tree (suc n) x p c = match_tokens n x (children p) (children c)

  -- what is left of the pattern and of the code
  pub match_tokens : ℕ → Matcher → Elems → Elems → Attempt
  match_tokens zero x ps cs = failed
  match_tokens (suc n) x ps cs =
      cond (some cs)
      (unwrap_or (option_map (λ slot. match_run n x slot cs (run x.code x.text (rest (skip_trivia ps)) cs)) (placeholder_of x (skip_trivia ps)))
      (cond (is_trivia cs) (and_then (note x.text cs) (match_tokens n x (skip_trivia ps) (rest cs)))
      (cond (is_a_token cs)
      (and_then (given (matches_token x.sheet x.code x.text (skip_trivia ps) cs)) (match_tokens n x (after_token x.sheet (skip_trivia ps) cs) (rest cs)))
      (and_then (given (is_a_node (skip_trivia ps))) (and_then (match_token_tree n x (skip_trivia ps) cs) (match_tokens n x (rest (skip_trivia ps)) (rest cs)))))))
      (given (not (some (skip_trivia ps))))

  -- a placeholder's run: "We have a subtree that starts with the next token in our pattern", matched before the placeholder is bound
  pub match_run : ℕ → Matcher → ℕ → Elems → Run → Attempt
  match_run zero x slot c u = failed
  match_run (suc n) x slot c u =
      and_then (cond (is_at_tree u) (match_token_tree n x (skip_trivia u.pattern) u.code) (matched []))
      (and_then (capture slot c u) (match_tokens n x (behind_run u) (rest u.code)))

-- An answer and a buffer are right for what is left, for two nodes, and for a placeholder's run, at each bound that is enough.
pub record TokensGive (x : Matcher) (p c : Part) (s : State) (out : List ℕ) (r : Option State) (out' : List ℕ) : Type 0 where
  pub gives : (n : ℕ) → 3 * (length p.words.now + length c.words.now) + 1 < n → Gives (match_tokens n x (elems_of p) (elems_of c)) s out r out'

pub record TokenTreeGives (x : Matcher) (p c : Part) (s : State) (out : List ℕ) (r : Option State) (out' : List ℕ) : Type 0 where
  pub gives : (n : ℕ) → 3 * (length p.words.now + length c.words.now) < n → Gives (match_token_tree n x (elems_of p) (elems_of c)) s out r out'

pub record RunGives (x : Matcher) (slot : ℕ) (p c : Part) (s : State) (out : List ℕ) (r : Option State) (out' : List ℕ) : Type 0 where
  pub gives : (n : ℕ) → 3 * (length p.words.now + length c.words.now) < n → Gives (match_run n x slot (elems_of c) (run x.code x.text (rest (elems_of p)) (elems_of c))) s out r out'
