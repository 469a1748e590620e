-- What the functions that find candidates promise.
-- Assumes nothing.
use Rattle.std.specs.Prelude.{ℕ, ◌+◌, ◌*◌, ◌<◌, ◌≡◌, Bool, ◌&&◌, List, ◌++◌, Option, Some, None, length}
use Rattle.words.specs.declared.texts.Range.{Range}
use Rattle.syntax.specs.Trees.{Elems}
use Rattle.syntax.specs.Accessors.{element_at, by_itself, node_in}
use Rattle.captures.specs.Attempts.{Attempt}
use Rattle.candidates.specs.Candidates.{Candidate}
use Rattle.paths.specs.Steps.{SideTree}
use Rattle.matcher.specs.Matcher.{Matcher}
use Rattle.get_match.specs.Templates.{renders_given}
use Rattle.get_match.specs.GetMatch.{try_match}
use Rattle.walk_nodes.specs.WalkCandidates.{nodes_of, is_match, accepted}

-- all that match were found, unless they are more than 1,024
abbrev pub Finds : {A : Type 0} → List Candidate → Option A → List Candidate → Type 0
Finds cs (Some done) found = found ≡ cs
Finds cs None found = 1024 < length cs

-- the attempts of the file's nodes with a rule, by its pattern and its template
abbrev pub attempts : ℕ → Matcher → Elems → Option SideTree → Option Range → ℕ → ℕ → Attempt
attempts n x root template range e rule = try_match n x root range (by_itself (element_at e x.tree)) (renders_given template x.facts e)

-- at each bound that is enough for so many words: whether an element is a node that matches
pub record IsMatch (x : Matcher) (words : ℕ) (root : Elems) (template : Option SideTree) (range : Option Range) (e : ℕ) (r : Bool) : Type 0 where
  pub is : (n : ℕ) → 5 * words + 2 < n → r ≡ (node_in 1 4095 (element_at e x.tree) && is_match (attempts n x root template range e 0))

-- and the nodes that match with the rule of a number, behind the candidates that were found before
pub record FindsNodes (x : Matcher) (words : ℕ) (root : Elems) (template : Option SideTree) (range : Option Range) (rule : ℕ) (before : List Candidate) {A : Type 0} (r : Option A)
    (found : List Candidate) : Type 0 where
  pub finds : (n : ℕ) → 5 * words + 2 < n → Finds (before ++ accepted (attempts n x root template range) (nodes_of x.tree rule)) r found
