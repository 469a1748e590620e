-- What is known of an accepted job's file: its text has few bytes, and its tree over that text keeps the laws of nesting.
-- Assumes nothing.
use mathlib.Core.Path.{◌≡◌, refl}
use mathlib.Core.Bool.{true}
use mathlib.Core.List.{List}
use Prim.Native.Nat.{ℕ, ◌≤◌}
use lib.ListN.{length}
use Rattle.errors.specs.Refusals.{ok}
use Rattle.errors.proofs.Laws.{turn_both}
use Rattle.syntax.specs.Trees.{tree}
use Rattle.syntax.specs.Checks.{tree_outcome}
use Rattle.syntax.proofs.CheckLaws.{not_large, passed}
use Rattle.syntax.proofs.Exactly.{tree_built}
use Rattle.facts.specs.declared.Owner.TheVariants.{File}
use Rattle.trees.proofs.GivenLaws.{tree_first}
use Rattle.checks.specs.declared.Rules.{Rules}
use Rattle.checks.specs.Given.{File as Given, given_outcome}
use Rattle.checks.proofs.GivenLaws.{both_accepted}
use Rattle.trees.specs.Given.{file_outcome}
use Rattle.nester.proofs.Lines.{Laws, laws}
use Rattle.job_checks.specs.Checks.{Job, rules_in, tree_in, job_outcome}

-- where what is given is accepted, the file is
file_accepted : (q : Rules) (f : Given) → given_outcome q f ≡ ok → file_outcome f.words f.text f.facts ≡ ok
unfolding given_outcome
file_accepted q f h = (both_accepted q f (turn_both _ _ (turn_both _ _ (turn_both _ _ h).1).1).0).1

tree-keeps : (n : ℕ) (l : List ℕ) → tree_outcome true n l ≡ ok → (n ≤ 65535) × Laws (tree l) n
tree-keeps n l h =
    let p = passed true n l h in
    let q = not_large n l p.large in
    let b = tree_built n l q.1 q.0 p.is in
    (q.1, laws (tree l) n b.numbered b.inside b.good)

pub file-keeps : (j : Job) → job_outcome j ≡ ok → (length j.file.text ≤ 65535) × Laws (tree_in j) (length j.file.text)
file-keeps j h =
    let f = j.file in
    tree-keeps (length f.text) f.words (tree_first File true (length f.text) f.words f.facts 0 _ refl (file_accepted (rules_in j) f (turn_both _ _ h).0))
