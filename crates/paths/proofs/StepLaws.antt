-- What resolving does at an element, by the tests that the code makes.
-- Assumes nothing.
use mathlib.Core.Path.{◌≡◌, sym, ◌∙◌}
use mathlib.Core.Bool.{true, false, false≢true}
use mathlib.Core.List.{List}
use Prim.Native.Nat.{ℕ}
use lib.ListN.{length}
use Rattle.words.proofs.TestLaws.{low_or}
use Rattle.syntax.specs.Trees.{Elems, elems}
use Rattle.syntax.specs.Accessors.{children, number_of, node_in}
use Rattle.syntax.proofs.AccessorLaws.{number_is, node_none}
use Rattle.paths.specs.Names.{is_self, contains_type_arguments, contains_placeholder}
use Rattle.paths.specs.Steps.{Side, path_place, by_fact, step}
use Rattle.paths.specs.declared.resolving.Step.TheVariants.{Skips, Enters}

-- the number of a node of some kinds
pub number_in : (low high i : ℕ) (l : List ℕ) → node_in low high (elems i l) ≡ true → number_of (elems i l) ≡ i
number_in low high i l h =
    low_or (length l) 3 (λ s. absurd (false≢true (sym (node_none low high i l s) ∙ h))) (λ k. number_is i l k)

module _ (x : Side) (c : Elems) where
  pub step_other : node_in 2 2 c ≡ false → step x c ≡ Enters
  unfolding step
  step_other h = rw h

  module _ (path : node_in 2 2 c ≡ true) where
    pub step_self : is_self c ≡ true → step x c ≡ Skips
    unfolding step
    step_self s = rw (path, s)

    pub step_arguments : is_self c ≡ false → contains_type_arguments (children c) ≡ true → step x c ≡ Enters
    unfolding step
    step_arguments s t = rw (path, s, t)

    module _ (s : is_self c ≡ false) (t : contains_type_arguments (children c) ≡ false) where
      pub step_stand_in : contains_placeholder x.placeholders x.code c ≡ true → step x c ≡ Enters
      unfolding step
      step_stand_in p = rw (path, s, t, p)

      pub step_fact : contains_placeholder x.placeholders x.code c ≡ false → step x c ≡ by_fact x.facts (path_place x.facts (number_of c))
      unfolding step
      step_fact p = rw (path, s, t, p)
