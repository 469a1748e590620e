-- The first sixteen rules, pair by pair.
-- Assumes nothing.
use Rattle.std.proofs.Common.{◌≡◌, refl, sym, ap, ◌∙◌, List, [], ◌∷◌, ◌++◌, map, ℕ, zero, suc, ◌+◌, ◌≤◌, length, take, append_assoc, append-nil, arith}
use Rattle.std.proofs.lemmas.List.{length-take}
use Rattle.std.proofs.Math.Seq.{take-append_seam, take_all}
use Rattle.fragments.specs.Pairs.{Pair}
use Rattle.rules.specs.Forms.{forms_left}
use Rattle.rules.specs.Numbering.{rule_of, rules_from}
use Rattle.rules.specs.declared.numbering.Rule.{Rule}
use Rattle.rules.proofs.RuleLaws.{rules_none, rules_cons}

-- ---- the first sixteen of a list that is made piece by piece

module _ {X : Type 0} (all : List X) where
  -- what is cut off behind the first n does not count
  take_cut : (n : ℕ) (l m : List X) → take n (take n l ++ m) ≡ take n (l ++ m)
  take_cut zero l m = refl
  take_cut (suc n) [] m = refl
  take_cut (suc n) (x ∷ l) m = ap (λ (r : List X). x ∷ r) (take_cut n l m)

  -- one more behind those that were added
  pub one_more : (l : List X) (x : X) (m : List X) → take 16 (l ++ x ∷ m) ≡ all → take 16 ((l ++ x ∷ []) ++ m) ≡ all
  one_more l x m h = ap (take 16) (append_assoc l (x ∷ []) m) ∙ h

  -- sixteen are all
  pub no_room : (l m : List X) → length l ≡ 16 → take 16 (l ++ m) ≡ all → l ≡ all
  no_room l m e h = sym (take-append_seam l m) ∙ rw e h

  -- and so are those behind which none is left
  pub all_added : (l : List X) → length l ≤ 16 → take 16 (l ++ []) ≡ all → l ≡ all
  all_added l f h = sym (take_all 16 l f) ∙ ap (take 16) (sym (append-nil l)) ∙ h

-- ---- pair by pair

module _ (all l : List Rule) (n : ℕ) where
  pub pair_added : (p : Pair) (ps : List Pair) → take 16 (l ++ rules_from n (p ∷ ps)) ≡ all → take 16 (take 16 (l ++ map (rule_of n p) (forms_left p)) ++ rules_from (n + 1) ps) ≡ all
  pair_added p ps h =
      take_cut all 16 (l ++ map (rule_of n p) (forms_left p)) (rules_from (n + 1) ps)
      ∙ ap (take 16) (append_assoc l (map (rule_of n p) (forms_left p)) (rules_from (n + 1) ps))
      ∙ (rw (rules_cons n p ps) at h)

  pub pairs_added : length l ≤ 16 → take 16 (l ++ rules_from n []) ≡ all → l ≡ all
  pairs_added f h = all_added all l f (rw (rules_none n) at h)

pub length_first : (l : List Rule) → length (take 16 l) ≤ 16
length_first l = omega (arith, length-take 16 l)
