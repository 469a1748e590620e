-- The first three words of a part are its first element without what is below it or follows it.
-- Assumes nothing.
use mathlib.Core.Path.{◌≡◌, refl, sym, ap, ◌∙◌}
use mathlib.Core.Bool.{Bool, true, false}
use mathlib.Core.List.{List, [], ◌∷◌}
use Prim.Native.Nat.{ℕ, min, ◌+◌}
use native.Mathlib.Omega.{arith}
use lib.ListN.{length, take}
use lib.Seq.{take_all}
use Rattle.std.proofs.Math.Nat.{min-eq_left, min-eq_right}
use Rattle.words.specs.Fields.{is_a_token}
use Rattle.words.proofs.TestLaws.{low_or}
use Rattle.syntax.specs.Parts.{span, child_words, rest_words}
use Rattle.syntax.specs.Trees.{Elems, none, token, node, elems}
use Rattle.syntax.specs.Accessors.{by_itself}
use Rattle.syntax.proofs.PartLaws.{rest_shorter, children_shorter}
use Rattle.syntax.proofs.TreeLaws.{elems_end, elems-token, elems_node}
use Rattle.matcher.specs.FileFacts.{alone}

three_by : (i a b c : ℕ) (m : List ℕ) (t : Bool) → is_a_token (a ∷ b ∷ c ∷ m) ≡ t → elems i (a ∷ b ∷ c ∷ []) ≡ alone (elems i (a ∷ b ∷ c ∷ m))
three_by i a b c m true t =
    let l = a ∷ b ∷ c ∷ [] in
    rw (elems-token i l (omega arith) t, elems-token i (a ∷ b ∷ c ∷ m) (omega arith) t, elems_end (i + 1) (rest_words l) (rest_shorter l (omega arith)))
three_by i a b c m false t =
    let l = a ∷ b ∷ c ∷ [] in
    rw (
      elems_node i l (omega arith) t,
      elems_node i (a ∷ b ∷ c ∷ m) (omega arith) t,
      elems_end (i + 1) (child_words l) (children_shorter l (omega arith)),
      elems_end (i + span l) (rest_words l) (rest_shorter l (omega arith)),
    )

three : (i : ℕ) (l : List ℕ) → elems i (take 3 l) ≡ alone (elems i l)
three i [] = rw (elems_end i [] (omega arith))
three i (a ∷ []) = rw (elems_end i (a ∷ []) (omega arith))
three i (a ∷ (b ∷ [])) = rw (elems_end i (a ∷ b ∷ []) (omega arith))
three i (a ∷ (b ∷ (c ∷ m))) = three_by i a b c m (is_a_token (a ∷ b ∷ c ∷ m)) refl

alone_itself : (c : Elems) → alone (by_itself c) ≡ alone c
alone_itself none = refl
alone_itself (token i k s e r) = refl
alone_itself (node i k s e cs r) = refl

take_min : (n : ℕ) (l : List ℕ) → take (min (length l) n) l ≡ take n l
take_min n l =
    low_or n (length l)
    (λ h. let e : min (length l) n ≡ n = min-eq_right (omega arith) in rw e)
    (λ h. let e : min (length l) n ≡ length l = min-eq_left h in rw (e, take_all (length l) l (omega arith), take_all n l h))

pub alone_at : (i k : ℕ) (l : List ℕ) (c : Elems) → k ≡ min (length l) 3 → by_itself (elems i l) ≡ by_itself c → elems i (take k l) ≡ alone c
alone_at i k l c e f = rw (e, take_min 3 l) (three i l ∙ sym (alone_itself (elems i l)) ∙ ap alone f ∙ alone_itself c)

pub no_name : (i : ℕ) → elems i [] ≡ none
no_name i = elems_end i [] (omega arith)
