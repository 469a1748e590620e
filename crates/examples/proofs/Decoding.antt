-- The decoder of trees, in a form that computes. `decode` has its branches as arguments of `cond`, and antt computes arguments before a call:
-- it would follow all branches at every element. What `let` binds is computed only where it is read.
-- Assumes nothing.
use Prim.Native.Nat.{ℕ, zero, suc, ◌+◌}
use mathlib.Core.Path.{◌≡◌, refl}
use mathlib.Core.Bool.{cond}
use mathlib.Core.List.{List}
use lib.Dec.{ltb}
use lib.ListN.{length}
use Rattle.words.specs.Fields.{is_a_token, syntax_kind, start_of, end_of}
use Rattle.syntax.specs.Parts.{span, child_words, rest_words}
use Rattle.syntax.specs.Trees.{Elems, none, token, node, decode, elems, tree}

abbrev pub decoded : ℕ → ℕ → List ℕ → Elems
decoded zero i l = none
decoded (suc n) i l =
    let a-token = token i (syntax_kind l) (start_of l) (end_of l) (decoded n (i + 1) (rest_words l)) in
    let a-node = node i (syntax_kind l) (start_of l) (end_of l) (decoded n (i + 1) (child_words l)) (decoded n (i + span l) (rest_words l)) in
    let either = cond (is_a_token l) a-token a-node in
    cond (ltb (length l) 3) none either

decode_is : (n i : ℕ) (l : List ℕ) → decode n i l ≡ decoded n i l
unfolding decode
decode_is zero i l = refl
decode_is (suc n) i l = rw (decode_is n (i + 1) (rest_words l), decode_is n (i + 1) (child_words l), decode_is n (i + span l) (rest_words l))

-- of a whole tree
abbrev pub decoded_tree : List ℕ → Elems
decoded_tree l = decoded (length l) 0 l

pub tree_is : (l : List ℕ) → tree l ≡ decoded_tree l
unfolding elems
tree_is l = decode_is (length l) 0 l
