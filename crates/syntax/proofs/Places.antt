-- Where an element of a number stands in the words.
-- Assumes nothing.
use mathlib.Core.Path.{◌≡◌, refl, sym, ap, subst, ◌∙◌}
use mathlib.Core.Logic.{◌⊎◌, inl, inr, ⊎_elim}
use mathlib.Core.Bool.{Bool, true, false, ◌&&◌, false≢true}
use mathlib.Core.List.{List, [], ◌∷◌, ◌++◌, append_assoc, append-nil}
use Prim.Native.Nat.{ℕ, suc, ◌+◌, ◌-◌, ◌*◌, ◌≤◌, ◌<◌}
use native.Mathlib.Omega.{arith}
use lib.ListN.{length, drop, length-append, length-drop, drop_of_length-le}
use lib.Seq.{drop-append-add, drop-drop}
use lib.Dec.{eqb, leb, ltb}
use borrow.Author.Tests.{eqb-true, eqb-false, ne_eqb, leb-true, leb-false, ltb-false}
use Rattle.words.specs.Fields.{word_of, is_a_node, is_a_token, syntax_kind, size_of}
use Rattle.syntax.specs.Trees.{Elems, none, token, node, size, Numbered, words, element_word, elems, tree, tiles, formed}
use Rattle.syntax.specs.Accessors.{children, some, element_at, or_else, node_in, token_in}
use Rattle.syntax.specs.Checks.{WellFormed}
use Rattle.syntax.proofs.Bridge.{length-words}
use Rattle.syntax.proofs.Exactly.{tree_built}
use Rattle.syntax.proofs.AccessorLaws.{node_none, node_token, node_in_lem, token_in_lem, token_node}
use Rattle.syntax.proofs.Words.{token_good, node_good, tiles_order, token_is, token_not, token-kind, node_is, node_not, node_kind, node_size}

-- a well-formed sequence within the limits, numbered from i
pub record Good (i : ℕ) (c : Elems) : Type 0 where
  pub from : ℕ
  pub to : ℕ
  pub inside : tiles from to c ≡ true
  pub good : formed tiles c ≡ true
  pub small : to < 268435456
  pub few : size c < 65536
  pub numbered : Numbered i c

-- no element of a sequence has the number n
abbrev pub Away : ℕ → Elems → Type 0
Away n none = Unit {0}
Away n (token i k s e r) = (i ≡ n → ⊥) × Away n r
Away n (node i k s e cs r) = (i ≡ n → ⊥) × Away n cs × Away n r

-- numbers before and behind a sequence are none of its elements'
pub away : (c : Elems) (i n : ℕ) → Numbered i c → (n < i) ⊎ (i + size c ≤ n) → Away n c
unfolding size
away none i n w h = tt
away (token j k s e r) i n w h = (
  λ q. ⊎_elim (λ a. omega (arith, w.0)) (λ a. omega (arith, w.0)) h,
  away r (i + 1) n w.1 (⊎_elim (λ a. inl (omega arith)) (λ a. inr (omega arith)) h),
)
away (node j k s e cs r) i n w h = (
  λ q. ⊎_elim (λ a. omega (arith, w.0)) (λ a. omega (arith, w.0)) h,
  away cs (i + 1) n w.1 (⊎_elim (λ a. inl (omega arith)) (λ a. inr (omega arith)) h),
  away r (i + (1 + size cs)) n w.2 (⊎_elim (λ a. inl (omega arith)) (λ a. inr (omega arith)) h),
)

no_element : (c : Elems) (n : ℕ) → Away n c → element_at n c ≡ none
unfolding element_at or_else
no_element none n a = refl
no_element (token i k s e r) n a = rw (ne_eqb i n a.0) (no_element r n a.1)
no_element (node i k s e cs r) n a = rw (ne_eqb i n a.0, no_element cs n a.1) (no_element r n a.2)

outside : (c : Elems) (i n : ℕ) → Numbered i c → (n < i) ⊎ (i + size c ≤ n) → element_at n c ≡ none
outside c i n w h = no_element c n (away c i n w h)

-- what the words of an element of number n say; a node's are followed by its children's
pub record NodeLooks (n k : ℕ) (cs : Elems) (p : List ℕ) : Type 0 where
  pub is : is_a_node p ≡ true
  pub not : is_a_token p ≡ false
  pub kind : syntax_kind p ≡ k
  pub sized : size_of p ≡ 1 + size cs
  pub below : Good (n + 1) cs
  pub behind : List ℕ
  pub parts : drop 3 p ≡ words cs ++ behind

abbrev pub Looks : ℕ → Elems → List ℕ → Type 0
Looks n none p = ⊥
Looks n (token i k s e r) p = (is_a_token p ≡ true) × (is_a_node p ≡ false) × (syntax_kind p ≡ k)
Looks n (node i k s e cs r) p = NodeLooks n k cs p

behind-token : (i n w s e : ℕ) (l : List ℕ) → i < n → drop ((n - i) * 3) (w ∷ s ∷ e ∷ l) ≡ drop ((n - (i + 1)) * 3) l
behind-token i n w s e l h =
    let q : (n - i) * 3 ≡ suc (suc (suc ((n - (i + 1)) * 3))) = omega arith in
    ap (λ (x : ℕ). drop x (w ∷ s ∷ e ∷ l)) q

pub behind_node : (i n w s e : ℕ) (cs : Elems) (l : List ℕ) → i + (1 + size cs) ≤ n → drop ((n - i) * 3) (w ∷ s ∷ e ∷ words cs ++ l) ≡ drop ((n - (i + (1 + size cs))) * 3) l
behind_node i n w s e cs l h =
    let lc = length-words cs in
    let q : (n - (i + 1)) * 3 ≡ length (words cs) + (n - (i + (1 + size cs))) * 3 = omega arith in
    behind-token i n w s e (words cs ++ l) (omega arith) ∙ ap (λ (x : ℕ). drop x (words cs ++ l)) q ∙ drop-append-add (words cs) l ((n - (i + (1 + size cs))) * 3)

-- the first of a sequence, its children and the rest are well-formed too
pub good_rest-token : (i j k s e : ℕ) (r : Elems) → Good i (token j k s e r) → Good (i + 1) r
unfolding size
good_rest-token i j k s e r g =
    let h = token_good j k s e g.from g.to r g.inside g.good in
    record { from = e; to = g.to; inside = h.inside; good = h.good; small = g.small; few = omega (arith, g.few); numbered = g.numbered.1 }

pub good_rest_node : (i j k s e : ℕ) (cs r : Elems) → Good i (node j k s e cs r) → Good (i + (1 + size cs)) r
unfolding size
good_rest_node i j k s e cs r g =
    let h = node_good j k s e g.from g.to cs r g.inside g.good in
    record { from = e; to = g.to; inside = h.inside; good = h.good; small = g.small; few = omega (arith, g.few); numbered = g.numbered.2 }

pub good_children : (i j k s e : ℕ) (cs r : Elems) → Good i (node j k s e cs r) → Good (i + 1) cs
unfolding size
good_children i j k s e cs r g =
    let h = node_good j k s e g.from g.to cs r g.inside g.good in
    let o = tiles_order r e g.to h.inside h.good in
    record { from = s; to = e; inside = h.below; good = h.children; small = omega (arith, g.small); few = omega (arith, g.few); numbered = g.numbered.1 }

-- what the words of a well-formed sequence and more say of its first element
pub looks : (n : ℕ) (c : Elems) (more : List ℕ) → Good n c → some c ≡ true → Looks n c (words c ++ more)
unfolding words size
looks n none more g t = absurd (false≢true t)
looks n (token j k s e r) more g t =
    let h = token_good j k s e g.from g.to r g.inside g.good in
    let o = tiles_order r e g.to h.inside h.good in
    let l = words r ++ more in
    let b : e < 268435456 = omega (arith, g.small) in
    (token_is k s e l h.high h.full b, token_not k s e l h.high h.full b, token-kind k s e l h.high h.full b)
looks n (node j k s e cs r) more g t =
    let h = node_good j k s e g.from g.to cs r g.inside g.good in
    let l = words cs ++ words r ++ more in
    let b : 1 + size cs < 65536 = omega (arith, g.few) in
    record {
      is = node_is k (1 + size cs) s e l h.high b;
      not = node_not k (1 + size cs) s e l h.high b;
      kind = node_kind k (1 + size cs) s e l h.high b;
      sized = node_size k (1 + size cs) s e l h.high b;
      below = good_children n j k s e cs r g;
      behind = words r ++ more;
      parts = append_assoc (words cs) (words r) more;
    }

-- the words from the element of a number on are its own and more
pub record Stands (n : ℕ) (c : Elems) (p : List ℕ) : Type 0 where
  pub more : List ℕ
  pub are : p ≡ words c ++ more
  pub good : Good n c
  pub there : some c ≡ true

looks_there : (n : ℕ) (c : Elems) (p : List ℕ) → Stands n c p → Looks n c p
looks_there n c p h = subst (λ (x : List ℕ). Looks n c x) (sym h.are) (looks n c h.more h.good h.there)

or_else_lem : (c d : Elems) → some c ≡ true → or_else c d ≡ c
unfolding or_else
or_else_lem none d h = absurd (false≢true h)
or_else_lem (token i k s e r) d h = refl
or_else_lem (node i k s e cs r) d h = refl

here : (c : Elems) (i n : ℕ) (more : List ℕ) → Good i c → some c ≡ true → i ≡ n → Stands n c (drop ((n - i) * 3) (words c ++ more))
here c i n more g t e =
    let z : (n - i) * 3 ≡ 0 = omega arith in
    record { more = more; are = ap (λ (x : ℕ). drop x (words c ++ more)) z; good = subst (λ (x : ℕ). Good x c) e g; there = t }

at_token : (i n j k s e : ℕ) (r : Elems) (more : List ℕ) → Good i (token j k s e r) → i ≤ n → (i + 1 ≤ n → Stands n (element_at n r) (drop ((n - (i + 1)) * 3) (words r ++ more)))
    → (b : Bool) → eqb j n ≡ b → Stands n (element_at n (token j k s e r)) (drop ((n - i) * 3) (words (token j k s e r) ++ more))
unfolding element_at words
at_token i n j k s e r more g h rest true q =
    let jn : j ≡ n = eqb-true j n q in
    rw q (here (token j k s e r) i n more g refl (sym g.numbered.0 ∙ jn))
at_token i n j k s e r more g h rest false q =
    let ne : j ≡ n → ⊥ = eqb-false j n q in
    let lt : i < n = omega (arith, ne, g.numbered.0) in
    rw (q, behind-token i n (element_word 2 k 1) (word_of 3 s) (word_of 4 e) (words r ++ more) lt) (rest (omega arith))

at_node : (i n j k s e : ℕ) (cs r : Elems) (more : List ℕ) → Good i (node j k s e cs r) → i ≤ n
    → (i + 1 ≤ n → n < i + 1 + size cs → Stands n (element_at n cs) (drop ((n - (i + 1)) * 3) (words cs ++ (words r ++ more))))
    → (i + (1 + size cs) ≤ n → Stands n (element_at n r) (drop ((n - (i + (1 + size cs))) * 3) (words r ++ more)))
    → (b : Bool) → eqb j n ≡ b → (d : Bool) → leb (i + (1 + size cs)) n ≡ d
    → Stands n (element_at n (node j k s e cs r)) (drop ((n - i) * 3) (words (node j k s e cs r) ++ more))
unfolding element_at words or_else
at_node i n j k s e cs r more g h inner rest true q d u =
    let jn : j ≡ n = eqb-true j n q in
    rw q (here (node j k s e cs r) i n more g refl (sym g.numbered.0 ∙ jn))
at_node i n j k s e cs r more g h inner rest false q true u =
    let far : i + (1 + size cs) ≤ n = leb-true _ _ u in
    rw (
      q,
      append_assoc (words cs) (words r) more,
      behind_node i n (element_word 1 k (1 + size cs)) (word_of 3 s) (word_of 4 e) cs (words r ++ more) far,
      outside cs (i + 1) n g.numbered.1 (inr (omega arith)),
    ) (rest far)
at_node i n j k s e cs r more g h inner rest false q false u =
    let near : n < i + (1 + size cs) = leb-false _ _ u in
    let ne : j ≡ n → ⊥ = eqb-false j n q in
    let lt : i < n = omega (arith, ne, g.numbered.0) in
    let w = inner (omega arith) (omega arith) in
    rw (
      q,
      append_assoc (words cs) (words r) more,
      behind-token i n (element_word 1 k (1 + size cs)) (word_of 3 s) (word_of 4 e) (words cs ++ (words r ++ more)) lt,
      or_else_lem (element_at n cs) (element_at n r) w.there,
    ) w

-- the element of a number stands three words further on for each element before it
pub stands : (c : Elems) (i n : ℕ) (more : List ℕ) → Good i c → i ≤ n → n < i + size c → Stands n (element_at n c) (drop ((n - i) * 3) (words c ++ more))
unfolding size
stands none i n more g h k = absurd (omega arith)
stands (token j kd s e r) i n more g h k =
    at_token i n j kd s e r more g h (λ a. stands r (i + 1) n more (good_rest-token i j kd s e r g) a (omega arith)) (eqb j n) refl
stands (node j kd s e cs r) i n more g h k =
    at_node i n j kd s e cs r more g h (λ a b. stands cs (i + 1) n (words r ++ more) (good_children i j kd s e cs r g) a b)
    (λ a. stands r (i + (1 + size cs)) n more (good_rest_node i j kd s e cs r g) a (omega arith)) (eqb j n) refl (leb (i + (1 + size cs)) n) refl

-- an accepted tree is well-formed, and an element of it stands where its number says
pub tree_good : (l : List ℕ) → WellFormed l → Good 0 (tree l)
tree_good l w =
    let b = tree_built w.bytes l w.small w.few w.is in
    let lw : size (tree l) * 3 ≡ length l = sym (length-words (tree l)) ∙ ap length b.are in
    record { from = 0; to = w.bytes; inside = b.inside; good = b.good; small = omega (arith, w.small); few = omega (arith, w.few, lw); numbered = b.numbered }

pub tree-size : (l : List ℕ) → WellFormed l → size (tree l) * 3 ≡ length l
tree-size l w = sym (length-words (tree l)) ∙ ap length (tree_built w.bytes l w.small w.few w.is).are

pub tree-stands : (l : List ℕ) (n : ℕ) → WellFormed l → n < size (tree l) → Stands n (element_at n (tree l)) (drop (n * 3) l)
tree-stands l n w h =
    let z : n - 0 ≡ n = omega arith in
    let b = tree_built w.bytes l w.small w.few w.is in
    subst (λ (x : List ℕ). Stands n (element_at n (tree l)) (drop (n * 3) x)) (append-nil (words (tree l)) ∙ b.are) (rw z at (stands (tree l) 0 n [] (tree_good l w) (omega arith) (omega arith)))

pub tree-none : (l : List ℕ) (n : ℕ) → WellFormed l → size (tree l) ≤ n → element_at n (tree l) ≡ none
tree-none l n w h = outside (tree l) 0 n (tree_good l w).numbered (inr (omega arith))

tree_looks : (l : List ℕ) (n : ℕ) → WellFormed l → n < size (tree l) → Looks n (element_at n (tree l)) (drop (n * 3) l)
tree_looks l n w h = looks_there n (element_at n (tree l)) (drop (n * 3) l) (tree-stands l n w h)

module _ (low high n : ℕ) (p : List ℕ) (t : 3 ≤ length p) where
  looks_node_in : (c : Elems) → Looks n c p → node_in low high c ≡ node_in low high (elems 0 p)
  looks_node_in none h = absurd h
  looks_node_in (token i k s e r) h = sym (node_token low high 0 p t h.0)
  looks_node_in (node i k s e cs r) h = sym (node_in_lem low high 0 p t h.not ∙ rw h.kind)

  looks_token_in : (c : Elems) → Looks n c p → token_in low high c ≡ token_in low high (elems 0 p)
  looks_token_in none h = absurd h
  looks_token_in (token i k s e r) h = sym (token_in_lem low high 0 p t h.0 ∙ rw h.2)
  looks_token_in (node i k s e cs r) h = sym (token_node low high 0 p t h.not)

-- whether the element of a number is a node of some kinds
node_there : (low high n : ℕ) (l : List ℕ) (w : WellFormed l) → (b : Bool) → leb (size (tree l)) n ≡ b → node_in low high (element_at n (tree l)) ≡ node_in low high (elems 0 (drop (n * 3) l))
node_there low high n l w true b =
    let far : size (tree l) ≤ n = leb-true _ _ b in
    let ts = tree-size l w in
    let short : length (drop (n * 3) l) < 3 = simp length-drop (omega arith) in
    rw (tree-none l n w far) (sym (node_none low high 0 (drop (n * 3) l) short))
node_there low high n l w false b =
    let near : n < size (tree l) = leb-false _ _ b in
    let ts = tree-size l w in
    looks_node_in low high n (drop (n * 3) l) (simp length-drop (omega arith)) (element_at n (tree l)) (tree_looks l n w near)

pub node_at_lem : (low high n : ℕ) (l : List ℕ) → WellFormed l → node_in low high (element_at n (tree l)) ≡ node_in low high (elems 0 (drop (n * 3) l))
node_at_lem low high n l w = node_there low high n l w (leb (size (tree l)) n) refl

-- whether a number is that of a token below the element of another
module _ (n m : ℕ) (l : List ℕ) where
  inner_in : (c : Elems) → Looks n c (drop (n * 3) l) → is_a_node (drop (n * 3) l) ≡ true → n < m → m < n + size_of (drop (n * 3) l)
      → token_in 1 1023 (element_at m (children c)) ≡ token_in 1 1023 (elems 0 (drop (m * 3) l))
  inner_in none h is a b = absurd h
  inner_in (token i k s e r) h is a b = absurd (false≢true (sym h.1 ∙ is))
  inner_in (node i k s e cs r) h is a b =
      let p = drop (n * 3) l in
      let lp : length p ≡ length l - n * 3 = length-drop (n * 3) l in
      let lq : length p - 3 ≡ size cs * 3 + length h.behind = sym (length-drop 3 p) ∙ ap length h.parts ∙ length-append (words cs) h.behind ∙ ap (λ (x : ℕ). x + length h.behind) (length-words cs) in
      let three : 3 ≤ length (drop (m * 3) l) = simp length-drop (omega (arith, h.sized)) in
      let q : n * 3 + 3 + (m - (n + 1)) * 3 ≡ m * 3 = omega arith in
      let at : drop ((m - (n + 1)) * 3) (words cs ++ h.behind) ≡ drop (m * 3) l =
      ap (λ (x : List ℕ). drop ((m - (n + 1)) * 3) x) (sym h.parts ∙ drop-drop 3 (n * 3) l) ∙ drop-drop ((m - (n + 1)) * 3) (n * 3 + 3) l ∙ ap (λ (x : ℕ). drop x l) q in
      looks_token_in 1 1023 m (drop (m * 3) l) three (element_at m cs) (looks_there m (element_at m cs) (drop (m * 3) l) (subst (λ (x : List ℕ). Stands m (element_at m cs) x) at (stands cs (n + 1) m h.behind h.below (omega arith) (omega (arith, h.sized)))))

  inner_out : (c : Elems) → Looks n c (drop (n * 3) l) → (is_a_node (drop (n * 3) l) && ltb n m && ltb m (n + size_of (drop (n * 3) l))) ≡ false → token_in 1 1023 (element_at m (children c)) ≡ false
  unfolding element_at
  inner_out none h o = absurd h
  inner_out (token i k s e r) h o = refl
  inner_out (node i k s e cs r) h o = rw (outside cs (n + 1) m h.below.numbered (side (ltb n m) refl (ltb m (n + size_of (drop (n * 3) l))) refl))
    where
      side : (x : Bool) → ltb n m ≡ x → (y : Bool) → ltb m (n + size_of (drop (n * 3) l)) ≡ y → (m < n + 1) ⊎ (n + 1 + size cs ≤ m)
      side false x y z = inl (omega (arith, ltb-false n m x))
      side true x false y = inr (omega (arith, h.sized, ltb-false m (n + size_of (drop (n * 3) l)) y))
      side true x true y = absurd (false≢true (sym o ∙ (ap (λ (b : Bool). is_a_node (drop (n * 3) l) && ltb n m && b) y ∙ ap (λ (b : Bool). is_a_node (drop (n * 3) l) && b && true) x ∙ ap (λ (b : Bool). b && true && true) h.is)))

  no_node : WellFormed l → size (tree l) ≤ n → is_a_node (drop (n * 3) l) ≡ false
  no_node w h = let ts = tree-size l w in rw (drop_of_length-le l {i = n * 3} (omega arith))

  within : WellFormed l → (b : Bool) → leb (size (tree l)) n ≡ b → is_a_node (drop (n * 3) l) ≡ true → n < m → m < n + size_of (drop (n * 3) l)
      → token_in 1 1023 (element_at m (children (element_at n (tree l)))) ≡ token_in 1 1023 (elems 0 (drop (m * 3) l))
  within w true b is a d = absurd (false≢true (sym (no_node w (leb-true _ _ b)) ∙ is))
  within w false b is a d = inner_in (element_at n (tree l)) (tree_looks l n w (leb-false _ _ b)) is a d

  pub token-within : WellFormed l → is_a_node (drop (n * 3) l) ≡ true → n < m → m < n + size_of (drop (n * 3) l)
      → token_in 1 1023 (element_at m (children (element_at n (tree l)))) ≡ token_in 1 1023 (elems 0 (drop (m * 3) l))
  token-within w is a d = within w (leb (size (tree l)) n) refl is a d

  without : WellFormed l → (b : Bool) → leb (size (tree l)) n ≡ b → (is_a_node (drop (n * 3) l) && ltb n m && ltb m (n + size_of (drop (n * 3) l))) ≡ false
      → token_in 1 1023 (element_at m (children (element_at n (tree l)))) ≡ false
  unfolding element_at
  without w true b o = rw (tree-none l n w (leb-true _ _ b))
  without w false b o = inner_out (element_at n (tree l)) (tree_looks l n w (leb-false _ _ b)) o

  pub token_not_within : WellFormed l → (is_a_node (drop (n * 3) l) && ltb n m && ltb m (n + size_of (drop (n * 3) l))) ≡ false
      → token_in 1 1023 (element_at m (children (element_at n (tree l)))) ≡ false
  token_not_within w o = without w (leb (size (tree l)) n) refl o
