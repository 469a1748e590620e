-- The accessors from the front of a part.
-- Assumes nothing.
use mathlib.Core.Path.{◌≡◌, refl, sym, ap}
use mathlib.Core.Bool.{Bool, true, false, ◌||◌, false≢true}
use mathlib.Core.List.{List}
use Prim.Native.Nat.{ℕ, ◌+◌, ◌≤◌, ◌<◌}
use lib.ListN.{length}
use lib.Dec.{leb, ltb}
use borrow.Author.Tests.{eq-eqb, ne_eqb, le-leb, lt-leb, ltb-true, ltb-false}
use Rattle.words.specs.Fields.{is_a_token, syntax_kind, start_of, end_of}
use Rattle.syntax.specs.declared.kinds.ElementKind.{ElementKind}
use Rattle.syntax.specs.declared.kinds.ElementKind.TheVariants.{Node, Token}
use Rattle.syntax.specs.Parts.{span, child_words, rest_words}
use Rattle.syntax.specs.Trees.{Elems, none, token, node, elems}
use Rattle.syntax.specs.Accessors.{children, rest, number_of, range_of, some, between, node_in, token_in, has_kind, has_element, find_node, first_token, only_ident}
use Rattle.syntax.proofs.PartLaws.{span-token, no_children}
use Rattle.syntax.proofs.TreeLaws.{elems_end, elems-token, elems_node}

-- the children and the rest of a part's tree are the trees of its parts
children_of : (i : ℕ) (l : List ℕ) → 3 ≤ length l → (b : Bool) → is_a_token l ≡ b → children (elems i l) ≡ elems (i + 1) (child_words l)
children_of i l h true t = rw (elems-token i l h t, elems_end (i + 1) (child_words l) (no_children l t))
children_of i l h false t = rw (elems_node i l h t)

pub children_are : (i : ℕ) (l : List ℕ) → 3 ≤ length l → children (elems i l) ≡ elems (i + 1) (child_words l)
children_are i l h = children_of i l h (is_a_token l) refl

rest_of : (i : ℕ) (l : List ℕ) → 3 ≤ length l → (b : Bool) → is_a_token l ≡ b → rest (elems i l) ≡ elems (i + span l) (rest_words l)
rest_of i l h true t = rw (elems-token i l h t) (ap (λ (n : ℕ). elems (i + n) (rest_words l)) (sym (span-token l t)))
rest_of i l h false t = rw (elems_node i l h t)

pub rest_are : (i : ℕ) (l : List ℕ) → 3 ≤ length l → rest (elems i l) ≡ elems (i + span l) (rest_words l)
rest_are i l h = rest_of i l h (is_a_token l) refl

-- its number
number_of_lem : (i : ℕ) (l : List ℕ) → 3 ≤ length l → (b : Bool) → is_a_token l ≡ b → number_of (elems i l) ≡ i
number_of_lem i l h true t = rw (elems-token i l h t)
number_of_lem i l h false t = rw (elems_node i l h t)

pub number_is : (i : ℕ) (l : List ℕ) → 3 ≤ length l → number_of (elems i l) ≡ i
number_is i l h = number_of_lem i l h (is_a_token l) refl

-- its range
range_of_lem : (i : ℕ) (l : List ℕ) → 3 ≤ length l → (b : Bool) → is_a_token l ≡ b → range_of (elems i l) ≡ record { start = start_of l; end = end_of l }
range_of_lem i l h true t = rw (elems-token i l h t)
range_of_lem i l h false t = rw (elems_node i l h t)

pub range_is : (i : ℕ) (l : List ℕ) → 3 ≤ length l → range_of (elems i l) ≡ record { start = start_of l; end = end_of l }
range_is i l h = range_of_lem i l h (is_a_token l) refl

-- whether there is an element
some_of : (i : ℕ) (l : List ℕ) → (s : Bool) → ltb (length l) 3 ≡ s → (b : Bool) → is_a_token l ≡ b → some (elems i l) ≡ leb 3 (length l)
some_of i l true s b t = rw (elems_end i l (ltb-true _ _ s), lt-leb 3 (length l) (ltb-true _ _ s))
some_of i l false s true t = rw (elems-token i l (ltb-false _ _ s) t, le-leb 3 (length l) (ltb-false _ _ s))
some_of i l false s false t = rw (elems_node i l (ltb-false _ _ s) t, le-leb 3 (length l) (ltb-false _ _ s))

pub some_is : (i : ℕ) (l : List ℕ) → some (elems i l) ≡ leb 3 (length l)
some_is i l = some_of i l (ltb (length l) 3) refl (is_a_token l) refl

-- a node or a token of kinds from one to another
module _ (low high i : ℕ) (l : List ℕ) where
  pub node_none : length l < 3 → node_in low high (elems i l) ≡ false
  node_none h = rw (elems_end i l h)

  pub node_token : 3 ≤ length l → is_a_token l ≡ true → node_in low high (elems i l) ≡ false
  node_token h t = rw (elems-token i l h t)

  pub node_in_lem : 3 ≤ length l → is_a_token l ≡ false → node_in low high (elems i l) ≡ between low high (syntax_kind l)
  node_in_lem h t = rw (elems_node i l h t)

  pub token_in_lem : 3 ≤ length l → is_a_token l ≡ true → token_in low high (elems i l) ≡ between low high (syntax_kind l)
  token_in_lem h t = rw (elems-token i l h t)

  pub token_node : 3 ≤ length l → is_a_token l ≡ false → token_in low high (elems i l) ≡ false
  token_node h t = rw (elems_node i l h t)

-- an element of a kind: here, below, further on, at the end
has_first : (n : ElementKind) (kind : ℕ) (c : Elems) → has_element n kind c ≡ (has_kind n kind c || has_element n kind (children c) || has_element n kind (rest c))
unfolding has_element
has_first Node kind none = refl
has_first Token kind none = refl
has_first n kind (token i k s e r) = no_more (has_kind n kind (token i k s e r))
  where
    no_more : (b : Bool) → (b || has_element n kind r) ≡ (b || false || has_element n kind r)
    no_more true = refl
    no_more false = refl
has_first n kind (node i k s e cs r) = refl

module _ (n : ElementKind) (kind : ℕ) (c : Elems) where
  pub has_here : has_kind n kind c ≡ true → has_element n kind c ≡ true
  has_here h = rw (has_first n kind c, h)

  pub has_below : has_kind n kind c ≡ false → has_element n kind (children c) ≡ true → has_element n kind c ≡ true
  has_below h k = rw (has_first n kind c, h, k)

  pub has_further : has_kind n kind c ≡ false → has_element n kind (children c) ≡ false → has_element n kind c ≡ has_element n kind (rest c)
  has_further h k = rw (has_first n kind c, h, k)

pub no_sibling : (c : Elems) → some c ≡ false → c ≡ none
no_sibling none h = refl
no_sibling (token i k s e r) h = absurd (false≢true (sym h))
no_sibling (node i k s e cs r) h = absurd (false≢true (sym h))

pub has_gone : (n : ElementKind) (kind : ℕ) (c : Elems) → some c ≡ false → has_element n kind c ≡ false
unfolding has_element
has_gone n kind c h = rw (no_sibling c h)

-- the first node of such a kind: here, further on, at the end
pub find_here : (low high : ℕ) (c : Elems) → node_in low high c ≡ true → find_node low high c ≡ c
unfolding find_node
find_here low high none h = absurd (false≢true h)
find_here low high (token i k s e r) h = absurd (false≢true h)
find_here low high (node i k s e cs r) h = rw h

pub find_rest : (low high : ℕ) (c : Elems) → node_in low high c ≡ false → find_node low high c ≡ find_node low high (rest c)
unfolding find_node
find_rest low high none h = refl
find_rest low high (token i k s e r) h = refl
find_rest low high (node i k s e cs r) h = rw h

pub find_gone : (low high : ℕ) (c : Elems) → some c ≡ false → find_node low high c ≡ none
unfolding find_node
find_gone low high c h = rw (no_sibling c h)

-- the first token: at the end, here, below
pub first_gone : (c : Elems) → some c ≡ false → first_token c ≡ c
unfolding first_token
first_gone c h = rw (no_sibling c h)

-- the lone IDENT: at the end
pub ident_gone : (c : Elems) → some c ≡ false → only_ident c ≡ c
unfolding only_ident
ident_gone c h = rw (no_sibling c h)

module _ (i : ℕ) (l : List ℕ) (h : ltb (length l) 3 ≡ false) where
  pub first_here : is_a_token l ≡ true → first_token (elems i l) ≡ elems i l
  unfolding first_token
  first_here t = rw (elems-token i l (ltb-false _ _ h) t)

  pub first_below : is_a_token l ≡ false → first_token (elems i l) ≡ first_token (children (elems i l))
  unfolding first_token
  first_below t = rw (elems_node i l (ltb-false _ _ h) t)

  -- here, another token, below, more than one child
  pub ident_here : is_a_token l ≡ true → syntax_kind l ≡ 1 → only_ident (elems i l) ≡ elems i l
  unfolding only_ident
  ident_here t k = rw (elems-token i l (ltb-false _ _ h) t, eq-eqb (syntax_kind l) 1 k)

  pub ident_other : is_a_token l ≡ true → (syntax_kind l ≡ 1 → ⊥) → only_ident (elems i l) ≡ none
  unfolding only_ident
  ident_other t k = rw (elems-token i l (ltb-false _ _ h) t, ne_eqb (syntax_kind l) 1 k)

  pub ident_below : is_a_token l ≡ false → some (rest (children (elems i l))) ≡ false → only_ident (elems i l) ≡ only_ident (children (elems i l))
  unfolding only_ident
  ident_below t m =
      let q = elems_node i l (ltb-false _ _ h) t in
      let k : some (rest (elems (i + 1) (child_words l))) ≡ false = rw q at m in
      rw (q, k)

  pub ident_many : is_a_token l ≡ false → some (rest (children (elems i l))) ≡ true → only_ident (elems i l) ≡ none
  unfolding only_ident
  ident_many t m =
      let q = elems_node i l (ltb-false _ _ h) t in
      let k : some (rest (elems (i + 1) (child_words l))) ≡ true = rw q at m in
      rw (q, k)
