-- The way from the root to an element.
-- Assumes nothing.
use mathlib.Core.Path.{◌≡◌, refl, sym, ap, subst, ◌∙◌}
use mathlib.Core.Logic.{◌⊎◌, inl, inr, ⊎_elim}
use mathlib.Core.Bool.{Bool, true, false}
use mathlib.Core.List.{List, [], ◌∷◌, ◌++◌, append_assoc, append-nil}
use Prim.Native.Nat.{ℕ, ◌+◌, ◌-◌, ◌*◌, ◌≤◌, ◌<◌}
use native.Mathlib.Omega.{arith}
use lib.ListN.{length, drop, length-append}
use lib.Seq.{drop-drop}
use lib.Dec.{eqb}
use borrow.Author.Tests.{eq-eqb, ne_eqb, eqb-false}
use Rattle.words.proofs.TestLaws.{low_or}
use Rattle.words.specs.Fields.{word_of}
use Rattle.syntax.specs.Parts.{span}
use Rattle.syntax.specs.Trees.{Elems, none, token, node, size, Numbered, words, element_word, tree}
use Rattle.syntax.specs.Accessors.{below, ancestors, last_but_one, standing}
use Rattle.syntax.specs.Checks.{WellFormed}
use Rattle.syntax.proofs.PartLaws.{span-token, span_node}
use Rattle.syntax.proofs.Exactly.{tree_built}
use Rattle.syntax.proofs.Places.{Away, away, Good, looks, behind_node, good_rest-token, good_rest_node, good_children, tree_good, tree-size}

-- numbers before and behind a sequence have no ancestors in it, the others have
no_ancestors : (c : Elems) (n : ℕ) → Away n c → ancestors n c ≡ []
unfolding ancestors
no_ancestors none n a = refl
no_ancestors (token i k s e r) n a = rw (ne_eqb i n a.0) (no_ancestors r n a.1)
no_ancestors (node i k s e cs r) n a = rw (ne_eqb i n a.0, no_ancestors cs n a.1) (no_ancestors r n a.2)

outside : (c : Elems) (i n : ℕ) → Numbered i c → (n < i) ⊎ (i + size c ≤ n) → ancestors n c ≡ []
outside c i n w h = no_ancestors c n (away c i n w h)

below-some : (i : ℕ) (l other : List ℕ) → 0 < length l → below i l other ≡ i ∷ l
below-some i [] other h = absurd (omega arith)
below-some i (x ∷ l) other h = refl

below_long : (i : ℕ) (l other : List ℕ) → (0 < length l) ⊎ (0 < length other) → 0 < length (below i l other)
below_long i [] other h = ⊎_elim (λ a. absurd (omega arith)) (λ a. a) h
below_long i (x ∷ l) other h = omega arith

inside-token : (i n j k s e : ℕ) (r : Elems) → j ≡ i → i ≤ n → (i + 1 ≤ n → 0 < length (ancestors n r)) → (b : Bool) → eqb j n ≡ b → 0 < length (ancestors n (token j k s e r))
unfolding ancestors
inside-token i n j k s e r w h rec true q = rw q (omega arith)
inside-token i n j k s e r w h rec false q = let ne : j ≡ n → ⊥ = eqb-false j n q in rw q (rec (omega (arith, ne)))

inside_node : (i n j k s e : ℕ) (cs r : Elems) → j ≡ i → i ≤ n → (i + 1 ≤ n → (0 < length (ancestors n cs)) ⊎ (0 < length (ancestors n r))) → (b : Bool) → eqb j n ≡ b
    → 0 < length (ancestors n (node j k s e cs r))
unfolding ancestors
inside_node i n j k s e cs r w h rec true q = rw q (omega arith)
inside_node i n j k s e cs r w h rec false q = let ne : j ≡ n → ⊥ = eqb-false j n q in rw q (below_long j (ancestors n cs) (ancestors n r) (rec (omega (arith, ne))))

inside : (c : Elems) (i n : ℕ) → Numbered i c → i ≤ n → n < i + size c → 0 < length (ancestors n c)
unfolding size
inside none i n w h k = absurd (omega arith)
inside (token j kd s e r) i n w h k = inside-token i n j kd s e r w.0 h (λ a. inside r (i + 1) n w.1 a (omega arith)) (eqb j n) refl
inside (node j kd s e cs r) i n w h k =
    inside_node i n j kd s e cs r w.0 h
    (λ a. low_or n (i + (1 + size cs)) (λ near. inl (inside cs (i + 1) n w.1 a (omega arith))) (λ far. inr (inside r (i + (1 + size cs)) n w.2 far (omega arith))))
    (eqb j n) refl

-- the last of a list, or a number where it is empty
unfoldable pub last_or : ℕ → List ℕ → ℕ
last_or n [] = n
last_or n (x ∷ l) = last_or x l

last_snoc : (n x : ℕ) (l : List ℕ) → last_or n (l ++ x ∷ []) ≡ x
unfolding last_or
last_snoc n x [] = refl
last_snoc n x (y ∷ l) = last_snoc y x l

last_but_one_lem : (n x : ℕ) (l : List ℕ) → last_but_one n (l ++ x ∷ []) ≡ last_or n l
unfolding last_or last_but_one
last_but_one_lem n x [] = refl
last_but_one_lem n x (y ∷ []) = refl
last_but_one_lem n x (y ∷ (z ∷ l)) = last_but_one_lem y x (z ∷ l)

-- on the way to element n: a sequence that begins with element at and has n in it, and the ancestors passed
pub record Reached (l : List ℕ) (n depth parent at : ℕ) : Type 0 where
  pub seq : Elems
  pub good : Good at seq
  pub more : List ℕ
  pub stands : drop (at * 3) l ≡ words seq ++ more
  pub low : at ≤ n
  pub high : n < at + size seq
  pub passed : List ℕ
  pub counts : depth ≡ 1 + length passed
  pub parents : parent ≡ last_or n passed
  pub are : ancestors n (tree l) ≡ passed ++ ancestors n seq

pub reach_start : (l : List ℕ) (n : ℕ) → WellFormed l → n * 3 < length l → Reached l n 1 n 0
unfolding last_or
reach_start l n w h =
    let b = tree_built w.bytes l w.small w.few w.is in
    let ts = tree-size l w in
    record { seq = tree l; good = tree_good l w; more = []; stands = sym (append-nil (words (tree l)) ∙ b.are); low = omega arith; high = omega arith; passed = []; counts = refl; parents = refl; are = refl }

-- what stands there: the first of a sequence, with m elements
record Here (l : List ℕ) (at : ℕ) (c : Elems) (more : List ℕ) (m : ℕ) : Type 0 where
  good : Good at c
  parts : drop (at * 3) l ≡ words c ++ more
  spans : span (drop (at * 3) l) ≡ m

module _ (l : List ℕ) (n depth parent at : ℕ) (lt : at < n) where
  here-token : (j k s e : ℕ) (x : Elems) (r : Reached l n depth parent at) → r.seq ≡ token j k s e x → Here l at (token j k s e x) r.more 1
  here-token j k s e x r q =
      let g : Good at (token j k s e x) = subst (λ (y : Elems). Good at y) q r.good in
      let p : drop (at * 3) l ≡ words (token j k s e x) ++ r.more = r.stands ∙ ap (λ (y : Elems). words y ++ r.more) q in
      record { good = g; parts = p; spans = ap span p ∙ span-token (words (token j k s e x) ++ r.more) (looks at (token j k s e x) r.more g refl).0 }

  here_node : (j k s e : ℕ) (cs x : Elems) (r : Reached l n depth parent at) → r.seq ≡ node j k s e cs x → Here l at (node j k s e cs x) r.more (1 + size cs)
  here_node j k s e cs x r q =
      let g : Good at (node j k s e cs x) = subst (λ (y : Elems). Good at y) q r.good in
      let p : drop (at * 3) l ≡ words (node j k s e cs x) ++ r.more = r.stands ∙ ap (λ (y : Elems). words y ++ r.more) q in
      let lk = looks at (node j k s e cs x) r.more g refl in
      record { good = g; parts = p; spans = ap span p ∙ span_node (words (node j k s e cs x) ++ r.more) lk.not (omega (arith, lk.sized)) ∙ lk.sized }

  next_of : (seq : Elems) (r : Reached l n depth parent at) → r.seq ≡ seq → at + span (drop (at * 3) l) ≤ n → Reached l n depth parent (at + span (drop (at * 3) l))
  unfolding ancestors words size
  next_of none r q h = absurd (omega (arith, r.high, ap size q))
  next_of (token j k s e x) r q h =
      let f = here-token j k s e x r q in
      let g = f.good in
      let p = f.parts in
      let sp = f.spans in
      let a3 : at * 3 + 3 ≡ (at + 1) * 3 = omega arith in
      let d : drop ((at + 1) * 3) l ≡ words x ++ r.more = ap (λ (i : ℕ). drop i l) (sym a3) ∙ sym (drop-drop 3 (at * 3) l) ∙ ap (drop 3) p in
      let ne : j ≡ n → ⊥ = λ z. omega (arith, g.numbered.0) in
      subst (λ (i : ℕ). Reached l n depth parent (at + i)) (sym sp) (record {
        seq = x;
        good = good_rest-token at j k s e x g;
        more = r.more;
        stands = d;
        low = omega (arith, sp);
        high = omega (arith, r.high, ap size q);
        passed = r.passed;
        counts = r.counts;
        parents = r.parents;
        are = r.are ∙ ap (λ (y : Elems). r.passed ++ ancestors n y) q ∙ rw (ne_eqb j n ne);
      })
  next_of (node j k s e cs x) r q h =
      let f = here_node j k s e cs x r q in
      let g = f.good in
      let p = f.parts in
      let sp = f.spans in
      let a3 : at * 3 + (1 + size cs) * 3 ≡ (at + (1 + size cs)) * 3 = omega arith in
      let b3 : (at + (1 + size cs) - at) * 3 ≡ (1 + size cs) * 3 = omega arith in
      let c3 : (at + (1 + size cs) - (at + (1 + size cs))) * 3 ≡ 0 = omega arith in
      let d : drop ((at + (1 + size cs)) * 3) l ≡ words x ++ r.more =
      ap (λ (i : ℕ). drop i l) (sym a3) ∙ sym (drop-drop ((1 + size cs) * 3) (at * 3) l) ∙ ap (drop ((1 + size cs) * 3)) (p ∙ ap (λ (y : List ℕ). element_word 1 k (1 + size cs) ∷ word_of 3 s ∷ word_of 4 e ∷ y) (append_assoc (words cs) (words x) r.more))
      ∙ ap (λ (i : ℕ). drop i (element_word 1 k (1 + size cs) ∷ word_of 3 s ∷ word_of 4 e ∷ words cs ++ (words x ++ r.more))) (sym b3)
      ∙ behind_node at (at + (1 + size cs)) (element_word 1 k (1 + size cs)) (word_of 3 s) (word_of 4 e) cs (words x ++ r.more) (omega arith) ∙ ap (λ (i : ℕ). drop i (words x ++ r.more)) c3 in
      let ne : j ≡ n → ⊥ = λ z. omega (arith, g.numbered.0) in
      subst (λ (i : ℕ). Reached l n depth parent (at + i)) (sym sp) (record {
        seq = x;
        good = good_rest_node at j k s e cs x g;
        more = r.more;
        stands = d;
        low = omega (arith, sp);
        high = omega (arith, r.high, ap size q);
        passed = r.passed;
        counts = r.counts;
        parents = r.parents;
        are = r.are ∙ ap (λ (y : Elems). r.passed ++ ancestors n y) q ∙ rw (ne_eqb j n ne, outside cs (at + 1) n g.numbered.1 (inr (omega (arith, sp))));
      })

  pub reach-next : Reached l n depth parent at → at + span (drop (at * 3) l) ≤ n → Reached l n depth parent (at + span (drop (at * 3) l))
  reach-next r h = next_of r.seq r refl h

  below_of : (seq : Elems) (r : Reached l n depth parent at) → r.seq ≡ seq → n < at + span (drop (at * 3) l) → Reached l n (depth + 1) at (at + 1)
  unfolding ancestors words size last_or
  below_of none r q h = absurd (omega (arith, r.high, ap size q))
  below_of (token j k s e x) r q h =
      absurd (omega (arith, (here-token j k s e x r q).spans))
  below_of (node j k s e cs x) r q h =
      let f = here_node j k s e cs x r q in
      let g = f.good in
      let p = f.parts in
      let sp = f.spans in
      let a3 : at * 3 + 3 ≡ (at + 1) * 3 = omega arith in
      let ne : j ≡ n → ⊥ = λ z. omega (arith, g.numbered.0) in
      let ch = good_children at j k s e cs x g in
      let long = inside cs (at + 1) n g.numbered.1 (omega arith) (omega (arith, sp)) in
      record {
        seq = cs;
        good = ch;
        more = words x ++ r.more;
        stands = ap (λ (i : ℕ). drop i l) (sym a3) ∙ sym (drop-drop 3 (at * 3) l) ∙ ap (drop 3) p ∙ append_assoc (words cs) (words x) r.more;
        low = omega arith;
        high = omega (arith, sp);
        passed = r.passed ++ at ∷ [];
        counts = omega (arith, r.counts, length-append r.passed (at ∷ []));
        parents = sym (last_snoc n at r.passed);
        are = r.are ∙ ap (λ (y : Elems). r.passed ++ ancestors n y) q ∙ rw (ne_eqb j n ne, below-some j (ancestors n cs) (ancestors n x) long, g.numbered.0) (sym (append_assoc r.passed (at ∷ []) (ancestors n cs)));
      }

  pub reach-below : Reached l n depth parent at → n < at + span (drop (at * 3) l) → Reached l n (depth + 1) at (at + 1)
  reach-below r h = below_of r.seq r refl h

-- there
end_of : (l : List ℕ) (n depth parent : ℕ) (seq : Elems) (r : Reached l n depth parent n) → r.seq ≡ seq → ancestors n seq ≡ n ∷ []
unfolding ancestors size
end_of l n depth parent none r q = absurd (omega (arith, r.high, ap size q))
end_of l n depth parent (token j k s e x) r q = let g : Good n (token j k s e x) = subst (λ (y : Elems). Good n y) q r.good in rw (eq-eqb j n g.numbered.0, g.numbered.0)
end_of l n depth parent (node j k s e cs x) r q = let g : Good n (node j k s e cs x) = subst (λ (y : Elems). Good n y) q r.good in rw (eq-eqb j n g.numbered.0, g.numbered.0)

pub reach_end : (l : List ℕ) (n depth parent : ℕ) → Reached l n depth parent n → record { depth = depth; parent = parent } ≡ standing n (tree l)
reach_end l n depth parent r =
    let a : ancestors n (tree l) ≡ r.passed ++ n ∷ [] = r.are ∙ ap (λ (x : List ℕ). r.passed ++ x) (end_of l n depth parent r.seq r refl) in
    let d : depth ≡ length (r.passed ++ n ∷ []) = omega (arith, r.counts, length-append r.passed (n ∷ [])) in
    rw (a, last_but_one_lem n n r.passed, ← r.parents, ← d)

-- a number that no element has
pub no_standing : (l : List ℕ) (n : ℕ) → WellFormed l → length l ≤ n * 3 + 2 → record { depth = 0; parent = n } ≡ standing n (tree l)
unfolding last_but_one
no_standing l n w h = let ts = tree-size l w in rw (outside (tree l) 0 n (tree_good l w).numbered (inr (omega arith)))
