-- The walk over a tree: what it leaves in the table, from an element and from what follows it.
-- Assumes nothing.
use mathlib.Core.Path.{◌≡◌, refl, sym, ◌∙◌}
use mathlib.Core.Bool.{Bool, true, false, cond, ◌&&◌, ◌||◌, false≢true}
use mathlib.Core.List.{List, [], ◌∷◌, ◌++◌}
use Prim.Native.Nat.{ℕ, ◌/◌, ◌%◌, ◌≤◌, ◌<◌}
use native.Mathlib.Omega.{arith}
use lib.ListN.{length, set}
use borrow.Author.Tests.{eq-eqb, ne_eqb, leb-true}
use Rattle.std.specs.Prelude.{Option, Some, None}
use Rattle.errors.specs.declared.Refusal.{Refusal}
use Rattle.errors.specs.declared.Refusal.TheVariants.{UnresolvedPath}
use Rattle.errors.specs.Refusals.{Outcome, ok, err}
use Rattle.syntax.specs.Trees.{Elems, none, token, node}
use Rattle.syntax.specs.declared.parts.Part.{Part}
use Rattle.syntax.specs.Accessors.{children, rest, number_of, some, node_in}
use Rattle.syntax.specs.Views.{elems_of, IsWithin}
use Rattle.syntax.proofs.AccessorLaws.{number_is, some_is}
use Rattle.paths.specs.Steps.{Side, flags_at, is_associated, step}
use Rattle.paths.specs.Resolved.{Note, fails_at, is_unresolved, paths_at, resolved_paths, claim_by, claims_at, claims}
use Rattle.paths.specs.Tables.{paths_of, calls_of, noted, call_number, Leaves, AtElement, AtSiblings, Within, Room}
use Rattle.paths.specs.declared.resolving.Noted.{Noted}
use Rattle.paths.specs.declared.resolving.Step.TheVariants.{Skips, Resolves}

-- notes in turn
noted-append : (xs ys : List Note) (t : List (Option ℕ)) → noted (xs ++ ys) t ≡ noted ys (noted xs t)
unfolding noted
noted-append [] ys t = refl
noted-append (n ∷ xs) ys t = noted-append xs ys (set t n.element (Some n.value))

-- an answer says whether a path failed
pub was_good : (f : Bool) → ok ≡ cond f (err UnresolvedPath) ok → f ≡ false
was_good true e = absurd (cc)
was_good false e = refl

was_bad : (f : Bool) (q : Refusal) → err q ≡ cond f (err UnresolvedPath) ok → (f ≡ true) × (err q ≡ err UnresolvedPath)
was_bad true q e = (refl, e)
was_bad false q e = absurd (cc)

-- two walks in turn, and one that failed
module _ (f h : Bool) (ns ms : List Note) (k l : Elems → Elems → List Note) (parent grandparent : Option ℕ) (p p' : List Noted) where
  leaves_then : (r : Outcome) (p'' : List Noted) → Leaves f ns k parent grandparent ok p p' → Leaves h ms l parent grandparent r p' p''
      → Leaves (f || h) (ns ++ ms) (λ x y. k x y ++ l x y) parent grandparent r p p''
  leaves_then r p'' a b =
      let good = was_good f a.answer in
      rw good (record {
        answer = b.answer;
        noting = λ t. b.noting t ∙ rw (a.noting good) (sym (noted-append ns ms (paths_of p)));
        claiming = λ t x y e g. b.claiming t x y e g ∙ rw (a.claiming good x y e g) (sym (noted-append (k x y) (l x y) (calls_of p)));
      })

  leaves_stop : (q : Refusal) → Leaves f ns k parent grandparent (err q) p p' → Leaves (f || h) (ns ++ ms) (λ x y. k x y ++ l x y) parent grandparent (err q) p p'
  leaves_stop q a =
      let bad = was_bad f q a.answer in
      rw bad.0 (record { answer = bad.1; noting = λ t. absurd (false≢true (sym t)); claiming = λ t. absurd (false≢true (sym t)) })

module _ (x : Side) (parent grandparent : Option ℕ) where
  -- siblings are their first element and what follows it
  whole : (c : Elems) → some c ≡ true → (r : Outcome) (p p' : List Noted)
      → Leaves (fails_at (step x c) (is_unresolved x (children c)) || is_unresolved x (rest c))
      (paths_at (number_of c) (step x c) (resolved_paths x (children c)) ++ resolved_paths x (rest c))
      (λ q g. claims_at x (number_of c) g (step x c) (claims x c q (children c)) ++ claims x q g (rest c)) parent grandparent r p p'
      → AtSiblings x c parent grandparent r p p'
  unfolding step is_unresolved resolved_paths claims
  whole none s r p p' w = absurd (false≢true s)
  whole (token i kind s e rs) t r p p' w = w
  whole (node i kind s e cs rs) t r p p' w = w

  siblings_none : (c : Elems) (p : List Noted) → some c ≡ false → AtSiblings x c parent grandparent ok p p
  unfolding is_unresolved resolved_paths claims noted
  siblings_none none p h = record { answer = refl; noting = λ t. refl; claiming = λ t q g d e. refl }
  siblings_none (token i k s e r) p h = absurd (cc)
  siblings_none (node i k s e cs r) p h = absurd (cc)

  module _ (c : Elems) (p p' : List Noted) where
    pub siblings_end : some c ≡ false → AtSiblings x c parent grandparent ok p p
    siblings_end h = siblings_none c p h

    module _ (h : some c ≡ true) where
      pub siblings_stop : (q : Refusal) → AtElement x c parent grandparent (err q) p p' → AtSiblings x c parent grandparent (err q) p p'
      siblings_stop q a = whole c h (err q) p p' (leaves_stop _ (is_unresolved x (rest c)) _ (resolved_paths x (rest c)) _ (λ q g. claims x q g (rest c)) parent grandparent p p' q a)

      pub siblings_then : (d : Elems) → d ≡ rest c → AtElement x c parent grandparent ok p p' → (r : Outcome) (p'' : List Noted) → AtSiblings x d parent grandparent r p' p'' → AtSiblings x c parent grandparent r p p''
      siblings_then d e a r p'' b = whole c h r p p'' (leaves_then _ _ _ _ _ _ parent grandparent p p' r p'' a (rw e at b))

    -- an element, by its step
    pub element_skips : step x c ≡ Skips → AtElement x c parent grandparent ok p p
    unfolding noted
    element_skips s = rw s (record { answer = refl; noting = λ t. refl; claiming = λ t q g d e. refl })

    pub element_resolves : (place : ℕ) → step x c ≡ Resolves place → paths_of p' ≡ set (paths_of p) (number_of c) (Some place)
        → ((g : Elems) → grandparent ≡ call_number g → calls_of p' ≡ noted (claim_by (number_of c) (flags_at x.facts place) g) (calls_of p)) → AtElement x c parent grandparent ok p p'
    unfolding noted
    element_resolves place s e w = rw s (record { answer = refl; noting = λ t. e; claiming = λ t u g d v. w g v })

-- what a resolved path notes for its grandparent
module _ (path flags call : ℕ) (calls : List (Option ℕ)) (g : Elems) where
  some_call : (b : Bool) (n : ℕ) → Some call ≡ cond b (Some n) None → (b ≡ true) × (n ≡ call)
  some_call true n e = (refl, cc)
  some_call false n e = absurd (cc)

  no_call : (b : Bool) (n : ℕ) → ◌≡◌ {A = Option ℕ} None (cond b (Some n) None) → b ≡ false
  no_call true n e = absurd (cc)
  no_call false n e = refl

  pub claim_noted : flags / 4 % 2 ≡ 1 → Some call ≡ call_number g → set calls call (Some path) ≡ noted (claim_by path flags g) calls
  unfolding noted
  claim_noted h e = let n = some_call (node_in 64 64 g) (number_of g) e in rw (eq-eqb (flags / 4 % 2) 1 h, n.0, n.1)

  pub claim_other : (flags / 4 % 2 ≡ 1 → ⊥) → calls ≡ noted (claim_by path flags g) calls
  unfolding noted
  claim_other h = rw (ne_eqb (flags / 4 % 2) 1 h)

  unclaimed : (b : Bool) → calls ≡ noted (cond (b && false) (record { element = number_of g; value = path } ∷ []) []) calls
  unfolding noted
  unclaimed true = refl
  unclaimed false = refl

  pub claim_none : ◌≡◌ {A = Option ℕ} None (call_number g) → calls ≡ noted (claim_by path flags g) calls
  claim_none e = rw (no_call (node_in 64 64 g) (number_of g) e) (unclaimed (is_associated flags))

-- ---- room

-- a call is within a table that its element is within
pub call_within : (c : Elems) (n : ℕ) → number_of c < n → Within (call_number c) n
call_within c n h = by (node_in 64 64 c)
  where
    by : (b : Bool) → Within (cond b (Some (number_of c)) None) n
    by true = h
    by false = tt

module _ (parent grandparent : Option ℕ) (notes : List Noted) where
  pub room_there : (first old : Part) → first ≡ old → some (elems_of old) ≡ true → Room old parent grandparent notes → Room first parent grandparent notes × (3 ≤ length first.words.now)
  room_there first old e s room = rw e (room, leb-true 3 (length old.words.now) (sym (some_is old.number old.words.now) ∙ s))

  pub room_within : (part whole : Part) (after : List Noted) → IsWithin part whole → length after ≡ length notes → Room whole parent grandparent notes → Room part parent grandparent after
  room_within part whole after w e room = record {
    few = omega (arith, e, room.few);
    within = omega (arith, e, w.1, room.within);
    parent_within = rw e room.parent_within;
    grandparent_within = rw e room.grandparent_within;
  }

  pub room_below : (below c : Part) (call : Option ℕ) → IsWithin below c → 3 ≤ length c.words.now → call ≡ call_number (elems_of c) → Room c parent grandparent notes → Room below call parent notes
  room_below below c call w h e room = record {
    few = room.few;
    within = omega (arith, w.1, room.within);
    parent_within = rw e (call_within (elems_of c) (length notes) (omega (arith, number_is c.number c.words.now h, h, room.within)));
    grandparent_within = room.parent_within;
  }
