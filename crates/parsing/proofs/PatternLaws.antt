-- Laws of the placeholders read: their names, and one placeholder more.
-- Assumes nothing.
use Rattle.std.proofs.Common.{◌≡◌, refl, sym, ap, ◌∙◌, ℕ, suc, ◌+◌, ◌<◌, ◌≤◌, arith, Bool, true, false, List, [], ◌∷◌, ◌++◌, map, length, length-append, append-nil}
use Rattle.std.specs.Prelude.{Option, Some, None, position}
use Rattle.std.specs.List.{prefix_len, position_or_len}
use Rattle.std.specs.Option.{is_some}
use lib.Dec.{leb, ltb}
use borrow.Author.Tests.{lt-ltb, le-ltb, ltb-true, ltb-false, le-leb, lt-leb}
use mathlib.Core.Bool.{not, cond}
use lib.ListN.{length-map}
use Rattle.parsing.specs.declared.patterns.Placeholder.{Placeholder}
use Rattle.parsing.specs.Reading.{Var, Element, plain, placeholder, vars, has_name, is_text, is_repeated, go, stop, top}
use Rattle.parsing.specs.Patterns.{var_of, vars_at, all_nots, has_name_text, name_position}
use Rattle.parsing.specs.Steps.{ended_var}
use Rattle.tokens.specs.Tokens.{token_text}
use Rattle.errors.specs.declared.Refusal.TheVariants.{RepeatedName, NinthPlaceholder}

-- a name by the places of names
prefix_map : {A B : Type 0} (f : A → B) (q : B → Bool) (xs : List A) → prefix_len q (map f xs) ≡ prefix_len (λ x. q (f x)) xs
prefix_map f q [] = refl
prefix_map f q (x ∷ xs) = rw (prefix_map f q xs)

pub position_map : {A B : Type 0} (f : A → B) (q : B → Bool) (xs : List A) → position q (map f xs) ≡ position (λ x. q (f x)) xs
position_map f q xs = rw (prefix_map f (λ x. not (q x)) xs, length-map xs f)

pub vars_snoc : (es : List Element) (v : Var) → vars (es ++ (placeholder v ∷ [])) ≡ vars es ++ (v ∷ [])
unfolding vars
vars_snoc [] v = refl
vars_snoc (plain t ∷ es) v = vars_snoc es v
vars_snoc (placeholder x ∷ es) v = ap (λ vs. x ∷ vs) (vars_snoc es v)

pub map_snoc : (ps : List Placeholder) (p : Placeholder) → vars_at (ps ++ (p ∷ [])) ≡ vars_at ps ++ (var_of p ∷ [])
map_snoc [] p = refl
map_snoc (x ∷ ps) p = ap (λ vs. var_of x ∷ vs) (map_snoc ps p)

-- how many constraints
pub count_snoc : (vs : List Var) (v : Var) → length (all_nots (vs ++ (v ∷ []))) ≡ length (all_nots vs) + length v.nots
unfolding all_nots
count_snoc [] v = rw (append-nil v.nots) (omega arith)
count_snoc (x ∷ vs) v = omega (arith, length-append x.nots (all_nots (vs ++ (v ∷ []))), length-append x.nots (all_nots vs), count_snoc vs v)

pub count_none : length (all_nots []) ≡ 0
unfolding all_nots
count_none = refl

-- ---- whether one of the placeholders has a name

some_if : (b : Bool) (i : ℕ) → is_some (cond b (Some i) None) ≡ b
some_if true i = refl
some_if false i = refl

ltb_more : (k n : ℕ) → ltb k n ≡ ltb (1 + k) (suc n)
ltb_more k n = by (ltb k n) refl
  where
    by : (b : Bool) → ltb k n ≡ b → ltb k n ≡ ltb (1 + k) (suc n)
    by true e = e ∙ sym (lt-ltb (1 + k) (suc n) (omega (arith, ltb-true k n e)))
    by false e = e ∙ sym (le-ltb (1 + k) (suc n) (omega (arith, ltb-false k n e)))

name_before : (text : List ℕ) (vs : List Var) (x : List ℕ) → has_name text vs x ≡ ltb (position_or_len (has_name_text text x) vs) (length vs)
unfolding has_name
name_before text [] x = refl
name_before text (v ∷ vs) x = by (is_text text v.name x) refl (name_before text vs x)
  where
    by : (b : Bool) → is_text text v.name x ≡ b → has_name text vs x ≡ ltb (position_or_len (has_name_text text x) vs) (length vs) → has_name text (v ∷ vs) x ≡ ltb (position_or_len (has_name_text text x) (v ∷ vs)) (length (v ∷ vs))
    by true e r = rw e (sym (lt-ltb 0 (suc (length vs)) (omega arith)))
    by false e r = rw e (r ∙ ltb_more (position_or_len (has_name_text text x) vs) (length vs))

pub name_found : (text : List ℕ) (vs : List Var) (x : List ℕ) → has_name text vs x ≡ is_some (name_position text vs x)
name_found text vs x = name_before text vs x ∙ sym (some_if (ltb (position_or_len (has_name_text text x) vs) (length vs)) (position_or_len (has_name_text text x) vs))

-- ---- a placeholder at its end, behind the elements acc, by where its name is found

module _ (text : List ℕ) (vs : List Var) (v : Var) (x : List ℕ) (o : Option ℕ) (named : token_text text v.name ≡ x) (found : o ≡ name_position text vs x) where
  known : (acc : List Element) → vars acc ≡ vs → is_repeated text (vars acc) v.name ≡ is_some o
  known acc h = rw (h, named, found) (name_found text vs x)

  pub ends_repeated : is_some o ≡ true → (acc : List Element) → vars acc ≡ vs → ended_var text acc v ≡ stop RepeatedName
  ends_repeated e acc h = let k = known acc h ∙ e in rw k

  pub ends_ninth : is_some o ≡ false → 8 ≤ length vs → (acc : List Element) → vars acc ≡ vs → ended_var text acc v ≡ stop NinthPlaceholder
  ends_ninth e l acc h = let k = known acc h ∙ e in let m : leb 8 (length (vars acc)) ≡ true = rw h (le-leb 8 (length vs) l) in rw (k, m)

  pub ends_new : is_some o ≡ false → length vs < 8 → (acc : List Element) → vars acc ≡ vs → ended_var text acc v ≡ go (acc ++ (placeholder v ∷ [])) top
  ends_new e l acc h = let k = known acc h ∙ e in let m : leb 8 (length (vars acc)) ≡ false = rw h (lt-leb 8 (length vs) l) in rw (k, m)
