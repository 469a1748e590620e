-- The rules left, one pair after the other.
-- Assumes nothing.
use Rattle.std.proofs.Common.{◌≡◌, refl, sym, ap, ◌∙◌, sum_by, List, [], ◌∷◌, ◌++◌, map, ℕ, zero, suc, ◌+◌, ◌-◌, ◌≤◌, ◌<◌, Some, None, slice_get, length, length-append, arith}
use Rattle.std.proofs.lemmas.List.{length-map}
use Rattle.std.proofs.lemmas.List.Sums.{sum_by-cons}
use Rattle.std.proofs.lemmas.Option.{slice_get-map}
use Rattle.fragments.specs.declared.forms.Form.{Form}
use Rattle.fragments.specs.Pairs.{Pair}
use Rattle.rules.specs.Forms.{forms_left}
use Rattle.rules.specs.Numbering.{rule_of, rules_from, rule_at}
use Rattle.rules.specs.declared.numbering.Rule.{Rule}

-- no pairs have no rules; else the first pair's, and the others'
pub rules_none : (k : ℕ) → rules_from k [] ≡ []
unfolding rules_from
rules_none k = refl

pub rules_cons : (k : ℕ) (p : Pair) (ps : List Pair) → rules_from k (p ∷ ps) ≡ map (rule_of k p) (forms_left p) ++ rules_from (k + 1) ps
unfolding rules_from
rules_cons k p ps = refl

-- how many there are does not depend on the first pair's number
count-any : (k j : ℕ) (ps : List Pair) → length (rules_from k ps) ≡ length (rules_from j ps)
unfolding rules_from
count-any k j [] = refl
count-any k j (p ∷ ps) =
    rw (length-append (map (rule_of k p) (forms_left p)) (rules_from (k + 1) ps), length-append (map (rule_of j p) (forms_left p)) (rules_from (j + 1) ps), length-map (forms_left p) (rule_of k p), length-map (forms_left p) (rule_of j p), count-any (k + 1) (j + 1) ps)

pub count_none : (k : ℕ) → length (rules_from k []) ≡ 0
count_none k = rw (rules_none k)

pub count_next : (k : ℕ) (p : Pair) (ps : List Pair) → length (rules_from k (p ∷ ps)) ≡ length (forms_left p) + length (rules_from k ps)
count_next k p ps =
    ap length (rules_cons k p ps)
    ∙ rw (length-append (map (rule_of k p) (forms_left p)) (rules_from (k + 1) ps), length-map (forms_left p) (rule_of k p), count-any (k + 1) k ps)

-- all of them, as a sum
pub count_sum : (k : ℕ) (ps : List Pair) → length (rules_from k ps) ≡ sum_by (λ p. length (forms_left p)) ps
count_sum k [] = count_none k
count_sum k (p ∷ ps) = count_next k p ps ∙ ap (λ (n : ℕ). length (forms_left p) + n) (count_sum k ps) ∙ sym (sum_by-cons (λ (q : Pair). length (forms_left q)) p ps)

-- an element of two lists in turn
get_left : {X : Type 0} (xs ys : List X) (q : ℕ) (x : X) → slice_get xs q ≡ Some x → slice_get (xs ++ ys) q ≡ Some x
get_left [] ys q x h = absurd cc
get_left (y ∷ xs) ys zero x h = h
get_left (y ∷ xs) ys (suc q) x h = get_left xs ys q x h

get_right : {X : Type 0} (xs ys : List X) (q : ℕ) → slice_get xs q ≡ None → slice_get (xs ++ ys) q ≡ slice_get ys (q - length xs)
get_right [] ys q h = let e : q ≡ q - 0 = omega arith in ap (slice_get ys) e
get_right (y ∷ xs) ys zero h = absurd cc
get_right (y ∷ xs) ys (suc q) h =
    let e : q - length xs ≡ suc q - suc (length xs) = omega arith in
    get_right xs ys q h ∙ ap (slice_get ys) e

get_past : {X : Type 0} (xs : List X) (q : ℕ) → slice_get xs q ≡ None → length xs ≤ q
get_past [] q h = omega arith
get_past (y ∷ xs) zero h = absurd cc
get_past (y ∷ xs) (suc q) h = omega (arith, get_past xs q h)

-- the rule of a number: the first pair's, or one of the others
pub at_here : (k : ℕ) (p : Pair) (ps : List Pair) (q : ℕ) (f : Form) → slice_get (forms_left p) q ≡ Some f → slice_get (rules_from k (p ∷ ps)) q ≡ Some (rule_of k p f)
at_here k p ps q f h =
    ap (λ (rs : List Rule). slice_get rs q) (rules_cons k p ps)
    ∙ get_left (map (rule_of k p) (forms_left p)) (rules_from (k + 1) ps) q (rule_of k p f) (slice_get-map (rule_of k p) (forms_left p) q ∙ rw h)

pub at_behind : (k : ℕ) (p : Pair) (ps : List Pair) (q : ℕ) → slice_get (forms_left p) q ≡ None → slice_get (rules_from k (p ∷ ps)) q ≡ slice_get (rules_from (k + 1) ps) (q - length (forms_left p))
at_behind k p ps q h =
    ap (λ (rs : List Rule). slice_get rs q) (rules_cons k p ps)
    ∙ get_right (map (rule_of k p) (forms_left p)) (rules_from (k + 1) ps) q (slice_get-map (rule_of k p) (forms_left p) q ∙ rw h)
    ∙ rw (length-map (forms_left p) (rule_of k p))

pub none_passed : (p : Pair) (q : ℕ) → slice_get (forms_left p) q ≡ None → length (forms_left p) ≤ q
none_passed p q h = get_past (forms_left p) q h

pub at_none : (k : ℕ) (q : ℕ) → slice_get (rules_from k []) q ≡ None
at_none k q = rw (rules_none k)

-- a number below how many there are is that of a rule
pub rule_there : (l : List Rule) (number : ℕ) → number < length l → rule_at l number ≡ None → ⊥
rule_there l number h e = omega (arith, get_past l number e)
