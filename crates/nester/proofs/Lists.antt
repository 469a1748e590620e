-- Laws of lists: all of them, all pairs of them, `each`.
-- Assumes nothing.
use Prim.Native.Nat.{ℕ, zero, suc, ◌<◌}
use mathlib.Core.Path.{◌≡◌, refl}
use mathlib.Core.List.Memᴰ
use mathlib.Core.List.{List, [], ◌∷◌, ◌++◌, Memᴰ}
use mathlib.Core.Bool.{Bool, true, false}
use native.Mathlib.Omega.{arith}
use lib.Dec.{eqb}
use borrow.Author.Tests.{eqb-true, eqb-false}
use Rattle.candidates.specs.Candidates.{each}

pub data All {A : Type 0} (P : A → Type 0) : List A → Type 0 where
  nil : All P []
  more : {x : A} {l : List A} → P x → All P l → All P (x ∷ l)

-- each stands to each later one so
pub data Pairwise {A : Type 0} (R : A → A → Type 0) : List A → Type 0 where
  nil : Pairwise R []
  more : {x : A} {l : List A} → All (R x) l → Pairwise R l → Pairwise R (x ∷ l)

pub all_map : {A : Type 0} {P Q : A → Type 0} {l : List A} → ((x : A) → P x → Q x) → All P l → All Q l
all_map f All.nil = All.nil
all_map f (All.more p a) = All.more (f _ p) (all_map f a)

pub all_zip : {A : Type 0} {P Q R : A → Type 0} {l : List A} → ((x : A) → P x → Q x → R x) → All P l → All Q l → All R l
all_zip f All.nil All.nil = All.nil
all_zip f (All.more p a) (All.more q b) = All.more (f _ p q) (all_zip f a b)

pub pairwise_map : {A : Type 0} {R S : A → A → Type 0} {l : List A} → ((x y : A) → R x y → S x y) → Pairwise R l → Pairwise S l
pairwise_map f Pairwise.nil = Pairwise.nil
pairwise_map f (Pairwise.more a p) = Pairwise.more (all_map (λ y r. f _ y r) a) (pairwise_map f p)

pub all_append : {A : Type 0} {P : A → Type 0} {l m : List A} → All P l → All P m → All P (l ++ m)
all_append All.nil b = b
all_append (All.more p a) b = All.more p (all_append a b)

pub all_mem : {A : Type 0} {P : A → Type 0} {l : List A} {x : A} → All P l → Memᴰ x l → P x
all_mem All.nil m = elim m [ ]
all_mem (All.more p a) (Memᴰ.head e) = rw e p
all_mem (All.more p a) (Memᴰ.tail m) = all_mem a m

pub all_of : {A : Type 0} {P : A → Type 0} (l : List A) → ((x : A) → Memᴰ x l → P x) → All P l
all_of [] f = All.nil
all_of (x ∷ l) f = All.more (f x (Memᴰ.head refl)) (all_of l (λ y m. f y (Memᴰ.tail m)))

pub pairwise_append : {A : Type 0} {R : A → A → Type 0} {l m : List A} → Pairwise R l → Pairwise R m → All (λ x. All (R x) m) l → Pairwise R (l ++ m)
pairwise_append Pairwise.nil q a = q
pairwise_append (Pairwise.more p ps) q (All.more a b) = Pairwise.more (all_append p a) (pairwise_append ps q b)

module _ {A : Type 0} (x : A) (b : List A) where
  all-last : {P : A → Type 0} (a : List A) → All P (a ++ (x ∷ b)) → P x
  all-last [] (All.more p q) = p
  all-last (y ∷ a) (All.more p q) = all-last a q

  -- one that stands in the list: those before it stand to it so, and it so to those after it
  pub pairs-front : {R : A → A → Type 0} (a : List A) → Pairwise R (a ++ (x ∷ b)) → All (λ y. R y x) a
  pairs-front [] p = All.nil
  pairs-front (y ∷ a) (Pairwise.more q p) = All.more (all-last a q) (pairs-front a p)

  pub pairs_back : {R : A → A → Type 0} (a : List A) → Pairwise R (a ++ (x ∷ b)) → All (R x) b
  pairs_back [] (Pairwise.more q p) = q
  pairs_back (y ∷ a) (Pairwise.more q p) = pairs_back a p

-- of those before the rest
pub front-pairs : {A : Type 0} {R : A → A → Type 0} (b a : List A) → Pairwise R (a ++ b) → Pairwise R a
front-pairs b [] p = Pairwise.nil
front-pairs b (x ∷ a) (Pairwise.more p ps) = Pairwise.more (all_of a (λ y i. all_mem p (Memᴰ.append_left b i))) (front-pairs b a ps)

-- the part has P for a number below n
pub record Has {A : Type 0} (P : ℕ → A → Type 0) (n : ℕ) (x : A) : Type 0 where
  pub at : ℕ
  pub low : at < n
  pub is : P at x

module _ {A : Type 0} {P : ℕ → A → Type 0} {f : ℕ → List A} (all : (i : ℕ) → All (P i) (f i)) where
  pub each_all : (n : ℕ) → All (Has P n) (each n f)
  unfolding each
  each_all zero = All.nil
  each_all (suc n) =
      all_append
      (all_map (λ x h. record { at = h.at; low = omega arith; is = h.is }) (each_all n))
      (all_map (λ x p. record { at = n; low = omega arith; is = p }) (all n))

  pub each-pairs : {R : A → A → Type 0} → ((i : ℕ) → Pairwise R (f i)) → ((i j : ℕ) (x y : A) → i < j → P i x → P j y → R x y) → (n : ℕ) → Pairwise R (each n f)
  unfolding each
  each-pairs ps r zero = Pairwise.nil
  each-pairs ps r (suc n) =
      pairwise_append (each-pairs ps r n) (ps n)
      (all_map (λ x h. all_map (λ y p. r h.at n x y h.low h.is p) (all n)) (each_all n))

pub each_mem : {A : Type 0} (f : ℕ → List A) {x : A} (i n : ℕ) → i < n → Memᴰ x (f i) → Memᴰ x (each n f)
unfolding each
each_mem f i zero h m = absurd (omega arith)
each_mem {A} f {x} i (suc n) h m = go (eqb i n) refl (λ l. each_mem f i n l m)
  where
    go : (b : Bool) → eqb i n ≡ b → (i < n → Memᴰ x (each n f)) → Memᴰ x (each n f ++ f n)
    go true e on = Memᴰ.append_right (each n f) (rw (eqb-true i n e) at m)
    go false e on = Memᴰ.append_left (f n) (on (let d = eqb-false i n e in omega arith))

-- each, part by part
pub each_same : {A : Type 0} (f g : ℕ → List A) (n : ℕ) → ((i : ℕ) → i < n → f i ≡ g i) → each n f ≡ each n g
unfolding each
each_same f g zero h = refl
each_same f g (suc n) h = rw (each_same f g n (λ i l. h i (omega arith)), h n (omega arith))
