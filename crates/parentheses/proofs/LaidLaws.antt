-- Bytes that are laid before others, and parentheses stored one by one.
-- Assumes nothing.
use Rattle.std.proofs.Common.{◌≡◌, refl, sym, ap, ◌∙◌, ℕ, zero, suc, ◌+◌, ◌<◌, ◌≤◌, add-one, add_assoc, add-zero, arith, List, [], ◌∷◌, ◌++◌, append_assoc, append-nil, length, take, drop, set, length-append, length-drop}
use lib.ListN.{take-append-drop}
use lib.Seq.{append_snoc, take-take, take-append-le, drop-append-le, drop_at, set_split, length-take-le}
use Rattle.words.specs.Buffer.{laid}
use Rattle.words.proofs.BufferLaws.{length-laid, laid-laid}

-- n bytes from a place on
pub length_bytes : (y n : ℕ) (d : List ℕ) → y + n ≤ length d → length (take n (drop y d)) ≡ n
length_bytes y n d h = length-take-le n (drop y d) (omega (arith, length-drop y d))

pub laid_nothing : (d : List ℕ) (at : ℕ) → laid d at [] ≡ d
laid_nothing d at = rw (add-zero at, append-nil (take at d)) (take-append-drop at d)

-- bytes laid right before others
pub laid_before : (d : List ℕ) (a b : ℕ) (xs ys : List ℕ) → b ≡ a + length xs → b ≤ length d → laid (laid d b ys) a xs ≡ laid d a (xs ++ ys)
laid_before d a b xs ys e h =
    let f : length (take b d) ≡ b = length-take-le b d h in
    rw (
      append_assoc (take b d) ys (drop (b + length ys) d),
      take-append-le a (take b d) (ys ++ drop (b + length ys) d) (omega arith),
      take-take a b d (omega arith),
      ← e,
      drop_at (take b d) (ys ++ drop (b + length ys) d) b f,
      ← append_assoc (take a d ++ xs) ys (drop (b + length ys) d),
      append_assoc (take a d) xs ys,
      length-append xs ys,
    )
    (rw (e, add_assoc a (length xs) (length ys)))

-- bytes inside the first k of a list
pub bytes_inside : (x n k : ℕ) (l : List ℕ) → x + n ≤ k → take n (drop x (take k l)) ≡ take n (drop x l)
bytes_inside zero n k l h = take-take n k l (omega arith)
bytes_inside (suc x) n zero l h = absurd (omega arith)
bytes_inside (suc x) n (suc k) [] h = refl
bytes_inside (suc x) n (suc k) (a ∷ l) h = bytes_inside x n k l (omega arith)

-- bytes before those that are laid
pub bytes_laid : (d : List ℕ) (y n b : ℕ) (ys : List ℕ) → y + n ≤ b → b ≤ length d → take n (drop y (laid d b ys)) ≡ take n (drop y d)
bytes_laid d y n b ys h k =
    let f : length (take b d) ≡ b = length-take-le b d k in
    rw (
      append_assoc (take b d) ys (drop (b + length ys) d),
      drop-append-le y (take b d) (ys ++ drop (b + length ys) d) (omega arith),
      take-append-le n (drop y (take b d)) (ys ++ drop (b + length ys) d) (omega (arith, length-drop y (take b d))),
    )
    (bytes_inside y n b d h)

-- a store is a byte laid
store_laid : (d : List ℕ) (a v : ℕ) → a < length d → set d a v ≡ laid d a (v ∷ [])
store_laid d a v h = set_split d a v h ∙ sym (append_snoc (take a d) v (drop (suc a) d)) ∙ rw (add-one a)

-- bytes t that are laid at s + 1, then a byte behind and one before them
pub two_stores : (d t : List ℕ) (s v w : ℕ) → s + length t + 2 ≤ length d
    → set (set (laid d (s + 1) t) (s + 1 + length t) w) s v ≡ laid d s ((v ∷ []) ++ (t ++ (w ∷ [])))
two_stores d t s v w h =
    let q : length (t ++ (w ∷ [])) ≡ length t + 1 = length-append t (w ∷ []) in
    let u : length (laid d (s + 1) t) ≡ length d = length-laid d (s + 1) t (omega arith) in
    let z : length (laid d (s + 1) (t ++ (w ∷ []))) ≡ length d = length-laid d (s + 1) (t ++ (w ∷ [])) (omega arith) in
    let e : set (laid d (s + 1) t) (s + 1 + length t) w ≡ laid d (s + 1) (t ++ (w ∷ [])) =
    store_laid (laid d (s + 1) t) (s + 1 + length t) w (omega arith) ∙ laid-laid d (s + 1) t (w ∷ []) (omega arith) in
    ap (λ (l : List ℕ). set l s v) e
    ∙ store_laid (laid d (s + 1) (t ++ (w ∷ []))) s v (omega arith)
    ∙ laid_before d s (s + 1) (v ∷ []) (t ++ (w ∷ [])) (omega arith) (omega arith)
