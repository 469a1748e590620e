-- Marks of parses: numbers that tell most parses apart, by which repeated ones are found sooner. What is promised does not rest on them.
-- Assumes nothing.
use Rattle.std.specs.Prelude.{ℕ, suc, ◌+◌, ◌-◌, ◌*◌, ◌%◌, ◌<◌, cond, List, [], ◌∷◌, eqb, ltb, length, get_or, set}
use Rattle.words.specs.Texts.{part}
use Rattle.parses.specs.Parses.{Parse}

-- of bytes, behind a first mark, of n marks
unfoldable pub mark_from : ℕ → ℕ → List ℕ → ℕ
mark_from n m [] = m
mark_from n m (b ∷ t) = mark_from n ((m * 40503 + b) % n) t

-- of a kind and a text: its length, and the bytes at its two ends, so that a long text costs no more than a short one
abbrev pub mark_of : ℕ → ℕ → List ℕ → ℕ
mark_of n kind t = mark_from n (mark_from n ((kind % n + length t % n) % n) (part t 0 32)) (part t (length t - 32) (length t))

-- how many parses have a mark
unfoldable pub marked : ℕ → ℕ → List Parse → ℕ
marked n m [] = 0
marked n m (p ∷ ps) = cond (eqb (mark_of n p.kind p.text) m) (suc (marked n m ps)) (marked n m ps)

-- counts that stop at two, with one more of a mark
abbrev pub counted_at : List ℕ → ℕ → List ℕ
counted_at counts m = cond (ltb (get_or counts m 0) 2) (set counts m (get_or counts m 0 + 1)) counts

-- a mark that is not counted twice is that of one parse at most
abbrev pub Counted : ℕ → List ℕ → List Parse → Type 0
Counted n counts ps = (m : ℕ) → get_or counts m 0 < 2 → marked n m ps < 2
