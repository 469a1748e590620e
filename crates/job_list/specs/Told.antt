-- The row of a candidate that is not nested yet, by its attempt: its node and rule, whether the match has comments, the module of the node, and
-- the match's bindings.
-- Assumes nothing.
use Rattle.std.specs.Prelude.{ℕ, ◌/◌, ◌%◌, ◌≡◌, Bool, not, List, eqb, length, get_or}
use Rattle.captures.specs.Attempts.{Attempt, failed, matched, comments_of}
use Rattle.captures.specs.Effects.{nothing, recorded}
use Rattle.nester.specs.declared.Nesting.TheVariants.{NoMatch, NotKept}
use Rattle.nester.specs.declared.Row.{Row}
use Rattle.nester.specs.Rows.{row_at}

abbrev pub has_comments : Attempt → Bool
has_comments a = not (eqb (length (comments_of a)) 0)

-- "A match is a candidate that `get_match` accepts"; "A match answers its bindings in pattern order"
abbrev pub row_of : ℕ → ℕ → ℕ → Attempt → Row
row_of n r m failed = record {
  node = n;
  rule = r;
  has_comments = has_comments failed;
  state = NoMatch;
  end = 0;
  «module» = m;
  bindings = nothing.bindings;
}
row_of n r m (matched es) = record {
  node = n;
  rule = r;
  has_comments = has_comments (matched es);
  state = NotKept;
  end = 0;
  «module» = m;
  bindings = (recorded 0 es nothing).bindings;
}

-- row i tells of the candidate of key i
abbrev pub Told : (ℕ → ℕ → Attempt) → (ℕ → ℕ) → List ℕ → List Row → ℕ → Type 0
Told attempt modules keys rows i =
    let n = get_or keys i 0 / 16 in let r = get_or keys i 0 % 16 in row_at rows i ≡ row_of n r (modules n) (attempt n r)
