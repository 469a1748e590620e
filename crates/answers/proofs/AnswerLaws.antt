-- What an attempt's answer says of its comments, and how the buffer is ended then.
-- Assumes nothing.
use mathlib.Core.Path.{◌≡◌, refl, ap}
use mathlib.Core.Bool.{Bool, true, false}
use mathlib.Core.List.{List}
use Prim.Native.Nat.{ℕ, ◌≤◌, ◌<◌}
use native.Mathlib.Omega.{arith}
use lib.Dec.{leb}
use lib.ListN.{length, take, drop, drop_of_length-le}
use lib.Seq.{take_at, take_all}
use borrow.Author.Tests.{le-leb, lt-leb, leb-true, leb-false}
use Rattle.std.proofs.Common.{Option, Some, None, Result, Ok, Err}
use Rattle.errors.specs.declared.Refusal.{Refusal}
use Rattle.errors.specs.declared.Refusal.TheVariants.{DoesNotFit}
use Rattle.words.specs.Buffer.{used_of, filled}
use Rattle.captures.specs.declared.State.{State}
use Rattle.captures.specs.Attempts.{Event, Attempt, failed, matched, comments}
use Rattle.captures.specs.Effects.{nothing, recorded, laid_by, Gives}
use Rattle.captures.proofs.AttemptLaws.{noted-total, gives_length}
use Rattle.answers.specs.declared.NodeMatch.{NodeMatch}
use Rattle.answers.specs.Answers.{answer_of, bytes_of}

-- a buffer that is used whole, ended behind its first n bytes, is filled as any of its length
ended-whole : (d e bs : List ℕ) (n : ℕ) → length e ≡ length d → length e ≤ 1048576 → take n e ≡ bs → filled e (take n (take (used_of (length e)) e)) ≡ filled d bs
ended-whole d e bs n l h k =
    let u : used_of (length d) ≡ length d = rw (le-leb (length d) 1048576 (omega arith)) in
    rw (l, u, take_all (length d) e (omega arith), k, drop_of_length-le e {i = length d} (omega arith), drop_of_length-le d {i = length d} (omega arith))

some_none : {t : State} → Some t ≡ None → ⊥
some_none h = let z : ◌≡◌ {A = ℕ} 0 1 = cc in omega arith

some_state : {t u : State} → Some t ≡ Some u → t ≡ u
some_state h = cc

-- the place behind the comments is within the buffer exactly where they fit
module _ (es : List Event) (out : List ℕ) where
  within : (b : Bool) → leb (length (comments es)) (length out) ≡ b → (recorded (length out) es nothing).noted ≤ length out → length (comments es) ≤ length out
  within true e h = leb-true _ _ e
  within false e h = absurd (omega (arith, (noted-total es out).1 (leb-false _ _ e)))

  beyond : (b : Bool) → leb (length (comments es)) (length out) ≡ b → length out < (recorded (length out) es nothing).noted → length out < length (comments es)
  beyond true e h = let f : length (comments es) ≤ length out = leb-true _ _ e in absurd (omega (arith, ((noted-total es out).0 f).0))
  beyond false e h = leb-false _ _ e

  -- where they fit, they are the first bytes
  first-bytes : length (comments es) ≤ length out → take (length (comments es)) (laid_by es nothing out) ≡ comments es
  first-bytes h = rw ((noted-total es out).0 h).1 (take_at (comments es) (drop (length (comments es)) out) (length (comments es)) refl)

-- an answer, and the first n bytes of the buffer that an attempt left, are those of any attempt that gave both
abbrev pub Ends : Option State → List ℕ → Result (Option NodeMatch) Refusal → ℕ → Type 0
Ends r after q n = (a : Attempt) (before : List ℕ) → Gives a nothing before r after → (q ≡ answer_of (length before) a) × (take n after ≡ bytes_of (length before) a)

-- a match whose comments fit, one whose comments do not, and no match
module _ (t : State) (after : List ℕ) where
  pub ends_fitting : t.noted ≤ length after → Ends (Some t) after (Ok (Some (record { comments_length = t.noted; bindings = t.bindings }))) t.noted
  ends_fitting h failed before g = absurd (some_none g.answer)
  ends_fitting h (matched es) before g =
      let e = some_state g.answer in
      let f = within es before _ refl (omega (arith, gives_length g, ap (λ (q : State). q.noted) e)) in
      rw (le-leb (length (comments es)) (length before) f, e, g.buffer, ((noted-total es before).0 f).0) (refl, first-bytes es before f)

  pub ends_too_long : length after < t.noted → Ends (Some t) after (Err DoesNotFit) 0
  ends_too_long h failed before g = absurd (some_none g.answer)
  ends_too_long h (matched es) before g =
      let e = some_state g.answer in
      let f = beyond es before _ refl (omega (arith, gives_length g, ap (λ (q : State). q.noted) e)) in
      rw (lt-leb (length (comments es)) (length before) f) (refl, refl)

-- a buffer that is used whole and ended behind these bytes then holds them
pub ended_by : (r : Option State) (after : List ℕ) (q : Result (Option NodeMatch) Refusal) (n : ℕ) → Ends r after q n → length after ≤ 1048576
    → (a : Attempt) (before : List ℕ) → Gives a nothing before r after
    → filled after (take n (take (used_of (length after)) after)) ≡ filled before (bytes_of (length before) a)
ended_by r after q n ends h a before g = ended-whole before after _ n (gives_length g) h (ends a before g).1
