-- What the answer of an attempt, made with no room for comments, tells of its row.
-- Assumes nothing.
use mathlib.Core.Path.{◌≡◌, refl, sym, ◌∙◌}
use mathlib.Core.Bool.{false}
use mathlib.Core.List.{List, []}
use Prim.Native.Nat.{ℕ}
use native.Mathlib.Omega.{arith}
use lib.Dec.{ltb}
use lib.ListN.{length}
use borrow.Author.Tests.{ne_eqb}
use Rattle.std.specs.Prelude.{Some, None}
use Rattle.std.proofs.lemmas.Option.{none-some, same_Some}
use Rattle.words.proofs.TestLaws.{low_or}
use Rattle.captures.specs.declared.State.{State}
use Rattle.captures.specs.Attempts.{Event, Attempt, failed, matched, comments}
use Rattle.captures.specs.Effects.{nothing, recorded, Gives}
use Rattle.captures.proofs.AttemptLaws.{noted-total}
use Rattle.nester.specs.declared.Nesting.TheVariants.{NoMatch, NotKept}
use Rattle.nester.specs.declared.Row.{Row}
use Rattle.job_list.specs.Told.{has_comments, row_of}

-- with no room, the place behind comments is past the room where there are some
noted_is : (es : List Event) → ltb 0 (recorded 0 es nothing).noted ≡ has_comments (matched es)
noted_is es =
    let t = noted-total es [] in
    low_or 0 (length (comments es))
    (λ h.
    let e : (recorded 0 es nothing).noted ≡ 1 = t.1 h in
    rw (e, ne_eqb (length (comments es)) 0 (λ q. omega arith)))
    (λ h.
    let e : (recorded 0 es nothing).noted ≡ length (comments es) = (t.0 h).0 in
    let z : length (comments es) ≡ 0 = omega arith in
    rw (e, z))

pub row_matched : (a : Attempt) (s : State) (end : List ℕ) (n r m : ℕ) → Gives a nothing [] (Some s) end
    → ◌≡◌ {A = Row} (record { node = n; rule = r; has_comments = ltb 0 s.noted; state = NotKept; end = 0; «module» = m; bindings = s.bindings }) (row_of n r m a)
row_matched failed s end n r m g = absurd (none-some s (sym g.answer))
row_matched (matched es) s end n r m g =
    let e : s ≡ recorded 0 es nothing = same_Some s (recorded 0 es nothing) g.answer in
    (λ d. record { node = n; rule = r; has_comments = ltb 0 (e d).noted; state = NotKept; end = 0; «module» = m; bindings = (e d).bindings })
    ∙ (λ d. record { node = n; rule = r; has_comments = noted_is es d; state = NotKept; end = 0; «module» = m; bindings = (recorded 0 es nothing).bindings })

pub row_failed : (a : Attempt) (end : List ℕ) (n r m : ℕ) → Gives a nothing [] None end
    → ◌≡◌ {A = Row} (record { node = n; rule = r; has_comments = false; state = NoMatch; end = 0; «module» = m; bindings = nothing.bindings }) (row_of n r m a)
row_failed failed end n r m g = refl
row_failed (matched es) end n r m g = absurd (none-some (recorded 0 es nothing) g.answer)
