-- Laws of laying bytes one behind the other, and of stripping a text of them.
-- Assumes nothing.
use Rattle.std.proofs.Common.{◌≡◌, refl, sym, ap, ◌∙◌, ℕ, suc, ◌+◌, ◌<◌, ◌≤◌, arith, true, false, List, [], ◌∷◌, ◌++◌, length, take, drop, get_or, append_assoc, length-append, add-one, drop-cons, Option, Some, None, Bor}
use Rattle.std.specs.Prelude.{MatchOption, option_map}
use lib.ListN.{drop_of_length-le}
use lib.Dec.{leb}
use mathlib.Core.Bool.{cond}
use Rattle.std.specs.Option.{ok_or}
use Rattle.std.proofs.Common.{Ok, Err}
use borrow.Author.Tests.{le-leb, lt-leb}
use Rattle.errors.specs.declared.Refusal.TheVariants.{DoesNotFit}
use Rattle.rust_code.specs.RawCode.{written_length}
use Rattle.words.specs.Texts.{part, has_prefix}
use Rattle.words.specs.Buffer.{place_after, laid_if_room, laid}
use Rattle.words.proofs.BufferLaws.{placed_at, placed_full, length-laid, take-laid, laid-laid}
use Rattle.words.proofs.TextLaws.{same-append}
use Rattle.parsing.specs.declared.patterns.Placeholder.{Placeholder}
use Rattle.parsing.specs.Reading.{Var}
use Rattle.parsing.specs.Patterns.{var_of, vars_at}
use Rattle.rust_code.specs.Segments.{segment, segments, Lays, Strips}

module _ (d : List ℕ) (at : ℕ) (bs : List ℕ) where
  -- what `put` gives
  pub lays_put : (r : Option ℕ) (e : List ℕ) → r ≡ place_after (length d) at (length bs) → e ≡ laid_if_room d at bs → Lays d at bs r e
  lays_put (Some n) e h k = let p = placed_at d at bs n (sym h) in (sym p.0, omega (arith, p.0, p.1), k ∙ p.2)
  lays_put None e h k = (placed_full d at bs (sym h)).0

  -- more bytes behind them
  pub lays_then : (n : ℕ) (e ys : List ℕ) (r : Option ℕ) (f : List ℕ) → Lays d at bs (Some n) e → Lays e n ys r f → Lays d at (bs ++ ys) r f
  lays_then n e ys (Some m) f h k =
      let l : length e ≡ length d = ap length h.2 ∙ length-laid d at bs (omega (arith, h.0, h.1)) in
      (omega (arith, h.0, k.0, length-append bs ys), omega (arith, k.1), k.2 ∙ rw (h.2, h.0) (laid-laid d at bs ys (omega (arith, h.0, h.1))))
  lays_then n e ys None f h k =
      let l : length e ≡ length d = ap length h.2 ∙ length-laid d at bs (omega (arith, h.0, h.1)) in
      omega (arith, h.0, k, length-append bs ys)

-- what `strip_prefix` gives, and more bytes behind
module _ (code bs : List ℕ) where
  pub strips : (r : Option (Bor (List ℕ))) → MatchOption r (has_prefix bs code ≡ false) (λ x. (has_prefix bs code ≡ true) × (x.now ≡ drop (length bs) code) × (length x.now + length bs ≡ length code)) → Strips code bs (option_map (λ x. x.now) r)
  strips (Some x) h = λ ys. same-append bs ys code ∙ rw (h.0, h.1)
  strips None h = λ ys. same-append bs ys code ∙ rw h

  pub strips_then : (rest ys : List ℕ) (r : Option (List ℕ)) → Strips code bs (Some rest) → Strips rest ys r → Strips code (bs ++ ys) r
  strips_then rest ys (Some q) h k = λ zs. rw (append_assoc bs ys zs) (h (ys ++ zs) ∙ k zs)
  strips_then rest ys None h k = λ zs. rw (append_assoc bs ys zs) (h (ys ++ zs) ∙ k zs)

  pub strips_stop : (ys : List ℕ) → Strips code bs None → Strips code (bs ++ ys) None
  strips_stop ys h = λ zs. rw (append_assoc bs ys zs) (h (ys ++ zs))

-- ---- the placeholders from a place on

pub vars_step : (ps : List Placeholder) (i : ℕ) (p : Placeholder) → i < length ps → p ≡ get_or ps i p → vars_at (drop i ps) ≡ var_of p ∷ vars_at (drop (i + 1) ps)
vars_step ps i p h e = rw (add-one, drop-cons ps i p) (ap (λ q. var_of q ∷ vars_at (drop (suc i) ps)) (sym e))

pub vars_end : (ps : List Placeholder) (i : ℕ) → length ps ≤ i → vars_at (drop i ps) ≡ []
vars_end ps i h = rw (drop_of_length-le ps h)

module _ (text : List ℕ) (end from : ℕ) where
  pub segments_step : (v : Var) (vs : List Var) → segments text end from (v ∷ vs) ≡ segment text from v ++ segments text end v.end vs
  unfolding segments
  segments_step v vs = refl

  pub segments_end : segments text end from [] ≡ part text from end
  unfolding segments
  segments_end = refl

-- the bytes laid before some placeholders, and what is left
pub record SoFar (d text : List ℕ) (end : ℕ) (all : List Var) (e : List ℕ) (at from : ℕ) (left : List Var) : Type 0 where
  pub bytes : List ℕ
  pub lays : Lays d 0 bytes (Some at) e
  pub whole : segments text end 0 all ≡ bytes ++ segments text end from left

module _ (d text : List ℕ) (end : ℕ) (all : List Var) where
  pub so_far_none : SoFar d text end all d 0 0 all
  so_far_none = record { bytes = []; lays = (refl, omega arith, refl); whole = refl }

  module _ (e : List ℕ) (at from : ℕ) (ls left : List Var) (v : Var) (s : SoFar d text end all e at from ls) (next : ls ≡ v ∷ left) where
    rejoined : segments text end 0 all ≡ (s.bytes ++ segment text from v) ++ segments text end v.end left
    rejoined = s.whole ∙ rw (next, segments_step text end from v left) (sym (append_assoc s.bytes (segment text from v) (segments text end v.end left)))

    pub so_far_more : (n : ℕ) (f : List ℕ) → Lays e at (segment text from v) (Some n) f → SoFar d text end all f n v.end left
    so_far_more n f l = record { bytes = s.bytes ++ segment text from v; lays = lays_then d 0 s.bytes at e (segment text from v) (Some n) f s.lays l; whole = rejoined }

    pub so_far_full : (f : List ℕ) → Lays e at (segment text from v) None f → length d < 0 + length (segments text end 0 all)
    so_far_full f l =
        let x = lays_then d 0 s.bytes at e (segment text from v) None f s.lays l in
        rw rejoined (omega (arith, x, length-append (s.bytes ++ segment text from v) (segments text end v.end left)))

  pub so_far_end : (e : List ℕ) (at from : ℕ) (s : SoFar d text end all e at from []) (r : Option ℕ) (f : List ℕ) → Lays e at (part text from end) r f → Lays d 0 (segments text end 0 all) r f
  so_far_end e at from s r f l = rw (s.whole, segments_end text end from) (lays_then d 0 s.bytes at e (part text from end) r f s.lays l)

-- ---- the code in a buffer that has no other use

pub written : (d code : List ℕ) (o : Option ℕ) (e : List ℕ) → Lays d 0 code o e → (ok_or o DoesNotFit ≡ cond (leb (length code) (length d)) (Ok (length code)) (Err DoesNotFit)) × (take (written_length (ok_or o DoesNotFit)) e ≡ cond (leb (length code) (length d)) code [])
written d code (Some n) e l =
    let n' : n ≡ length code = omega (arith, l.0) in
    let f : leb (length code) (length d) ≡ true = le-leb (length code) (length d) (omega (arith, l.1, n')) in
    let g : take (0 + length code) (laid d 0 code) ≡ code = take-laid d 0 code (omega (arith, l.1, n')) in
    rw f (ap Ok n', ap (λ (m : ℕ). take m e) l.0 ∙ ap (take (0 + length code)) l.2 ∙ g)
written d code None e l = rw (lt-leb (length code) (length d) (omega (arith, l))) (refl, refl)
