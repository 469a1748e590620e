-- Laws of the traces of fragments in turn: those of the first fragments and then of the rest, where one of them stops, and how far they reach.
-- Assumes nothing.
use mathlib.Core.Path.{◌≡◌, refl, sym, ap, ◌∙◌}
use mathlib.Core.Bool.{Bool, true, false, cond}
use mathlib.Core.List.{List, [], ◌∷◌, ◌++◌}
use Prim.Native.Nat.{ℕ, ◌+◌, ◌≤◌}
use native.Mathlib.Omega.{arith}
use lib.ListN.{length, drop, length-append, length-take, length-drop}
use Rattle.parses.specs.Ranges.{NodeRange}
use Rattle.parentheses.specs.Parentheses.{Part, requires, wrapped}
use Rattle.std.specs.Prelude.{Option, None, Some, Ok, Err}
use Rattle.std.specs.List.{concat}
use Rattle.rendering.specs.Events.{Event}
use Rattle.rendering.specs.Texts.{Fragment, is_parsed, parts_of}
use Rattle.rendering.specs.Traces.{Trace, stopped, reach, ◌then◌, Traces, behind, first, fragment_trace, traces_of, judged_trace, finished_trace, match_trace}
use Rattle.rendering.proofs.RoomLaws.{reach_then, length-concat}

-- ---- one trace behind another

pub then_stops : (t u : Trace) (n : ℕ) (e : Event) → t ≡ stopped n e → (t then u) ≡ stopped n e
unfolding ◌then◌
then_stops t u n e h = rw h

pub done_then_done : (xs ys : List ℕ) → (Ok xs then Ok ys) ≡ Ok (xs ++ ys)
unfolding ◌then◌
done_then_done xs ys = refl

pub done_then_stopped : (xs : List ℕ) (n : ℕ) (e : Event) → (Ok xs then stopped n e) ≡ stopped (length xs + n) e
unfolding ◌then◌
done_then_stopped xs n e = refl

pub reach-first_of : (t u : Trace) → reach t ≤ reach (t then u)
reach-first_of t u = omega (arith, reach_then t u)

pub reach_done_then : (xs : List ℕ) (u : Trace) → reach (Ok xs then u) ≡ length xs + reach u
reach_done_then xs u = reach_then (Ok xs) u

-- ---- fragments in turn

-- how many bytes they lay
abbrev pub reach_all : Traces → ℕ
reach_all (Ok ts) = length (concat ts)
reach_all (Err s) = s.at

-- texts in turn, and then the rest
unfoldable pub behind_all : List (List ℕ) → Traces → Traces
behind_all [] u = u
behind_all (t ∷ ts) u = behind t (behind_all ts u)

record Parted (u : Trace) (v : Traces) (ts : List (List ℕ)) : Type 0 where
  head : List ℕ
  others : List (List ℕ)
  head_is : u ≡ Ok head
  others_are : v ≡ Ok others
  whole : ts ≡ head ∷ others

parted : (u : Trace) (v : Traces) (ts : List (List ℕ)) → first u v ≡ Ok ts → Parted u v ts
parted (Ok x) (Ok xs) ts e = record { head = x; others = xs; head_is = refl; others_are = refl; whole = cc }
parted (Ok x) (Err s) ts e = absurd (let z : ◌≡◌ {A = ℕ} 0 1 = cc in omega arith)
parted (Err s) w ts e = absurd (let z : ◌≡◌ {A = ℕ} 0 1 = cc in omega arith)

pub traces_append : (hole : ℕ → Bool → Trace) (fs gs : List Fragment) (ts : List (List ℕ)) → traces_of hole fs ≡ Ok ts
    → traces_of hole (fs ++ gs) ≡ behind_all ts (traces_of hole gs)
unfolding traces_of behind_all
traces_append hole [] gs ts e = let f : ts ≡ [] = cc in rw f
traces_append hole (f ∷ fs) gs ts e =
    let p = parted (fragment_trace hole f) (traces_of hole fs) ts e in
    ap (λ (t : Trace). first t (traces_of hole (fs ++ gs))) p.head_is
    ∙ ap (behind p.head) (traces_append hole fs gs p.others p.others_are)
    ∙ ap (λ (l : List (List ℕ)). behind_all l (traces_of hole gs)) (sym p.whole)

pub behind_all-all : (ts us : List (List ℕ)) → behind_all ts (Ok us) ≡ Ok (ts ++ us)
unfolding behind_all
behind_all-all [] us = refl
behind_all-all (t ∷ ts) us = ap (behind t) (behind_all-all ts us)

pub behind_all_stops : (ts : List (List ℕ)) (n : ℕ) (e : Event) → behind_all ts (stopped n e) ≡ stopped (length (concat ts) + n) e
unfolding behind_all
behind_all_stops [] n e = ap (λ (k : ℕ). stopped k e) (omega arith)
behind_all_stops (t ∷ ts) n e = ap (behind t) (behind_all_stops ts n e) ∙ ap (λ (k : ℕ). stopped k e) (omega (arith, length-append t (concat ts)))

reach-behind : (t : List ℕ) (u : Traces) → reach_all (behind t u) ≡ length t + reach_all u
reach-behind t (Ok ts) = length-concat t ts
reach-behind t (Err s) = refl

pub reach-behind_all : (ts : List (List ℕ)) (u : Traces) → reach_all (behind_all ts u) ≡ length (concat ts) + reach_all u
unfolding behind_all
reach-behind_all [] u = omega arith
reach-behind_all (t ∷ ts) u = reach-behind t (behind_all ts u) ∙ omega (arith, reach-behind_all ts u, length-append t (concat ts))

pub reach-first : (u : Trace) (v : Traces) → reach u ≤ reach_all (first u v)
reach-first (Ok xs) v = omega (arith, reach-behind xs v)
reach-first (Err s) v = omega arith

-- ---- one fragment more, or one that stops

module _ (hole : ℕ → Bool → Trace) (fs gs : List Fragment) (f : Fragment) (ts : List (List ℕ)) (before : traces_of hole fs ≡ Ok ts) where
  pub one_more : (bs : List ℕ) → fragment_trace hole f ≡ Ok bs → traces_of hole (fs ++ (f ∷ [])) ≡ Ok (ts ++ (bs ∷ []))
  unfolding traces_of
  one_more bs e = traces_append hole fs (f ∷ []) ts before ∙ rw e (behind_all-all ts (bs ∷ []))

  pub one_stops : (n : ℕ) (v : Event) → fragment_trace hole f ≡ stopped n v → traces_of hole (fs ++ (f ∷ gs)) ≡ stopped (length (concat ts) + n) v
  unfolding traces_of
  one_stops n v e = traces_append hole fs (f ∷ gs) ts before ∙ rw e (behind_all_stops ts n v)

  pub one_reaches : length (concat ts) + reach (fragment_trace hole f) ≤ reach_all (traces_of hole (fs ++ (f ∷ gs)))
  unfolding traces_of
  one_reaches =
      let t = fragment_trace hole f in let v = traces_of hole gs in
      omega (arith, ap reach_all (traces_append hole fs (f ∷ gs) ts before), reach-behind_all ts (first t v), reach-first t v)

-- ---- the text of a match reaches as far as its fragments, parentheses only add

pub wrapped_longer : (ps : List Part) (ms : List Bool) (t : List ℕ) → length t ≤ length (wrapped ps ms t)
unfolding wrapped
wrapped_longer [] ms t = omega arith
wrapped_longer (p ∷ ps) [] t = omega arith
wrapped_longer (p ∷ ps) (true ∷ ms) t =
    let n = p.length in simp (length-append, length-take) (omega (arith, wrapped_longer ps ms (drop n t), length-drop n t))
wrapped_longer (p ∷ ps) (false ∷ ms) t =
    let n = p.length in simp (length-append, length-take) (omega (arith, wrapped_longer ps ms (drop n t), length-drop n t))

judged-reach : (kind : ℕ) (fs : List Fragment) (ts : List (List ℕ)) (l : Option (List NodeRange)) → length (concat ts) ≤ reach (judged_trace kind fs ts l)
judged-reach kind fs ts None = omega arith
judged-reach kind fs ts (Some []) = omega arith
judged-reach kind fs ts (Some (r ∷ rs)) = wrapped_longer (parts_of fs ts) (requires (r ∷ rs) 0 (parts_of fs ts)) (concat ts)

finished-reach : (kind : ℕ) (fs : List Fragment) (parse : ℕ → List ℕ → Option (List NodeRange)) (u : Traces) → reach_all u ≤ reach (finished_trace kind fs parse u)
finished-reach kind fs parse (Err s) = omega arith
finished-reach kind fs parse (Ok ts) = by (is_parsed kind)
  where
    by : (b : Bool) → length (concat ts) ≤ reach (cond b (judged_trace kind fs ts (parse kind (concat ts))) (Ok (concat ts)))
    by true = judged-reach kind fs ts (parse kind (concat ts))
    by false = omega arith

module _ (kind : ℕ) (fs : List Fragment) (comments : List ℕ) (parse : ℕ → List ℕ → Option (List NodeRange)) (hole : ℕ → Bool → Trace) where
  pub match_reach : reach_all (traces_of hole fs) ≤ reach (match_trace kind fs comments parse hole)
  unfolding match_trace
  match_reach =
      let u = traces_of hole fs in let t = finished_trace kind fs parse u in
      omega (arith, finished-reach kind fs parse u, reach-first_of t (Ok comments))

  pub match_stops : (n : ℕ) (e : Event) → traces_of hole fs ≡ stopped n e → match_trace kind fs comments parse hole ≡ stopped n e
  unfolding match_trace
  match_stops n e h = then_stops (finished_trace kind fs parse (traces_of hole fs)) (Ok comments) n e (ap (finished_trace kind fs parse) h)
