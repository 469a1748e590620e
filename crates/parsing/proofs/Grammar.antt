-- A list is read exactly if it is a pattern of the manual's grammar, and as that pattern.
-- Assumes nothing.
use mathlib.Core.Path.{◌≡◌, refl, sym, ap, ◌∙◌}
use mathlib.Core.Bool.{Bool, true, false, cond, ◌||◌, true≢false}
use mathlib.Core.List.{List, [], ◌∷◌, ◌++◌, append_assoc, append-nil}
use mathlib.Core.Logic.{◌↔◌}
use Prim.Native.Nat.{ℕ, zero, suc, ◌+◌, ◌*◌, ◌≤◌}
use native.Mathlib.Nat.{add-zero, zero-add}
use native.Mathlib.Numerals.{add-one}
use native.Mathlib.Omega.{arith}
use lib.Dec.{leb}
use lib.ListN.{length, length-append}
use borrow.Author.Tests.{eqb-true, eqb-false, eq-eqb, ne_eqb, lt-leb, leb-false}
use Rattle.std.proofs.Common.{Option, Some, None}
use Rattle.errors.specs.declared.Refusal.{Refusal}
use Rattle.words.specs.Texts.{part, kind_text, not_text, literal_text, open_text, close_text}
use Rattle.words.proofs.TextLaws.{same_equal, equal_same}
use Rattle.tokens.specs.declared.Token.{Token}
use Rattle.tokens.specs.Tokens.{token_text, tokens_from, is_token_list, all_token_words, total_length}
use Rattle.parsing.specs.Reading.{Var, Element, plain, placeholder, vars, has_name, read, refused, Open, more, State, top, dollar, brace, inside, constraint, not_open, kind_open, kind_name, kind_close, closing, closed, is_ident, is_dollar, is_open_brace, is_colon, is_closing_brace, name_of, behind, Next, go, stop, follow, is_text, is_repeated, ended_as, step, run, reading, at_end}
use Rattle.parsing.specs.Steps.{mores}
use Rattle.parsing.specs.Grammar.{Ident, Dollar, LeftBrace, RightBrace, Colon, Says, Constraint, kind_literal, negated, Constraints, unconstrained, constrained, Placeholder, bare, braced, Pattern, nothing, token, place, New, Distinct, Reads}

-- a placeholder by its parts
abbrev var : ℕ → ℕ → Token → List ℕ → Var
var start end x ns = record { start = start; end = end; name = x; nots = ns }

vars-append : (es fs : List Element) → vars (es ++ fs) ≡ vars es ++ vars fs
unfolding vars
vars-append [] fs = refl
vars-append (plain t ∷ es) fs = vars-append es fs
vars-append (placeholder v ∷ es) fs = ap (λ vs. v ∷ vs) (vars-append es fs)

either_false : (a b : Bool) → (a || b) ≡ false → (a ≡ false) × (b ≡ false)
either_false true b h = absurd (true≢false h)
either_false false b h = (refl, h)

unread : (r : Refusal) (es : List Element) → refused r ≡ read es → ⊥
unread r es h = let z : ◌≡◌ {A = ℕ} 0 1 = cc in omega arith

-- what holds of both branches, each with its test
pick : (P : Next → Type 0) (b : Bool) (x y : Next) → (b ≡ true → P x) → (b ≡ false → P y) → P (cond b x y)
pick P true x y f g = f refl
pick P false x y f g = g refl

module _ (text : List ℕ) where
  says : (t : Token) (x : List ℕ) → Says text t x → is_text text t x ≡ true
  says t x h = rw h (equal_same x)

  -- ---- names

  new_unrepeated : (vs : List Var) (t : Token) → New text (token_text text t) vs → is_repeated text vs t ≡ false
  unfolding has_name
  new_unrepeated [] t h = refl
  new_unrepeated (v ∷ vs) t h = by (is_text text v.name (token_text text t)) refl (new_unrepeated vs t h.1)
    where
      by : (b : Bool) → is_text text v.name (token_text text t) ≡ b → is_repeated text vs t ≡ false → is_repeated text (v ∷ vs) t ≡ false
      by true e r = absurd (h.0 (same_equal _ _ e))
      by false e r = rw e r

  unrepeated_new : (vs : List Var) (t : Token) → is_repeated text vs t ≡ false → New text (token_text text t) vs
  unfolding has_name
  unrepeated_new [] t h = tt
  unrepeated_new (v ∷ vs) t h =
      let k = either_false (is_text text v.name (token_text text t)) (is_repeated text vs t) h in
      (λ s. true≢false (sym (says v.name (token_text text t) s) ∙ k.0), unrepeated_new vs t k.1)

  new_snoc : (x : List ℕ) (vs : List Var) (v : Var) → New text x vs → (Says text v.name x → ⊥) → New text x (vs ++ (v ∷ []))
  new_snoc x [] v h n = (n, tt)
  new_snoc x (u ∷ vs) v h n = (h.0, new_snoc x vs v h.1 n)

  distinct_snoc : (vs : List Var) (v : Var) → Distinct text vs → New text (token_text text v.name) vs → Distinct text (vs ++ (v ∷ []))
  distinct_snoc [] v h n = (tt, tt)
  distinct_snoc (u ∷ vs) v h n = (new_snoc (token_text text u.name) vs v h.0 (λ s. n.0 (sym s)), distinct_snoc vs v h.1 n.1)

  new_apart : (x : List ℕ) (vs ws : List Var) (v : Var) → New text x (vs ++ (v ∷ ws)) → Says text v.name x → ⊥
  new_apart x [] ws v h = h.0
  new_apart x (u ∷ vs) ws v h = new_apart x vs ws v h.1

  distinct_new : (vs ws : List Var) (v : Var) → Distinct text (vs ++ (v ∷ ws)) → New text (token_text text v.name) vs
  distinct_new [] ws v h = tt
  distinct_new (u ∷ vs) ws v h = (λ s. new_apart (token_text text u.name) vs ws v h.0 (sym s), distinct_new vs ws v h.1)

  -- ---- from the grammar to the machine

  -- one token
  on : (acc acc' : List Element) (s s' : State) (t : Token) (ts : List Token) → step text acc s t ≡ go acc' s' → run text acc s (t ∷ ts) ≡ run text acc' s' ts
  unfolding run
  on acc acc' s s' t ts e = ap (λ n. follow n (λ acc s. run text acc s ts)) e

  not_kind : (t : Token) → Says text t not_text → is_text text t kind_text ≡ false
  not_kind t h = rw h

  module _ (acc : List Element) (p : Open) where
    runs_constraint : {cs : List Token} {m : ℕ} → Constraint text cs m → (n : ℕ) (ts : List Token) → run text acc (constraint p n) (cs ++ ts) ≡ run text acc (closed p (n + m) n) ts
    runs_constraint (kind_literal k o x c hk ho hx hl hc) n ts =
        on acc acc (constraint p n) (kind_open p n) k (o ∷ x ∷ c ∷ ts) (rw (says k kind_text hk))
        ∙ on acc acc (kind_open p n) (kind_name p n) o (x ∷ c ∷ ts) (rw (says o open_text ho))
        ∙ on acc acc (kind_name p n) (kind_close p n x) x (c ∷ ts) (rw hx)
        ∙ on acc acc (kind_close p n x) (closed p n n) c ts (rw (says c close_text hc, says x literal_text hl))
        ∙ rw (add-zero n)
    runs_constraint (negated k o c {a = a} {n = m} hk ho h hc) n ts =
        on acc acc (constraint p n) (not_open p n) k (o ∷ (a ++ (c ∷ []) ++ ts)) (rw (not_kind k hk, says k not_text hk))
        ∙ on acc acc (not_open p n) (constraint p (n + 1)) o (a ++ (c ∷ []) ++ ts) (rw (says o open_text ho))
        ∙ rw (append_assoc a (c ∷ []) ts, add-one n) (runs_constraint h (suc n) (c ∷ ts))
        ∙ on acc acc (closing p (suc n + m) n) (closed p (suc n + m) n) c ts (rw (says c close_text hc))
        ∙ ap (λ k. run text acc (closed p k n) ts) (omega arith)

  runs_constraints : {cs : List Token} {ns : List ℕ} → Constraints text cs ns → (acc : List Element) (p : Open) (ts : List Token) → run text acc (inside p) (cs ++ ts) ≡ run text acc (inside (mores p ns)) ts
  runs_constraints unconstrained acc p ts = rw (append-nil p.nots)
  runs_constraints (constrained t {a = a} {b = cs} {n = n} {ns = ns} ht h hs) acc p ts =
      on acc acc (inside p) (constraint p 0) t (a ++ cs ++ ts) (rw ht)
      ∙ rw (append_assoc a cs ts) (runs_constraint acc p h 0 (cs ++ ts) ∙ rw (zero-add n, ← append_assoc p.nots (n ∷ []) ns) (runs_constraints hs acc (more p n) ts))

  module _ (acc : List Element) where
    runs_placeholder : {ps : List Token} {v : Var} → Placeholder text ps v → is_repeated text (vars acc) v.name ≡ false → leb 8 (length (vars acc)) ≡ false → (ts : List Token) → run text acc top (ps ++ ts) ≡ run text (acc ++ (placeholder v ∷ [])) top ts
    runs_placeholder (bare d x hd hx) new few ts =
        on acc acc top (dollar d.range.start) d (x ∷ ts) (rw hd)
        ∙ on acc _ (dollar d.range.start) top x ts (rw (eq-eqb x.kind 1 hx, new, few))
    runs_placeholder (braced d o x c {cs = cs} {ns = ns} hd ho hx h hc) new few ts =
        let p : Open = record { start = d.range.start; name = Some x; nots = [] } in
        on acc acc top (dollar d.range.start) d (o ∷ x ∷ (cs ++ (c ∷ []) ++ ts)) (rw hd)
        ∙ on acc acc (dollar d.range.start) (brace d.range.start) o (x ∷ (cs ++ (c ∷ []) ++ ts)) (rw ho)
        ∙ on acc acc (brace d.range.start) (inside p) x (cs ++ (c ∷ []) ++ ts) (rw (eq-eqb x.kind 1 hx))
        ∙ rw (append_assoc cs (c ∷ []) ts) (runs_constraints h acc p (c ∷ ts))
        ∙ on acc _ (inside (mores p ns)) top c ts (rw (hc, new, few))

  runs_pattern : {ts : List Token} {es : List Element} → Pattern text ts es → (acc : List Element) → Distinct text (vars (acc ++ es)) → length (vars (acc ++ es)) ≤ 8 → run text acc top ts ≡ read (acc ++ es)
  unfolding run vars
  runs_pattern nothing acc d k = rw (append-nil acc)
  runs_pattern (token t {ts = ts} {es = es} h q) acc d k =
      on acc (acc ++ (plain t ∷ [])) top top t ts (rw (ne_eqb t.kind 8 h))
      ∙ rw (← append_assoc acc (plain t ∷ []) es) (runs_pattern q (acc ++ (plain t ∷ [])) (rw (append_assoc acc (plain t ∷ []) es) d) (rw (append_assoc acc (plain t ∷ []) es) k))
  runs_pattern (place {ts = ts} {v = v} {es = es} h q) acc d k =
      runs_placeholder acc h
      (new_unrepeated (vars acc) v.name (distinct_new (vars acc) (vars es) v (rw (vars-append acc (placeholder v ∷ es)) at d)))
      (lt-leb 8 (length (vars acc)) (omega (arith, ap length (vars-append acc (placeholder v ∷ es)), length-append (vars acc) (v ∷ vars es)))) ts
      ∙ rw (← append_assoc acc (placeholder v ∷ []) es) (runs_pattern q (acc ++ (placeholder v ∷ [])) (rw (append_assoc acc (placeholder v ∷ []) es) d) (rw (append_assoc acc (placeholder v ∷ []) es) k))

  -- ---- from the machine to the grammar: what may follow in each state

  -- constraints and `}`
  data Inside (p : Open) : List Token → Var → Type 0 where
    ends : (x c : Token) {cs : List Token} {ns : List ℕ} → p.name ≡ Some x → Constraints text cs ns → RightBrace c → Inside p (cs ++ (c ∷ [])) (var p.start (behind c) x (p.nots ++ ns))

  -- k times `)` first
  data Closing (p : Open) (n : ℕ) : ℕ → List Token → Var → Type 0 where
    all : {ps : List Token} {v : Var} → Inside (more p n) ps v → Closing p n zero ps v
    close : (t : Token) {k : ℕ} {ps : List Token} {v : Var} → Says text t close_text → Closing p n k ps v → Closing p n (suc k) (t ∷ ps) v

  -- a constraint first, inside n `not`s
  data Negated (p : Open) (n : ℕ) : List Token → Var → Type 0 where
    begins : {cs ps : List Token} {m : ℕ} {v : Var} → Constraint text cs m → Closing p (n + m) n ps v → Negated p n (cs ++ ps) v

  -- the rest of a placeholder, then a pattern
  data Then (R : List Token → Var → Type 0) : List Token → List Element → Type 0 where
    and_then : {ps ts : List Token} {v : Var} {es : List Element} → R ps v → Pattern text ts es → Then R (ps ++ ts) (placeholder v ∷ es)

  -- where a placeholder or a constraint has begun, its rest is what completes it, whichever tokens it began with
  abbrev Accepts : State → List Token → List Element → Type 0
  Accepts top ts es = Pattern text ts es
  Accepts (dollar s) ts es = Then (λ ps v. (d : Token) → Dollar d → d.range.start ≡ s → Placeholder text (d ∷ ps) v) ts es
  Accepts (brace s) ts es = Then (λ ps v. (d o : Token) → Dollar d → d.range.start ≡ s → LeftBrace o → Placeholder text (d ∷ o ∷ ps) v) ts es
  Accepts (inside p) ts es = Then (Inside p) ts es
  Accepts (constraint p n) ts es = Then (Negated p n) ts es
  Accepts (not_open p n) ts es = Then (λ ps v. (k : Token) → Says text k not_text → Negated p n (k ∷ ps) v) ts es
  Accepts (kind_open p n) ts es = Then (λ ps v. (k : Token) → Says text k kind_text → Negated p n (k ∷ ps) v) ts es
  Accepts (kind_name p n) ts es = Then (λ ps v. (k o : Token) → Says text k kind_text → Says text o open_text → Negated p n (k ∷ o ∷ ps) v) ts es
  Accepts (kind_close p n x) ts es = Then (λ ps v. (k o : Token) → Says text k kind_text → Says text o open_text → Ident x → Negated p n (k ∷ o ∷ x ∷ ps) v) ts es
  Accepts (closing p n k) ts es = Then (Closing p n (suc k)) ts es

  -- one token before the rest of a placeholder
  before : {R S : List Token → Var → Type 0} (t : Token) → ((ps : List Token) (v : Var) → R ps v → S (t ∷ ps) v) → (ts : List Token) (es : List Element) → Then R ts es → Then S (t ∷ ts) es
  before t f ts es (and_then {ps = ps} {v = v} r q) = and_then (f ps v r) q

  all_closed : (p : Open) (n k : ℕ) (ts : List Token) (es : List Element) → Accepts (closed p n k) ts es → Then (Closing p n k) ts es
  all_closed p n zero ts es (and_then r q) = and_then (all r) q
  all_closed p n (suc k) ts es r = r

  -- ---- a token of each state

  before-first : (s : ℕ) (x : Token) (ps : List Token) (v : Var) → Inside (record { start = s; name = name_of x; nots = [] }) ps v → (d o : Token) → Dollar d → d.range.start ≡ s → LeftBrace o → Placeholder text (d ∷ o ∷ x ∷ ps) v
  before-first s x ps v (ends y c {cs = cs} {ns = ns} n h hc) d o hd e ho = by (is_ident x) refl
    where
      by : (b : Bool) → is_ident x ≡ b → Placeholder text (d ∷ o ∷ x ∷ (cs ++ (c ∷ []))) (var s (behind c) y ns)
      by true i = let f : Some x ≡ Some y = rw i at n in let g : x ≡ y = cc in rw (← g, ← e) (braced d o x c hd ho (eqb-true x.kind 1 i) h hc)
      by false i = absurd (let f : None ≡ Some y = rw i at n in let z : ◌≡◌ {A = ℕ} 0 1 = cc in omega arith)

  before-constraint : (p : Open) (t : Token) → Colon t → (ps : List Token) (v : Var) → Negated p 0 ps v → Inside p (t ∷ ps) v
  before-constraint p t ht ps v (begins {cs = a} {ps = qs} {m = m} h r) = by m qs v h r
    where
      step : (m : ℕ) (qs : List Token) (v : Var) → Constraint text a m → Inside (more p (0 + m)) qs v → Inside p (t ∷ (a ++ qs)) v
      step m _ _ h (ends x c {cs = cs} {ns = ns} n hs hc) = rw (← append_assoc a cs (c ∷ []), zero-add m, append_assoc p.nots (m ∷ []) ns) (ends x c n (constrained t ht h hs) hc)

      by : (m : ℕ) (qs : List Token) (v : Var) → Constraint text a m → Closing p (0 + m) 0 qs v → Inside p (t ∷ (a ++ qs)) v
      by m qs v h (all i) = step m qs v h i

  before_not : (p : Open) (n : ℕ) (o : Token) → Says text o open_text → (ps : List Token) (v : Var) → Negated p (n + 1) ps v → (k : Token) → Says text k not_text → Negated p n (k ∷ o ∷ ps) v
  before_not p n o ho ps v (begins {cs = a} {m = m} h r) k hk = by _ (rw add-one at r)
    where
      by : (qs : List Token) → Closing p (suc n + m) (suc n) qs v → Negated p n (k ∷ o ∷ (a ++ qs)) v
      by qs (close c {ps = qs'} hc r) = rw (← append_assoc a (c ∷ []) qs') (begins {ps = qs'} {v = v} (negated k o c hk ho h hc) (let e : n + suc m ≡ suc n + m = omega arith in rw e r))

  before-kind : (p : Open) (n : ℕ) (x c : Token) → Says text x literal_text → Says text c close_text → (ps : List Token) (v : Var) → Closing p n n ps v → (k o : Token) → Says text k kind_text → Says text o open_text → Ident x → Negated p n (k ∷ o ∷ x ∷ c ∷ ps) v
  before-kind p n x c hl hc ps v r k o hk ho hx = begins {ps = ps} {v = v} (kind_literal k o x c hk ho hx hl hc) (rw (add-zero n) r)

  -- ---- a step of the machine

  -- what holds of the placeholders read so far
  record Kept (vs : List Var) : Type 0 where
    distinct : Distinct text vs
    few : length vs ≤ 8

  -- the elements that a token adds, with what it may stand before
  record Stepped (acc acc' : List Element) (s s' : State) (t : Token) : Type 0 where
    added : List Element
    joined : acc' ≡ acc ++ added
    accepts : (ts : List Token) (es : List Element) → Accepts s' ts es → Accepts s (t ∷ ts) (added ++ es)
    kept : Kept (vars acc) → Kept (vars acc')

  -- nothing is said of a refusal
  abbrev Steps : List Element → State → Token → Next → Type 0
  Steps acc s t (go acc' s') = Stepped acc acc' s s' t
  Steps acc s t (stop r) = Unit {0}

  -- a token that adds no element
  quiet : (acc : List Element) (s s' : State) (t : Token) → ((ts : List Token) (es : List Element) → Accepts s' ts es → Accepts s (t ∷ ts) es) → Stepped acc acc s s' t
  quiet acc s s' t f = record { added = []; joined = sym (append-nil acc); accepts = f; kept = λ k. k }

  kept-plain : (acc : List Element) (t : Token) → Kept (vars acc) → Kept (vars (acc ++ (plain t ∷ [])))
  unfolding vars
  kept-plain acc t k = rw (vars-append acc (plain t ∷ []), append-nil (vars acc)) k

  kept_more : (acc : List Element) (v : Var) → is_repeated text (vars acc) v.name ≡ false → leb 8 (length (vars acc)) ≡ false → Kept (vars acc) → Kept (vars (acc ++ (placeholder v ∷ [])))
  unfolding vars
  kept_more acc v r l k =
      rw (vars-append acc (placeholder v ∷ [])) (record {
        distinct = distinct_snoc (vars acc) v k.distinct (unrepeated_new (vars acc) v.name r);
        few = omega (arith, leb-false 8 (length (vars acc)) l, length-append (vars acc) (v ∷ []));
      })

  -- the token at which a placeholder ends
  steps_end : (acc : List Element) (s : State) (t : Token) (start : ℕ) (name : Option Token) (ns : List ℕ) (end : ℕ) → ((x : Token) → name ≡ Some x → (ts : List Token) (es : List Element) → Pattern text ts es → Accepts s (t ∷ ts) (placeholder (var start end x ns) ∷ es)) → Steps acc s t (ended_as text acc start name ns end)
  steps_end acc s t start None ns end f = tt
  steps_end acc s t start (Some x) ns end f =
      let v : Var = var start end x ns in
      pick (Steps acc s t) (is_repeated text (vars acc) x) _ _ (λ e. tt) (λ r. pick (Steps acc s t) (leb 8 (length (vars acc))) _ _ (λ e. tt) (λ l. record { added = placeholder v ∷ []; joined = refl; accepts = f x refl; kept = kept_more acc v r l }))

  at-dollar : (t : Token) → Dollar t → (ts : List Token) (es : List Element) → Accepts (dollar t.range.start) ts es → Pattern text (t ∷ ts) es
  at-dollar t h ts es (and_then r q) = place (r t h refl) q

  at_name : (s : ℕ) (t : Token) → Ident t → (x : Token) → Some t ≡ Some x → (ts : List Token) (es : List Element) → Pattern text ts es → Accepts (dollar s) (t ∷ ts) (placeholder (var s (behind t) x []) ∷ es)
  at_name s t h x e ts es q = and_then {ps = t ∷ []} {v = var s (behind t) x []} (λ d hd i. let g : t ≡ x = cc in rw (← g, ← i) (bare d t hd h)) q

  at-brace : (p : Open) (t : Token) → RightBrace t → (x : Token) → p.name ≡ Some x → (ts : List Token) (es : List Element) → Pattern text ts es → Accepts (inside p) (t ∷ ts) (placeholder (var p.start (behind t) x p.nots) ∷ es)
  at-brace p t h x e ts es q = let r : Inside p (t ∷ []) (var p.start (behind t) x (p.nots ++ [])) = ends x t e unconstrained h in and_then {ps = t ∷ []} (rw (append-nil p.nots) at r) q

  says_so : (t : Token) (x : List ℕ) → is_text text t x ≡ true → Says text t x
  says_so t x = same_equal (token_text text t) x

  module _ (acc : List Element) where
    -- a token that a state wants by its test, or the list is refused
    wants : (s s' : State) (t : Token) (b : Bool) (x : Next) → (b ≡ true → (ts : List Token) (es : List Element) → Accepts s' ts es → Accepts s (t ∷ ts) es) → Steps acc s t x → Steps acc s t (cond b (go acc s') x)
    wants s s' t b x f g = pick (Steps acc s t) b (go acc s') x (λ e. quiet acc s s' t (f e)) (λ e. g)

    steps : (s : State) (t : Token) → Steps acc s t (step text acc s t)
    steps top t = pick (Steps acc top t) (is_dollar t) _ _ (λ e. quiet acc top (dollar t.range.start) t (at-dollar t (eqb-true t.kind 8 e))) (λ e. record { added = plain t ∷ []; joined = refl; accepts = λ ts es q. token t (eqb-false t.kind 8 e) q; kept = kept-plain acc t })
    steps (dollar s) t = pick (Steps acc (dollar s) t) (is_ident t) _ _ (λ e. steps_end acc (dollar s) t s (Some t) [] (behind t) (at_name s t (eqb-true t.kind 1 e))) (λ _. wants (dollar s) (brace s) t (is_open_brace t) _ (λ e. before t (λ ps v r d hd i. r d t hd i (eqb-true t.kind 9 e))) tt)
    steps (brace s) t = quiet acc (brace s) _ t (before t (before-first s t))
    steps (inside p) t = wants (inside p) (constraint p 0) t (is_colon t) _ (λ e. before t (before-constraint p t (eqb-true t.kind 10 e))) (pick (Steps acc (inside p) t) (is_closing_brace t) _ _ (λ e. steps_end acc (inside p) t p.start p.name p.nots (behind t) (at-brace p t (eqb-true t.kind 6 e))) (λ _. tt))
    steps (constraint p n) t = wants (constraint p n) (kind_open p n) t (is_text text t kind_text) _ (λ e. before t (λ ps v r. r t (says_so t kind_text e))) (wants (constraint p n) (not_open p n) t (is_text text t not_text) _ (λ e. before t (λ ps v r. r t (says_so t not_text e))) tt)
    steps (not_open p n) t = wants (not_open p n) (constraint p (n + 1)) t (is_text text t open_text) _ (λ e. before t (before_not p n t (says_so t open_text e))) tt
    steps (kind_open p n) t = wants (kind_open p n) (kind_name p n) t (is_text text t open_text) _ (λ e. before t (λ ps v r k hk. r k t hk (says_so t open_text e))) tt
    steps (kind_name p n) t = wants (kind_name p n) (kind_close p n t) t (is_ident t) _ (λ e. before t (λ ps v r k o hk ho. r k o hk ho (eqb-true t.kind 1 e))) tt
    steps (kind_close p n x) t = pick (Steps acc (kind_close p n x) t) (is_text text t close_text) _ _ (λ e. wants (kind_close p n x) (closed p n n) t (is_text text x literal_text) _ (λ l ts es r. before t (before-kind p n x t (says_so x literal_text l) (says_so t close_text e)) ts es (all_closed p n n ts es r)) tt) (λ _. tt)
    steps (closing p n k) t = wants (closing p n k) (closed p n k) t (is_text text t close_text) _ (λ e ts es r. before t (λ ps v. close t (says_so t close_text e)) ts es (all_closed p n k ts es r)) tt

  -- ---- a whole list

  -- what is read from a state on, behind the elements read before
  record Found (acc : List Element) (s : State) (ts : List Token) (es : List Element) : Type 0 where
    more_read : List Element
    joined : es ≡ acc ++ more_read
    accepts : Accepts s ts more_read
    kept : Kept (vars es)

  found_end : (acc : List Element) (s : State) (es : List Element) → Kept (vars acc) → at_end acc s ≡ read es → Found acc s [] es
  found_end acc top es k h = let e : acc ≡ es = cc in record { more_read = []; joined = sym e ∙ sym (append-nil acc); accepts = nothing; kept = rw e at k }
  found_end acc (dollar s) es k h = absurd (unread _ es h)
  found_end acc (brace s) es k h = absurd (unread _ es h)
  found_end acc (inside p) es k h = absurd (unread _ es h)
  found_end acc (constraint p n) es k h = absurd (unread _ es h)
  found_end acc (not_open p n) es k h = absurd (unread _ es h)
  found_end acc (kind_open p n) es k h = absurd (unread _ es h)
  found_end acc (kind_name p n) es k h = absurd (unread _ es h)
  found_end acc (kind_close p n x) es k h = absurd (unread _ es h)
  found_end acc (closing p n j) es k h = absurd (unread _ es h)

  found : (ts : List Token) (acc : List Element) (s : State) (es : List Element) → Kept (vars acc) → run text acc s ts ≡ read es → Found acc s ts es
  unfolding run
  found [] acc s es k h = found_end acc s es k h
  found (t ∷ ts) acc s es k h = by (step text acc s t) (steps acc s t) h (λ acc s. found ts acc s es)
    where
      by : (n : Next) → Steps acc s t n → follow n (λ acc s. run text acc s ts) ≡ read es → ((acc : List Element) (s : State) → Kept (vars acc) → run text acc s ts ≡ read es → Found acc s ts es) → Found acc s (t ∷ ts) es
      by (go acc' s') a e f =
          let r = f acc' s' (a.kept k) e in
          record {
            more_read = a.added ++ r.more_read;
            joined = r.joined ∙ ap (λ l. l ++ r.more_read) a.joined ∙ append_assoc acc a.added r.more_read;
            accepts = a.accepts ts r.more_read r.accepts;
            kept = r.kept;
          }
      by (stop r) a e f = absurd (unread r es e)

-- a list is read exactly if it is well-formed and splits into tokens and placeholders, at most eight, with distinct names
pub read_exactly : (words text : List ℕ) (es : List Element) → (reading words text ≡ read es) ↔ Reads words text es
unfolding reading vars
read_exactly words text es = (reads (is_token_list words text) refl, λ r. rw r.formed (runs_pattern text r.split [] r.distinct r.few))
  where
    reads : (b : Bool) → is_token_list words text ≡ b → reading words text ≡ read es → Reads words text es
    reads true b h =
        let f = found text (tokens_from words 0) [] top es (record { distinct = tt; few = omega arith }) (rw b at h) in
        rw f.joined (record { formed = b; split = f.accepts; distinct = rw f.joined at f.kept.distinct; few = rw f.joined at f.kept.few })
    reads false b h = absurd (unread _ es (rw b at h))

-- and in one way
pub read_once : (words text : List ℕ) (es fs : List Element) → Reads words text es → Reads words text fs → es ≡ fs
read_once words text es fs a b = let e = (read_exactly words text es).1 a in let f = (read_exactly words text fs).1 b in cc

-- ---- examples

-- the word of a token of a kind, so many bytes long
abbrev word : ℕ → ℕ → ℕ
word k n = 536870912 + k * 65536 + n

-- `x$a`
short : Reads (word 1 1 ∷ word 8 1 ∷ word 1 1 ∷ []) (120 ∷ 36 ∷ 97 ∷ []) (plain (record { kind = 1; range = record { start = 0; end = 1 } }) ∷ placeholder (var 1 3 (record { kind = 1; range = record { start = 2; end = 3 } }) []) ∷ [])
unfolding reading run is_token_list all_token_words total_length tokens_from has_name vars
short = (read_exactly _ _ _).0 refl

-- `${a:not(kind(literal))}`
long : Reads (word 8 1 ∷ word 9 1 ∷ word 1 1 ∷ word 10 1 ∷ word 1 3 ∷ word 168 1 ∷ word 1 4 ∷ word 168 1 ∷ word 1 7 ∷ word 5 1 ∷ word 5 1 ∷ word 6 1 ∷ []) (36 ∷ 123 ∷ 97 ∷ 58 ∷ not_text ++ open_text ++ kind_text ++ open_text ++ literal_text ++ close_text ++ close_text ++ (125 ∷ [])) (placeholder (var 0 23 (record { kind = 1; range = record { start = 2; end = 3 } }) (1 ∷ [])) ∷ [])
unfolding reading run is_token_list all_token_words total_length tokens_from has_name vars part
long = (read_exactly _ _ _).0 refl

-- `$a$a` is read in no way
twice : (es : List Element) → Reads (word 8 1 ∷ word 1 1 ∷ word 8 1 ∷ word 1 1 ∷ []) (36 ∷ 97 ∷ 36 ∷ 97 ∷ []) es → ⊥
unfolding reading run is_token_list all_token_words total_length tokens_from has_name vars part
twice es h = unread _ es ((read_exactly _ _ es).1 h)
