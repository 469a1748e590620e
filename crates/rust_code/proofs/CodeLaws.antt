-- The raw code of a read list is the text with each placeholder's bytes replaced by its stand-in name.
-- Assumes nothing.
use mathlib.Core.Path.{◌≡◌, refl, sym, ap, subst, ◌∙◌}
use mathlib.Core.Bool.{Bool, true, false, cond}
use mathlib.Core.List.{List, [], ◌∷◌, ◌++◌, append_assoc, append-nil, map}
use Prim.Native.Nat.{ℕ, zero, suc, ◌+◌, ◌≤◌}
use native.Mathlib.Omega.{arith}
use lib.Dec.{leb}
use borrow.Author.Tests.{ne_eqb, eq-eqb, leb-true}
use lib.ListN.{length}
use Rattle.std.proofs.Common.{◌≢◌, Some, None, Option}
use mathlib.Core.Logic.{◌⊎◌, inl, inr}
use Rattle.words.specs.Fields.{token_length}
use Rattle.words.specs.Texts.{part, kind_text, not_text, literal_text, open_text, close_text}
use Rattle.words.specs.declared.texts.Range.{Range}
use Rattle.words.proofs.TextLaws.{part_none, part_join}
use Rattle.tokens.specs.declared.Token.{Token}
use Rattle.tokens.specs.Tokens.{token_text, tokens_from, total_length, is_token_list}
use Rattle.tokens.proofs.Laws.{list_fills}
use Rattle.parsing.specs.Reading.{Var, Element, plain, placeholder, vars, Open, State, top, dollar, brace, inside, constraint, not_open, kind_open, kind_name, kind_close, closing, closed, is_ident, is_dollar, is_open_brace, is_colon, is_closing_brace, behind, Next, go, stop, follow, step, ended_as, is_repeated, is_text, at_end, run, read, reading}
use Rattle.rust_code.specs.RawCode.{raw_code, is_space, trim_start, unless_last, trim_end, tree_text}
use Rattle.rust_code.specs.Segments.{segments}
use Rattle.rust_code.specs.Trim.{Spaces, EndsAt, Between, Trimmed}

-- the byte where the element begins that a state is in, or the next byte between elements
abbrev start_at : State → ℕ → ℕ
start_at top at = at
start_at (dollar s) at = s
start_at (brace s) at = s
start_at (inside p) at = p.start
start_at (constraint p n) at = p.start
start_at (not_open p n) at = p.start
start_at (kind_open p n) at = p.start
start_at (kind_name p n) at = p.start
start_at (kind_close p n t) at = p.start
start_at (closing p n k) at = p.start

start_closed : (p : Open) (n k at : ℕ) → start_at (closed p n k) at ≡ p.start
start_closed p n zero at = refl
start_closed p n (suc k) at = refl

-- ---- one token: it stays in its element, passes a plain token or takes a placeholder

data Stepped (acc : List Element) (s : State) (t : Token) (acc' : List Element) (s' : State) : Type 0 where
  stayed : acc' ≡ acc → start_at s' (behind t) ≡ start_at s t.range.start → (s' ≡ top → ⊥) → Stepped acc s t acc' s'
  passed : s ≡ top → s' ≡ top → acc' ≡ acc ++ (plain t ∷ []) → Stepped acc s t acc' s'
  took : (v : Var) → v.start ≡ start_at s t.range.start → v.end ≡ behind t → s' ≡ top → acc' ≡ acc ++ (placeholder v ∷ []) → Stepped acc s t acc' s'

abbrev Goes : List Element → State → Token → Next → Type 0
Goes acc s t (go acc' s') = Stepped acc s t acc' s'
Goes acc s t (stop r) = Unit {0}

either : {A : Type 0} (P : A → Type 0) (b : Bool) (x y : A) → P x → P y → P (cond b x y)
either P true x y p q = p
either P false x y p q = q

not_closed : (p : Open) (n k : ℕ) → closed p n k ≡ top → ⊥
not_closed p n zero h = cc
not_closed p n (suc k) h = cc

module _ (text : List ℕ) (acc : List Element) (t : Token) where
  took_named : (s : State) (start : ℕ) (n : Option Token) (ns : List ℕ) → start ≡ start_at s t.range.start → Goes acc s t (ended_as text acc start n ns (behind t))
  took_named s start None ns e = tt
  took_named s start (Some x) ns e =
      either (Goes acc s t) (is_repeated text (vars acc) x) _ _ tt
      (either (Goes acc s t) (leb 8 (length (vars acc))) _ _ tt (took _ e refl refl refl))

  steps : (s : State) → Goes acc s t (step text acc s t)
  steps top = either (Goes acc top t) (is_dollar t) _ _ (stayed refl refl (λ e. cc)) (passed refl refl refl)
  steps (dollar s) =
      either (Goes acc (dollar s) t) (is_ident t) _ _ (took_named (dollar s) s (Some t) [] refl)
      (either (Goes acc (dollar s) t) (is_open_brace t) _ _ (stayed refl refl (λ e. cc)) tt)
  steps (brace s) = stayed refl refl (λ e. cc)
  steps (inside p) =
      either (Goes acc (inside p) t) (is_colon t) _ _ (stayed refl refl (λ e. cc))
      (either (Goes acc (inside p) t) (is_closing_brace t) _ _ (took_named (inside p) p.start p.name p.nots refl) tt)
  steps (constraint p n) =
      either (Goes acc (constraint p n) t) (is_text text t kind_text) _ _ (stayed refl refl (λ e. cc))
      (either (Goes acc (constraint p n) t) (is_text text t not_text) _ _ (stayed refl refl (λ e. cc)) tt)
  steps (not_open p n) = either (Goes acc (not_open p n) t) (is_text text t open_text) _ _ (stayed refl refl (λ e. cc)) tt
  steps (kind_open p n) = either (Goes acc (kind_open p n) t) (is_text text t open_text) _ _ (stayed refl refl (λ e. cc)) tt
  steps (kind_name p n) = either (Goes acc (kind_name p n) t) (is_ident t) _ _ (stayed refl refl (λ e. cc)) tt
  steps (kind_close p n x) =
      either (Goes acc (kind_close p n x) t) (is_text text t close_text) _ _
      (either (Goes acc (kind_close p n x) t) (is_text text x literal_text) _ _ (stayed refl (start_closed p n n (behind t)) (not_closed p n n)) tt) tt
  steps (closing p n k) = either (Goes acc (closing p n k) t) (is_text text t close_text) _ _ (stayed refl (start_closed p n k (behind t)) (not_closed p n k)) tt

-- a list that ends is between elements
ended_at : (acc es : List Element) (s : State) → at_end acc s ≡ read es → (s ≡ top) × (es ≡ acc)
ended_at acc es top h = (refl, cc)
ended_at acc es (dollar s) h = absurd (cc)
ended_at acc es (brace s) h = absurd (cc)
ended_at acc es (inside p) h = absurd (cc)
ended_at acc es (constraint p n) h = absurd (cc)
ended_at acc es (not_open p n) h = absurd (cc)
ended_at acc es (kind_open p n) h = absurd (cc)
ended_at acc es (kind_name p n) h = absurd (cc)
ended_at acc es (kind_close p n t) h = absurd (cc)
ended_at acc es (closing p n k) h = absurd (cc)

-- ---- spaces behind

abbrev Turns : List Element → State → Token → Next → Type 0
Turns acc s t (go acc' s') = ((s ≡ top) × (s' ≡ top) × (acc' ≡ acc ++ (plain t ∷ []))) ⊎ (s' ≡ top → ⊥)
Turns acc s t (stop r) = Unit {0}

module _ (text : List ℕ) (acc : List Element) (t : Token) (h : t.kind ≡ 2) where
  space_step : (s : State) → Turns acc s t (step text acc s t)
  space_step top = rw h (inl (refl, refl, refl))
  space_step (dollar s) = rw h tt
  space_step (brace s) = inr (λ e. cc)
  space_step (inside p) = rw h tt
  space_step (constraint p n) =
      either (Turns acc (constraint p n) t) (is_text text t kind_text) _ _ (inr (λ e. cc))
      (either (Turns acc (constraint p n) t) (is_text text t not_text) _ _ (inr (λ e. cc)) tt)
  space_step (not_open p n) = either (Turns acc (not_open p n) t) (is_text text t open_text) _ _ (inr (λ e. cc)) tt
  space_step (kind_open p n) = either (Turns acc (kind_open p n) t) (is_text text t open_text) _ _ (inr (λ e. cc)) tt
  space_step (kind_name p n) = rw h tt
  space_step (kind_close p n x) =
      either (Turns acc (kind_close p n x) t) (is_text text t close_text) _ _
      (either (Turns acc (kind_close p n x) t) (is_text text x literal_text) _ _ (inr (not_closed p n n)) tt) tt
  space_step (closing p n k) = either (Turns acc (closing p n k) t) (is_text text t close_text) _ _ (inr (not_closed p n k)) tt

module _ (text : List ℕ) (es : List Element) where
  spaces_behind : (ts : List Token) (acc : List Element) (s : State) → Spaces ts → run text acc s ts ≡ read es → (s ≡ top) × (es ≡ acc ++ map plain ts)
  unfolding run
  spaces_behind [] acc s k h = let e = ended_at acc es s h in (e.0, e.1 ∙ sym (append-nil acc))
  spaces_behind (t ∷ ts) acc s k h = by (step text acc s t) (space_step text acc t k.0 s) h (λ acc' s' h. spaces_behind ts acc' s' k.1 h)
    where
      by : (n : Next) → Turns acc s t n → follow n (λ acc s. run text acc s ts) ≡ read es → ((acc' : List Element) (s' : State) → run text acc' s' ts ≡ read es → (s' ≡ top) × (es ≡ acc' ++ map plain ts)) → (s ≡ top) × (es ≡ acc ++ (plain t ∷ map plain ts))
      by (stop r) g h f = absurd (cc)
      by (go acc' s') (inl g) h f = (g.0, (f acc' s' h).1 ∙ rw g.2 (append_assoc acc (plain t ∷ []) (map plain ts)))
      by (go acc' s') (inr g) h f = absurd (g (f acc' s' h).0)

-- ---- no space at the ends

abbrev StartsNotSpace : List Element → Type 0
StartsNotSpace [] = Unit {0}
StartsNotSpace (e ∷ es) = is_space e ≡ false

abbrev EndsNotSpace : List Element → Type 0
EndsNotSpace [] = ⊥
EndsNotSpace (e ∷ []) = is_space e ≡ false
EndsNotSpace (e ∷ x ∷ es) = EndsNotSpace (x ∷ es)

-- the first of some tokens is no space, and the last
abbrev FirstNotSpace : List Token → Type 0
FirstNotSpace [] = Unit {0}
FirstNotSpace (t ∷ ts) = t.kind ≢ 2

abbrev LastNotSpace : List Token → Type 0
LastNotSpace [] = ⊥
LastNotSpace (t ∷ []) = t.kind ≢ 2
LastNotSpace (t ∷ u ∷ ts) = LastNotSpace (u ∷ ts)

last_not_space : (ts : List Token) (end : ℕ) → EndsAt ts end → LastNotSpace ts
last_not_space [] end h = h
last_not_space (t ∷ []) end h = h.0
last_not_space (t ∷ u ∷ ts) end h = last_not_space (u ∷ ts) end h

ends_more : (e : Element) (es : List Element) → EndsNotSpace es → EndsNotSpace (e ∷ es)
ends_more e [] h = absurd h
ends_more e (x ∷ es) h = h

ends_not_space : (es : List Element) → EndsNotSpace es → trim_end es ≡ es
unfolding trim_end
ends_not_space [] h = absurd h
ends_not_space (e ∷ []) h = rw h
ends_not_space (e ∷ x ∷ es) h = rw (ends_not_space (x ∷ es) h)

-- what the last of the tokens in front says of the elements
abbrev Ends : State → List Token → List Element → Type 0
Ends s [] es = (s ≡ top) × (es ≡ [])
Ends s (t ∷ ts) es = LastNotSpace (t ∷ ts) → EndsNotSpace es

-- a token that stays in its element is not the last
ends_stayed : (s s' : State) (t : Token) (ts : List Token) (es : List Element) → (s' ≡ top → ⊥) → Ends s' ts es → Ends s (t ∷ ts) es
ends_stayed s s' t [] es n h = absurd (n h.0)
ends_stayed s s' t (u ∷ ts) es n h = h

-- one more element is the last, or stands before it
ends_one : (s s' : State) (t : Token) (ts : List Token) (e : Element) (es : List Element) → (t.kind ≢ 2 → is_space e ≡ false) → Ends s' ts es → Ends s (t ∷ ts) (e ∷ es)
ends_one s s' t [] e es f h = rw h.1 f
ends_one s s' t (u ∷ ts) e es f h = λ l. ends_more e es (h l)

-- ---- tokens that follow each other

abbrev Tiles : ℕ → List Token → ℕ → Type 0
Tiles at [] end = at ≡ end
Tiles at (t ∷ ts) end = (t.range.start ≡ at) × (at ≤ t.range.end) × Tiles t.range.end ts end

tiles_from : (words : List ℕ) (at : ℕ) → Tiles at (tokens_from words at) (at + total_length words)
unfolding tokens_from total_length
tiles_from [] at = omega arith
tiles_from (w ∷ ws) at =
    let n : at + token_length (w ∷ ws) + total_length ws ≡ at + (token_length (w ∷ ws) + total_length ws) = omega arith in
    (refl, omega arith, rw n at (tiles_from ws (at + token_length (w ∷ ws))))

tiles_order : (at end : ℕ) (ts : List Token) → Tiles at ts end → at ≤ end
tiles_order at end [] h = omega (arith, h)
tiles_order at end (t ∷ ts) h = omega (arith, h.1, tiles_order t.range.end end ts h.2)

-- where one part ends, the next begins
record Seam (at : ℕ) (a b : List Token) (end : ℕ) : Type 0 where
  seam : ℕ
  left : Tiles at a seam
  right : Tiles seam b end

tiles_split : (at end : ℕ) (a b : List Token) → Tiles at (a ++ b) end → Seam at a b end
tiles_split at end [] b h = record { seam = at; left = refl; right = h }
tiles_split at end (t ∷ a) b h = let s = tiles_split t.range.end end a b h.2 in record { seam = s.seam; left = (h.0, h.1, s.left); right = s.right }

tiles_end : (at b end : ℕ) (ts : List Token) → Tiles at ts b → EndsAt ts end → b ≡ end
tiles_end at b end [] h k = absurd k
tiles_end at b end (t ∷ []) h k = sym h.2 ∙ k.1
tiles_end at b end (t ∷ u ∷ ts) h k = tiles_end t.range.end b end (u ∷ ts) h.2 k

-- ---- the elements read from a state on

-- a byte that is not behind the first of the placeholders, nor they behind the end
abbrev Begins : ℕ → ℕ → List Var → Type 0
Begins end from [] = from ≤ end
Begins end from (v ∷ vs) = (from ≤ v.start) × (v.start ≤ end)

join_segments : (text : List ℕ) (end a b : ℕ) (vs : List Var) → end ≤ length text → a ≤ b → Begins end b vs → part text a b ++ segments text end b vs ≡ segments text end a vs
unfolding segments
join_segments text end a b [] l h k = part_join text a b end h k l
join_segments text end a b (v ∷ vs) l h k =
    let j : part text a b ++ part text b v.start ≡ part text a v.start = part_join text a b v.start h k.0 (omega (arith, k.1)) in
    rw (← j) (simp append_assoc)

begins_less : (end a b : ℕ) (vs : List Var) → a ≤ b → Begins end b vs → Begins end a vs
begins_less end a b [] h k = omega arith
begins_less end a b (v ∷ vs) h k = (omega (arith, k.0), k.1)

-- the elements of the tokens in front, whose text ends at a byte, with spaces behind them
record Rest (text : List ℕ) (end : ℕ) (trail acc es : List Element) (s : State) (front : List Token) (from : ℕ) : Type 0 where
  elements : List Element
  joined : es ≡ acc ++ elements ++ trail
  code : raw_code text elements ≡ segments text end from (vars elements)
  begins : Begins end from (vars elements)
  starts : (s ≡ top → FirstNotSpace front) → StartsNotSpace elements
  ends : Ends s front elements

module _ (text : List ℕ) (end : ℕ) (fits : end ≤ length text) (trail es acc : List Element) (s : State) (t : Token) (ts : List Token) (order : t.range.start ≤ t.range.end) where
  rest-stayed : (s' : State) (from : ℕ) → (s' ≡ top → ⊥) → Rest text end trail acc es s' ts from → Rest text end trail acc es s (t ∷ ts) from
  rest-stayed s' from n r = record {
    elements = r.elements;
    joined = r.joined;
    code = r.code;
    begins = r.begins;
    starts = λ f. r.starts (λ e. absurd (n e));
    ends = ends_stayed s s' t ts r.elements n r.ends;
  }

  rest_plain : s ≡ top → Rest text end trail (acc ++ (plain t ∷ [])) es top ts (behind t) → Rest text end trail acc es s (t ∷ ts) t.range.start
  unfolding raw_code vars
  rest_plain h r = record {
    elements = plain t ∷ r.elements;
    joined = r.joined ∙ ap (λ x. x ++ trail) (append_assoc acc (plain t ∷ []) r.elements);
    code = ap (λ x. token_text text t ++ x) r.code ∙ join_segments text end t.range.start (behind t) (vars r.elements) fits order r.begins;
    begins = begins_less end t.range.start (behind t) (vars r.elements) order r.begins;
    starts = λ f. ne_eqb t.kind 2 (f h);
    ends = ends_one s top t ts (plain t) r.elements (λ n. ne_eqb t.kind 2 n) r.ends;
  }

  rest-placeholder : (v : Var) (from : ℕ) → v.start ≡ from → v.end ≡ behind t → from ≤ end → Rest text end trail (acc ++ (placeholder v ∷ [])) es top ts (behind t) → Rest text end trail acc es s (t ∷ ts) from
  unfolding raw_code vars segments
  rest-placeholder v from h e k r = record {
    elements = placeholder v ∷ r.elements;
    joined = r.joined ∙ ap (λ x. x ++ trail) (append_assoc acc (placeholder v ∷ []) r.elements);
    code = let z : part text from v.start ≡ [] = rw h (part_none text from) in rw (r.code, e, z);
    begins = (omega arith, omega arith);
    starts = λ f. refl;
    ends = ends_one s top t ts (placeholder v) r.elements (λ n. refl) r.ends;
  }

  -- what is read behind the token, from what is read behind the next
  behind-token : (us : List Token) (n : Next) → Goes acc s t n → start_at s t.range.start ≤ t.range.start → behind t ≤ end → ((acc' : List Element) (s' : State) → start_at s' (behind t) ≤ behind t → run text acc' s' us ≡ read es → Rest text end trail acc' es s' ts (start_at s' (behind t))) → follow n (λ acc s. run text acc s us) ≡ read es → Rest text end trail acc es s (t ∷ ts) (start_at s t.range.start)
  behind-token us (stop r) g b l f h = absurd (cc)
  behind-token us (go acc' s') (stayed p q n) b l f h = rest-stayed s' (start_at s t.range.start) n (rw (p, q) at (f acc' s' (omega arith) h))
  behind-token us (go acc' s') (passed p q e) b l f h =
      let o : start_at s t.range.start ≡ t.range.start = rw p in
      rw o (rest_plain p (rw (e, q) at (f acc' s' (rw q (omega arith)) h)))
  behind-token us (go acc' s') (took v p q x e) b l f h =
      rest-placeholder v (start_at s t.range.start) p q (omega arith) (rw (e, x) at (f acc' s' (rw x (omega arith)) h))

module _ (text : List ℕ) (end : ℕ) (fits : end ≤ length text) (es : List Element) (back : List Token) (k : Spaces back) where
  code_from : (front : List Token) (at : ℕ) (acc : List Element) (s : State) → Tiles at front end → start_at s at ≤ at → run text acc s (front ++ back) ≡ read es → Rest text end (map plain back) acc es s front (start_at s at)
  unfolding run raw_code vars segments
  code_from [] at acc s a b h =
      let e = spaces_behind text es back acc s k h in
      let o : start_at s at ≡ at = rw e.0 in
      rw o (record {
        elements = [];
        joined = e.1 ∙ rw (append-nil acc);
        code = rw a (sym (part_none text end));
        begins = omega (arith, a);
        starts = λ f. tt;
        ends = (e.0, refl);
      })
  code_from (t ∷ ts) at acc s a b h =
      let n : t.range.start ≤ t.range.end = omega (arith, a.0, a.1) in
      let r = behind-token text end fits (map plain back) es acc s t ts n (ts ++ back) (step text acc s t) (steps text acc t s) (rw a.0 b) (tiles_order t.range.end end ts a.2)
      (λ acc' s' b' h'. code_from ts t.range.end acc' s' a.2 b' h') h in
      subst (λ (x : ℕ). Rest text end (map plain back) acc es s (t ∷ ts) (start_at s x)) a.0 r

-- a token list has at most 255 tokens
pub list_few : (words text : List ℕ) → is_token_list words text ≡ true → length words ≤ 255
unfolding is_token_list
list_few words text h = by (leb (length words) 255) refl
  where
    by : (b : Bool) → leb (length words) 255 ≡ b → length words ≤ 255
    by true e = leb-true _ _ e
    by false e = absurd (let f : false ≡ true = rw e at h in cc)

-- the tokens of a list that is read
read_run : (words text : List ℕ) (es : List Element) → is_token_list words text ≡ true → reading words text ≡ read es → run text [] top (tokens_from words 0) ≡ read es
unfolding reading
read_run words text es l h = rw l at h

tiles_all : (words text : List ℕ) → is_token_list words text ≡ true → Tiles 0 (tokens_from words 0) (length text)
tiles_all words text l = let n : 0 + total_length words ≡ length text = omega (arith, list_fills words text l) in rw n at (tiles_from words 0)

-- the raw code of a whole list
pub code_segments : (words text : List ℕ) (es : List Element) → is_token_list words text ≡ true → reading words text ≡ read es → raw_code text es ≡ segments text (length text) 0 (vars es)
code_segments words text es l h =
    let r = code_from text (length text) (omega arith) es [] tt (tokens_from words 0) 0 [] top (tiles_all words text l) (omega arith) (rw (append-nil (tokens_from words 0)) (read_run words text es l h)) in
    let e : es ≡ r.elements = r.joined ∙ append-nil r.elements in
    rw e r.code

-- ---- the code without spaces at its ends

-- spaces in front are passed
spaces_before : (text : List ℕ) (ts lead : List Token) (acc : List Element) → Spaces lead → run text acc top (lead ++ ts) ≡ run text (acc ++ map plain lead) top ts
unfolding run
spaces_before text ts [] acc k = rw (append-nil acc)
spaces_before text ts (t ∷ lead) acc k =
    let d : is_dollar t ≡ false = ne_eqb t.kind 8 (λ e. omega (arith, k.0, e)) in
    rw d (spaces_before text ts lead (acc ++ (plain t ∷ [])) k.1 ∙ ap (λ acc. run text acc top ts) (append_assoc acc (plain t ∷ []) (map plain lead)))

trim_before : (ts : List Token) (m : List Element) → Spaces ts → trim_start (map plain ts ++ m) ≡ trim_start m
unfolding trim_start
trim_before [] m k = refl
trim_before (t ∷ ts) m k = rw (eq-eqb t.kind 2 k.0) (trim_before ts m k.1)

trim_spaces : (ts : List Token) → Spaces ts → trim_end (map plain ts) ≡ []
unfolding trim_end
trim_spaces [] k = refl
trim_spaces (t ∷ ts) k = rw (trim_spaces ts k.1, eq-eqb t.kind 2 k.0)

trim_behind : (m : List Element) (ts : List Token) → Spaces ts → trim_end (m ++ map plain ts) ≡ trim_end m
unfolding trim_end
trim_behind [] ts k = trim_spaces ts k
trim_behind (e ∷ m) ts k = ap (unless_last e) (trim_behind m ts k)

trim_not_space : (m trail : List Element) → StartsNotSpace m → EndsNotSpace m → trim_start (m ++ trail) ≡ m ++ trail
unfolding trim_start
trim_not_space [] trail h k = absurd k
trim_not_space (e ∷ m) trail h k = rw h

vars-append : (a b : List Element) → vars (a ++ b) ≡ vars a ++ vars b
unfolding vars
vars-append [] b = refl
vars-append (plain t ∷ a) b = vars-append a b
vars-append (placeholder v ∷ a) b = ap (λ vs. v ∷ vs) (vars-append a b)

vars-plain : (ts : List Token) → vars (map plain ts) ≡ []
unfolding vars
vars-plain [] = refl
vars-plain (t ∷ ts) = vars-plain ts

trimmed_elements : (text : List ℕ) (end : ℕ) (lead front back : List Token) (es : List Element) (from : ℕ) (range : Range) → Spaces lead → Spaces back → Between front range → (r : Rest text end (map plain back) (map plain lead) es top front from) → trim_end (trim_start es) ≡ r.elements
unfolding trim_start trim_end
trimmed_elements text end lead [] back es from range k l f r =
    let j : es ≡ map plain lead ++ (map plain back ++ []) = r.joined ∙ rw (r.ends.1, append-nil (map plain lead), append-nil (map plain back)) in
    let t : trim_start es ≡ [] = ap trim_start j ∙ trim_before lead (map plain back ++ []) k ∙ trim_before back [] l in
    ap trim_end t ∙ sym r.ends.1
trimmed_elements text end lead (u ∷ ts) back es from range k l f r =
    let m = r.elements in
    let g = last_not_space (u ∷ ts) range.end f.2 in
    let j : es ≡ map plain lead ++ (m ++ map plain back) = r.joined ∙ append_assoc (map plain lead) m (map plain back) in
    let t : trim_start es ≡ m ++ map plain back = ap trim_start j ∙ trim_before lead (m ++ map plain back) k ∙ trim_not_space m (map plain back) (r.starts (λ e. f.0)) (r.ends g) in
    ap trim_end t ∙ trim_behind m back l ∙ ends_not_space m (r.ends g)

-- the range is the text's between the spaces, or both have no bytes
range_segments : (text : List ℕ) (a b : ℕ) (front : List Token) (range : Range) (s : State) (m : List Element) → Tiles a front b → Between front range → Ends s front m → segments text b a (vars m) ≡ segments text range.end range.start (vars m)
unfolding segments vars
range_segments text a b [] range s m h f e =
    let n : vars m ≡ [] = ap vars e.1 in
    rw (n, h, f) (part_none text b ∙ sym (part_none text range.end))
range_segments text a b (t ∷ ts) range s m h f e =
    let x : a ≡ range.start = sym h.0 ∙ f.1 in
    let y : b ≡ range.end = tiles_end a b range.end (t ∷ ts) h f.2 in
    rw (x, y)

-- the code that a tree is of: the text between the spaces, with stand-in names for placeholders
pub tree_segments : (words text : List ℕ) (es : List Element) (range : Range) → Trimmed (tokens_from words 0) range → is_token_list words text ≡ true → reading words text ≡ read es → tree_text text es ≡ segments text range.end range.start (vars es)
tree_segments words text es range c l h =
    let u = tiles_split 0 (length text) (c.lead ++ c.inner) c.trail (rw c.split at (tiles_all words text l)) in
    let v = tiles_split 0 u.seam c.lead c.inner u.left in
    let q : run text [] top (tokens_from words 0) ≡ run text (map plain c.lead) top (c.inner ++ c.trail) = rw c.split (ap (run text [] top) (append_assoc c.lead c.inner c.trail)) ∙ spaces_before text (c.inner ++ c.trail) c.lead [] c.lead_spaces in
    let r = code_from text u.seam (tiles_order u.seam (length text) c.trail u.right) es c.trail c.trail_spaces c.inner v.seam (map plain c.lead) top v.right (omega arith) (sym q ∙ read_run words text es l h) in
    let w : vars es ≡ vars r.elements = ap vars r.joined ∙ rw (vars-append (map plain c.lead ++ r.elements) (map plain c.trail), vars-append (map plain c.lead) r.elements, vars-plain c.lead, vars-plain c.trail, append-nil (vars r.elements)) in
    ap (raw_code text) (trimmed_elements text u.seam c.lead c.inner c.trail es v.seam range c.lead_spaces c.trail_spaces c.between r) ∙ r.code ∙ range_segments text v.seam u.seam c.inner range top r.elements v.right c.between r.ends ∙ ap (segments text range.end range.start) (sym w)
