-- Reading a list from its front.
-- Assumes nothing.
use Rattle.std.proofs.Common.{◌≡◌, ◌≢◌, refl, sym, ap, ◌∙◌, ℕ, true, false, List, [], ◌∷◌, ◌++◌, Ok, Err}
use borrow.Author.Tests.{ne_eqb}
use Rattle.errors.specs.declared.Refusal.{Refusal}
use Rattle.errors.specs.declared.Refusal.TheVariants.{MalformedList}
use Rattle.tokens.specs.declared.Token.{Token}
use Rattle.tokens.specs.Tokens.{tokens_from, is_token_list}
use Rattle.parsing.specs.declared.patterns.Placeholder.{Placeholder}
use Rattle.parsing.specs.Reading.{Var, Element, plain, placeholder, vars, Reading, read, refused, follow, run, top, dollar, reading, placeholders_in, placeholders}
use Rattle.parsing.specs.Patterns.{var_of}
use Rattle.parsing.specs.Steps.{PlaceholderRead, Added}
use Rattle.parsing.proofs.Laws.{goes, ends}
use Rattle.parsing.proofs.PatternLaws.{vars_snoc}

-- what was read of a list's tokens before those left
pub record SoFar (text : List ℕ) (all : List Token) (vs : List Var) (left : List Token) : Type 0 where
  pub elements : List Element
  pub shows : vars elements ≡ vs
  pub reads : run text [] top all ≡ run text elements top left

pub so_far_none : (text : List ℕ) (all : List Token) → SoFar text all [] all
unfolding vars
so_far_none text all = record { elements = []; shows = refl; reads = refl }

vars_plain : (es : List Element) (t : Token) → vars (es ++ (plain t ∷ [])) ≡ vars es
unfolding vars
vars_plain [] t = refl
vars_plain (plain u ∷ es) t = vars_plain es t
vars_plain (placeholder v ∷ es) t = ap (λ vs. v ∷ vs) (vars_plain es t)

module _ (text : List ℕ) (all ts mid : List Token) (vs : List Var) (t : Token) (s : SoFar text all vs ts) (next : ts ≡ t ∷ mid) where
  -- a token that is no `$`
  pub so_far_plain : t.kind ≢ 8 → SoFar text all vs mid
  so_far_plain n = record {
    elements = s.elements ++ (plain t ∷ []);
    shows = vars_plain s.elements t ∙ s.shows;
    reads = s.reads ∙ rw next (goes text s.elements top t mid (s.elements ++ (plain t ∷ [])) top (rw (ne_eqb t.kind 8 n)));
  }

  -- a `$`, and what stands behind it
  module _ (k : t.kind ≡ 8) where
    to_dollar : run text [] top all ≡ run text s.elements (dollar t.range.start) mid
    to_dollar = s.reads ∙ rw next (goes text s.elements top t mid s.elements (dollar t.range.start) (rw k))

    pub unread : (r : Refusal) (left : List Token) → PlaceholderRead text (dollar t.range.start) mid (Err r) left → run text [] top all ≡ refused r
    unread r left h = to_dollar ∙ h s.elements

    module _ (p : Placeholder) (left : List Token) (h : PlaceholderRead text (dollar t.range.start) mid (Ok p) left) where
      pub not_added : (r : Refusal) (ws : List Var) → Added text vs (var_of p) (Err r) ws → run text [] top all ≡ refused r
      not_added r ws a = to_dollar ∙ h.1 s.elements ∙ ap (λ n. follow n (λ acc s. run text acc s left)) (a s.elements s.shows)

      pub so_far_more : (ws : List Var) → Added text vs (var_of p) (Ok tt) ws → SoFar text all ws left
      so_far_more ws a = record {
        elements = s.elements ++ (placeholder (var_of p) ∷ []);
        shows = vars_snoc s.elements (var_of p) ∙ ap (λ us. us ++ (var_of p ∷ [])) s.shows ∙ sym a.0;
        reads = to_dollar ∙ h.1 s.elements ∙ ap (λ n. follow n (λ acc s. run text acc s left)) (a.1 s.elements s.shows);
      }

-- the placeholders of a list
pub placeholders_malformed : (words text : List ℕ) → is_token_list words text ≡ false → placeholders words text ≡ Err MalformedList
unfolding reading
placeholders_malformed words text h = rw h

module _ (words text : List ℕ) (f : is_token_list words text ≡ true) where
  pub placeholders_refused : (r : Refusal) → run text [] top (tokens_from words 0) ≡ refused r → placeholders words text ≡ Err r
  unfolding reading
  placeholders_refused r h = rw (f, h)

  pub placeholders_all : (vs : List Var) → SoFar text (tokens_from words 0) vs [] → placeholders words text ≡ Ok vs
  unfolding reading
  placeholders_all vs s = rw (f, s.reads, ends text s.elements top, s.shows)

-- ---- what an answer says of the reading

pub record WasRead (r : Reading) (vs : List Var) : Type 0 where
  pub elements : List Element
  pub is : r ≡ read elements
  pub shows : vars elements ≡ vs

pub was_read : (r : Reading) (vs : List Var) → Ok vs ≡ placeholders_in r → WasRead r vs
was_read (Ok es) vs h = record { elements = es; is = refl; shows = cc }
was_read (Err x) vs h = absurd (cc)
