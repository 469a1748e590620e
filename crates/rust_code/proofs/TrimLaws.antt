-- Finding the WHITESPACE tokens at a list's ends, from its front.
-- Assumes nothing.
use Rattle.std.proofs.Common.{◌≡◌, ◌≢◌, refl, sym, ap, ◌∙◌, List, [], ◌∷◌, ◌++◌, append_assoc, append-nil, Option, Some, None}
use Rattle.std.specs.Prelude.{unwrap_or}
use Rattle.words.specs.declared.texts.Range.{Range}
use Rattle.tokens.specs.declared.Token.{Token}
use Rattle.rust_code.specs.Trim.{Spaces, EndsAt, Between}

-- the range of some tokens, of which not all are spaces
pub record Found (ts : List Token) (r : Range) : Type 0 where
  pub lead : List Token
  pub first : Token
  pub more : List Token
  pub trail : List Token
  pub split : ts ≡ lead ++ (first ∷ more) ++ trail
  pub lead_spaces : Spaces lead
  pub trail_spaces : Spaces trail
  pub between : Between (first ∷ more) r

-- the range of the tokens seen so far; none where all are spaces
abbrev pub SoFar : List Token → Option Range → Type 0
SoFar ts None = Spaces ts
SoFar ts (Some r) = Found ts r

spaces_push : (ts : List Token) (t : Token) → Spaces ts → t.kind ≡ 2 → Spaces (ts ++ (t ∷ []))
spaces_push [] t h k = (k, tt)
spaces_push (u ∷ ts) t h k = (h.0, spaces_push ts t h.1 k)

ends_push : (ts : List Token) (t : Token) → t.kind ≢ 2 → EndsAt (ts ++ (t ∷ [])) t.range.end
ends_push [] t k = (k, refl)
ends_push (u ∷ []) t k = (k, refl)
ends_push (u ∷ v ∷ ts) t k = ends_push (v ∷ ts) t k

-- one more token, a space or not
pub space_more : (ts : List Token) (o : Option Range) (t : Token) → t.kind ≡ 2 → SoFar ts o → SoFar (ts ++ (t ∷ [])) o
space_more ts None t k h = spaces_push ts t h k
space_more ts (Some r) t k h = record {
  lead = h.lead;
  first = h.first;
  more = h.more;
  trail = h.trail ++ (t ∷ []);
  split = ap (λ us. us ++ (t ∷ [])) h.split ∙ append_assoc (h.lead ++ (h.first ∷ h.more)) h.trail (t ∷ []);
  lead_spaces = h.lead_spaces;
  trail_spaces = spaces_push h.trail t h.trail_spaces k;
  between = h.between;
}

pub solid_more : (ts : List Token) (o : Option Range) (t : Token) → t.kind ≢ 2 → SoFar ts o → Found (ts ++ (t ∷ [])) (record { start = (unwrap_or o t.range).start; end = t.range.end })
solid_more ts None t k h = record {
  lead = ts;
  first = t;
  more = [];
  trail = [];
  split = sym (append-nil (ts ++ (t ∷ [])));
  lead_spaces = h;
  trail_spaces = tt;
  between = (k, refl, (k, refl));
}
solid_more ts (Some r) t k h = record {
  lead = h.lead;
  first = h.first;
  more = h.more ++ (h.trail ++ (t ∷ []));
  trail = [];
  split = ap (λ us. us ++ (t ∷ [])) h.split ∙ simp (append_assoc, append-nil);
  lead_spaces = h.lead_spaces;
  trail_spaces = tt;
  between = (h.between.0, h.between.1, rw (append_assoc h.more h.trail (t ∷ [])) at (ends_push (h.first ∷ (h.more ++ h.trail)) t k));
}
