-- Laws of token lists, for this crate and those above it.
-- Assumes nothing.
use mathlib.Core.Path.{◌≡◌, refl, sym, ap, ◌∙◌}
use mathlib.Core.Bool.{Bool, true, false, ◌&&◌}
use mathlib.Core.List.{List, [], ◌∷◌}
use Prim.Native.Nat.{ℕ, suc, ◌+◌}
use lib.Dec.{eqb, leb}
use lib.ListN.{length}
use Rattle.std.proofs.Common.{sum_by}
use Rattle.std.specs.List.{list_all}
use Rattle.std.proofs.lemmas.List.Sums.{sum_by-cons}
use borrow.Author.Tests.{eqb-true}
use Rattle.words.specs.Fields.{token_length}
use Rattle.tokens.specs.Tokens.{tokens_from, is_token_word, all_token_words, total_length, is_token_list}

-- a token a word
pub length_tokens : (words : List ℕ) (at : ℕ) → length (tokens_from words at) ≡ length words
unfolding tokens_from
length_tokens [] at = refl
length_tokens (w ∷ ws) at = ap suc (length_tokens ws (at + token_length (w ∷ ws)))

-- the texts fill the text
pub list_fills : (words text : List ℕ) → is_token_list words text ≡ true → total_length words ≡ length text
unfolding is_token_list
list_fills words text h = by (leb (length words) 255) (all_token_words words) (eqb (total_length words) (length text)) refl h
  where
    by : (a b e : Bool) → eqb (total_length words) (length text) ≡ e → (a && b && e) ≡ true → total_length words ≡ length text
    by true true true f h = eqb-true _ _ f
    by true true false f h = absurd (cc)
    by true false e f h = absurd (cc)
    by false b e f h = absurd (cc)

-- the same of each word by itself
pub all_words : (words : List ℕ) → all_token_words words ≡ list_all (λ w. is_token_word (w ∷ [])) words
unfolding all_token_words
all_words [] = refl
all_words (w ∷ ws) = ap (λ b. is_token_word (w ∷ []) && b) (all_words ws)

pub length_words : (words : List ℕ) → total_length words ≡ sum_by (λ w. token_length (w ∷ [])) words
unfolding total_length
length_words [] = refl
length_words (w ∷ ws) = ap (λ (n : ℕ). token_length (w ∷ []) + n) (length_words ws) ∙ sym (sum_by-cons (λ (v : ℕ). token_length (v ∷ [])) w ws)
