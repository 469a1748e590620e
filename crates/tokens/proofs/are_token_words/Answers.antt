-- `are_token_words` meets its contract.
use Rattle.std.proofs.Common.{rules, tests, ◌∙◌, sym, [], ◌∷◌}
use Rattle.std.proofs.lemmas.Iterator.{YieldsList-from_slice}
use Rattle.std.proofs.lemmas.Iterator.Search.{all_from_yields_List}
use Rattle.tokens.specs.Tokens.{is_token_word}
use Rattle.tokens.proofs.Laws.{all_words}
use Rattle.tokens.proofs.are_token_words.Goals as goal

pub returns : goal.returns
returns c =
    all_from_yields_List (λ w. is_token_word (w ∷ [])) _ _ c.all.result c.all.ensures.ran (YieldsList-from_slice c.args.words.now cc) (λ x b q k. search (rules, tests))
    ∙ sym (all_words c.args.words.now)
