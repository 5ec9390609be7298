-- `word_size` meets its contract: by the place of the first byte that ends a word. Assumes nothing.
use Rattle.std.proofs.Common.{rules, tests, ◌∙◌}
use Rattle.std.proofs.lemmas.Iterator.{YieldsList-from_slice}
use Rattle.std.proofs.lemmas.Iterator.Search.{position_from_yields_List}
use Rattle.extend.proofs.WordLaws.{ends_word, word_found}
use Rattle.extend.proofs.spell.word_size.Goals as goal

pub returns : goal.returns
returns c =
    let l = c.args.text.now in
    let found =
    position_from_yields_List {all = l} ends_word _ _ c.position.result c.position.ensures.ran
    (YieldsList-from_slice l (search rules)) (λ x b q k. search (rules, tests)) in
    c.unwrap_or.ensures ∙ word_found l c.position.result found
