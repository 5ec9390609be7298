-- `named` meets its contract. Assumes nothing.
use Rattle.std.proofs.Common.{sym, ◌∙◌, length-take-le}
use Rattle.extend.proofs.WordLaws.{near_inside, name_is, name_other}
use Rattle.extend.proofs.spell.named.Goals as goal

pub slice_bounds-eq-end : goal.slice_bounds-eq-end
slice_bounds-eq-end c =
    let a = c.args in
    sym (length-take-le c.word_size-size.result a.text.now (near_inside a.text.now a.name.now a.n _ _ c.min.ensures c.word_size-size.ensures))

pub returns-then-eq : goal.returns-then-eq
returns-then-eq c =
    let a = c.args in
    sym (name_is a.text.now a.name.now a.n _ c.word_size-size.result c.min.ensures c.word_size-size.ensures (sym c.eq.ensures ∙ c.if-eq.true))

pub returns : goal.returns
returns c =
    let a = c.args in
    sym (name_other a.text.now a.name.now a.n _ c.word_size-size.result c.min.ensures c.word_size-size.ensures (sym c.eq.ensures ∙ c.if-eq.false))
